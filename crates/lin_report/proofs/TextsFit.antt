-- The text of a report that can be written has at most 64 bytes for each call, and 128 for the summary line.
use Rattle.std.proofs.Common.{◌≡◌, ℕ, ◌+◌, ◌-◌, ◌*◌, ◌≤◌, Option, Some, None, List, [], ◌∷◌, ◌++◌, length, cond, true, false, nat_lt, map, count_by, codes, All, length-append, refl, ap, ◌∙◌, arith}
use Rattle.std.proofs.lemmas.List.Elements.{All-head, All-tail}
use Rattle.lin_report.specs.declared.calls.Op.{Op}
use Rattle.lin_report.specs.declared.calls.Reply.{Reply}
use Rattle.lin_report.specs.declared.calls.Path.{Path}
use Rattle.lin_report.specs.Calls.{Call, Report, answered_call, calls_of}
use Rattle.lin_report.specs.Text.{NEWLINE, spaced, count_words, overtaken_words, lines, call_line, insert_call, by_begin, is_fast, is_exhausted, report_text, summary_text}
use Rattle.lin_report.specs.Writing.{CanWrite, IsPrintable, ReportTextFits}
use Rattle.lin_report.proofs.Lengths.{answered_length, pending_length}
use Rattle.lin_report.proofs.Summaries.{summary_pieces, summary_length}

line_length : (seat number begin : ℕ) (op : Op) (answer : Option (Reply × ℕ)) (path : Path) →
    let c : Call = record { seat = seat; number = number; op = op; answer = answer; begin = begin; path = path } in
    IsPrintable c → length (call_line c) ≤ 64
line_length seat number begin op None path can = pending_length (record { seat = seat; number = number; op = op; begin = begin; path = path }) can
line_length seat number begin op (Some answer) path can =
    answered_length (record { seat = seat; number = number; op = op; reply = answer.0; begin = begin; «end» = answer.1; path = path }) can

-- an inserted call adds its line
length-insert : (c : Call) (calls : List Call) → length (lines (insert_call c calls)) ≡ length (call_line c) + length (lines calls)
unfolding lines
length-insert c [] = length-append (call_line c) []
length-insert c (d ∷ calls) =
    elim (nat_lt d.begin c.begin) as (λ b. length (lines (cond b (d ∷ insert_call c calls) (c ∷ d ∷ calls))) ≡ length (call_line c) + length (lines (d ∷ calls))) [
      | true ↦ omega (arith, length-append (call_line d) (lines (insert_call c calls)), length-append (call_line d) (lines calls), length-insert c calls)
      | false ↦ length-append (call_line c) (lines (d ∷ calls))
    ]

lines_length : (calls : List Call) → All IsPrintable calls → length (lines (by_begin calls)) ≤ 64 * length calls
unfolding lines by_begin
lines_length [] can = omega arith
lines_length (c ∷ calls) can =
    omega (arith, length-insert c (by_begin calls), line_length c.seat c.number c.begin c.op c.answer c.path (All-head IsPrintable c calls can), lines_length calls (All-tail IsPrintable c calls can))

short_summary : (report : Report) (count : Option ℕ) → CanWrite report count → length (summary_text report count) ≤ 128
short_summary report count can =
    let calls = length report.receipts + length report.pending in
    let fast = count_by is_fast (calls_of report) in
    let exhausted = count_by is_exhausted (map answered_call report.receipts) in
    let front = codes "calls" ++ spaced (count_words calls fast (calls - fast) exhausted (length report.pending)) in
    let back = spaced (overtaken_words count) ++ NEWLINE ∷ [] in
    omega (arith, ap length (summary_pieces report count calls fast exhausted refl refl refl) ∙ length-append front back, summary_length report count calls fast exhausted can refl refl refl)

pub report_text_fits : ReportTextFits
unfolding report_text
report_text_fits report count can = (
  omega (arith, length-append (lines (by_begin (calls_of report))) (summary_text report count), lines_length (calls_of report) can.printable, short_summary report count can),
  short_summary report count can,
)
