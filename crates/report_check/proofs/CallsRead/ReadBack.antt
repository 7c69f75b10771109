-- A text is the text of one report of calls in order at most, and a reader finds that one.
use Rattle.std.proofs.Common.{◌≡◌, ℕ, ◌+◌, ◌-◌, ◌<◌, ◌≤◌, Bool, true, false, ◌||◌, Option, Some, None, IfSome, inl, inr, List, [], ◌∷◌, ◌++◌, map, length, take, get_or, append_assoc, append-nil, length-append, refl, sym, ap, ap₂, subst, ◌∙◌, arith}
use Rattle.std.specs.List.{AllByRecursion, filter_map, list_any}
use Rattle.std.specs.Fmt.{decimal}
use Rattle.std.specs.Option.{option_map}
use Rattle.std.proofs.Math.Seq.{take-append_seam}
use Rattle.std.proofs.lemmas.Bool.{ne_eqb, cases_lt}
use Rattle.std.proofs.lemmas.Fmt.{decimal_digit}
use Rattle.std.proofs.lemmas.List.{append_cancel_left, append_cancel_right, get_or_past, length-map}
use Rattle.std.proofs.lemmas.Option.{same_Some, some_pair_parts}
use Rattle.lin_report.specs.declared.calls.Client.{Client}
use Rattle.lin_report.specs.declared.calls.Reply.{Reply}
use Rattle.lin_report.specs.declared.calls.Receipt.{Receipt}
use Rattle.lin_report.specs.declared.calls.PendingCall.{PendingCall}
use Rattle.lin_report.specs.Calls.{Call, Report, report_of, calls_of}
use Rattle.lin_report.specs.Text.{NEWLINE, call_line, by_begin, lines, summary_text, report_text}
use Rattle.lin_report.specs.Writing.{IsPrintable, IsPrintableAnswer, CanWrite}
use Rattle.report_check.specs.declared.call_lines.CallLine.{CallLine}
use Rattle.report_check.specs.CallLines.{◌>>=◌, AsOption, line_at, call_at, call_of}
use Rattle.report_check.specs.Beginnings.{TICKS, has_tick, ends_at, IsNext, AreInOrder, BeginsWith}
use Rattle.report_check.specs.Reports.{REPORT_LIMIT, receipt_in, waiting_in, report_from, AreWhole, MayTell, HasSummary, TellsSummary, KnowsCalls, IsTextOf, HasMore, behind, end_at, summary_at}
use Rattle.report_check.proofs.LineTexts.LineFields.{bind_at}
use Rattle.report_check.proofs.LineTexts.CallsOnLines.{fields, line_is, call_again}
use Rattle.report_check.proofs.LineTexts.CleanLines.{first_line_is}
use Rattle.report_check.proofs.CallsRead.NextCalls.{is_line_of_next}
use Rattle.report_check.proofs.CallsRead.Apart.{lines_again, report_again}
use Rattle.report_check.proofs.CallsRead.InOrder.{rising, printable, can_write}
use Rattle.report_check.proofs.LineTexts.SummaryEnds.{summary_front, told_end, summary_is, behind_takes, behind_again, end_takes, end_again}

-- a summary line with what stands behind it
text_behind : (report : Report) (overtaken : Option ℕ) (rest : List ℕ) → summary_text report overtaken ++ rest ≡ summary_front report ++ (told_end overtaken ++ rest)
text_behind report overtaken rest = ap (λ (b : List ℕ). b ++ rest) (summary_is report overtaken) ∙ append_assoc (summary_front report) (told_end overtaken) rest

front_is : (report : Report) (front : List ℕ) → front ++ NEWLINE ∷ [] ≡ summary_text report None → front ≡ summary_front report
unfolding told_end
front_is report front e = append_cancel_right front (summary_front report) (NEWLINE ∷ []) (e ∙ summary_is report None)

-- what is read there is a summary line of the report
pub text_takes : (report : Report) (front bytes : List ℕ) (overtaken : Option ℕ) (rest : List ℕ) → front ++ NEWLINE ∷ [] ≡ summary_text report None → summary_at front bytes ≡ Some (overtaken, rest)
    → MayTell overtaken × (bytes ≡ summary_text report overtaken ++ rest)
text_takes report front bytes overtaken rest whole e = by_front (behind front bytes) refl e
  where
    by_front : (o : Option (List ℕ)) → behind front bytes ≡ o → (o >>= end_at) ≡ Some (overtaken, rest) → MayTell overtaken × (bytes ≡ summary_text report overtaken ++ rest)
    by_front None is e = absurd cc
    by_front (Some last) is e =
        let end = end_takes last overtaken rest e in
        (end.0, behind_takes front bytes last is ∙ ap₂ (λ (a b : List ℕ). a ++ b) (front_is report front whole) end.1 ∙ sym (text_behind report overtaken rest))

-- and such a line is read
pub text_again : (report : Report) (front bytes : List ℕ) (overtaken : Option ℕ) (rest : List ℕ) → front ++ NEWLINE ∷ [] ≡ summary_text report None → MayTell overtaken → bytes ≡ summary_text report overtaken ++ rest
    → summary_at front bytes ≡ Some (overtaken, rest)
text_again report front bytes overtaken rest whole few text =
    ap (summary_at front) (text ∙ text_behind report overtaken rest ∙ ap (λ (b : List ℕ). b ++ (told_end overtaken ++ rest)) (sym (front_is report front whole)))
    ∙ bind_at (behind front (front ++ (told_end overtaken ++ rest))) end_at (told_end overtaken ++ rest) (behind_again front (told_end overtaken ++ rest))
    ∙ end_again overtaken rest few

-- two summary lines of one report that begin the same bytes end alike
same_end : (report : Report) (first second : Option ℕ) (after later : List ℕ) → MayTell first → MayTell second → summary_text report first ++ after ≡ summary_text report second ++ later → after ≡ later
same_end report first second after later few small e =
    let ends = append_cancel_left (summary_front report) (told_end first ++ after) (told_end second ++ later) (sym (text_behind report first after) ∙ e ∙ text_behind report second later) in
    let read = sym (end_again first after few) ∙ ap end_at ends ∙ end_again second later small in
    (some_pair_parts first second after later read).1

first_of : (ds x y z : List ℕ) (n : ℕ) → ds ≡ n ∷ [] → get_or (((ds ++ x) ++ y) ++ z) 0 0 ≡ n
first_of ds x y z n e = ap (λ (w : List ℕ). get_or (((w ++ x) ++ y) ++ z) 0 0) e

-- a call's line begins with its seat
seat_first : (c : Call) (after : List ℕ) → c.seat < 8 → get_or (call_line c ++ after) 0 0 ≡ 48 + c.seat
seat_first c after small =
    ap (λ (b : List ℕ). get_or (b ++ after) 0 0) (line_is c) ∙ first_of (decimal c.seat) _ (NEWLINE ∷ []) after (48 + c.seat) (decimal_digit c.seat (omega (arith, small)))

summary_first : (report : Report) (rest : List ℕ) → get_or (summary_front report ++ rest) 0 0 ≡ 99
unfolding summary_front
summary_first report rest = refl

-- and a summary line does not
no_call_there : (client : Client) (before : List Call) (report : Report) (overtaken : Option ℕ) (rest : List ℕ) (c : Call) (after : List ℕ) → ¬ IsNext client before (summary_text report overtaken ++ rest) c after
no_call_there client before report overtaken rest c after next =
    let begun = sym (summary_first report (told_end overtaken ++ rest)) ∙ ap (λ (b : List ℕ). get_or b 0 0) (sym (text_behind report overtaken rest) ∙ next.text) ∙ seat_first c after next.printable.seat in
    omega (arith, begun, next.printable.seat)

-- no more calls
abbrev NoMore : Client → List Call → List ℕ → Type 0
NoMore client before rest = (c : Call) (after : List ℕ) → ¬ IsNext client before rest c after

next_is : (client : Client) (before calls : List Call) (c : Call) (rest bytes : List ℕ) → AreInOrder client before (c ∷ calls) → bytes ≡ lines (c ∷ calls) ++ rest → IsNext client before bytes c (lines calls ++ rest)
unfolding lines
next_is client before calls c rest bytes order text =
    record { printable = order.0.0; command = order.0.1; follows = order.0.2; text = text ∙ append_assoc (call_line c) (lines calls) rest }

-- the calls that are next are one
same_next : (client : Client) (before : List Call) (bytes : List ℕ) (c d : Call) (after later : List ℕ) → IsNext client before bytes c after → IsNext client before bytes d later → (c ≡ d) × (after ≡ later)
same_next client before bytes c d after later first second =
    let line : (e : Call) (behind : List ℕ) → IsNext client before bytes e behind → line_at bytes ≡ Some (fields e, behind) = λ e behind next. ap line_at next.text ∙ first_line_is client e behind next.printable next.command in
    let parts = some_pair_parts (fields c) (fields d) after later (sym (line c after first) ∙ line d later second) in
    let read = sym (call_again client (fields c) c (is_line_of_next client before bytes c after first)) ∙ ap (call_at client) parts.0 ∙ call_again client (fields d) d (is_line_of_next client before bytes d later second) in
    (same_Some c d read, parts.1)

same_calls : (client : Client) (before calls others : List Call) (rest last : List ℕ) → AreInOrder client before calls → AreInOrder client before others → lines calls ++ rest ≡ lines others ++ last
    → NoMore client (before ++ calls) rest → NoMore client (before ++ others) last → (calls ≡ others) × (rest ≡ last)
unfolding lines
same_calls client before [] [] rest last order other e no_more none = (refl, e)
same_calls client before [] (d ∷ others) rest last order other e no_more none =
    absurd (no_more d (lines others ++ last) (subst (λ (cs : List Call). IsNext client cs rest d (lines others ++ last)) (sym (append-nil before)) (next_is client before others d last rest other e)))
same_calls client before (c ∷ calls) [] rest last order other e no_more none =
    absurd (none c (lines calls ++ rest) (subst (λ (cs : List Call). IsNext client cs last c (lines calls ++ rest)) (sym (append-nil before)) (next_is client before calls c rest last order (sym e))))
same_calls client before (c ∷ calls) (d ∷ others) rest last order other e no_more none =
    let bytes = lines (c ∷ calls) ++ rest in
    let next = same_next client before bytes c d (lines calls ++ rest) (lines others ++ last) (next_is client before calls c rest bytes order refl) (next_is client before others d last bytes other e) in
    let found = same_calls client (before ++ c ∷ []) calls others rest last order.1 (subst (λ (x : Call). AreInOrder client (before ++ x ∷ []) others) (sym next.0) other.1) next.1
    (subst (λ (cs : List Call). NoMore client cs rest) (sym (append_assoc before (c ∷ []) calls)) no_more)
    (subst (λ (cs : List Call). NoMore client cs last) (ap (λ (x : Call). before ++ x ∷ others) (sym next.0) ∙ sym (append_assoc before (c ∷ []) others)) none) in
    (ap₂ (λ (x : Call) (xs : List Call). x ∷ xs) next.0 found.0, found.1)

-- the text of a report begins with the calls on its lines, and behind them stands the summary line of these
pub lines_of_text : (client : Client) (bytes : List ℕ) (report : Report) (calls : List Call) (rest : List ℕ) (is : IsTextOf client bytes report) → BeginsWith client bytes calls rest
    → (report ≡ report_from calls) × HasSummary calls rest is.overtaken []
unfolding report_text
lines_of_text client bytes report calls rest is begins =
    let own = by_begin (calls_of report) in
    let again = report_again report is.overtaken is.is.can in
    let parted : report ≡ report_from own = ap₂ report_of (sym again.0) (sym again.1) in
    let summary = summary_text report is.overtaken in
    let found = same_calls client [] calls own rest summary begins.in_order is.is.in_order (sym begins.text ∙ is.is.text) begins.no_more
    (subst (λ (b : List ℕ). NoMore client own b) (append-nil summary) (no_call_there client own report is.overtaken [])) in
    let report_is : report ≡ report_from calls = parted ∙ ap report_from (sym found.0) in (
      report_is,
      record {
        whole = subst AreWhole (sym found.0) is.is.whole;
        few = is.is.few;
        text = found.1 ∙ ap (λ (r : Report). summary_text r is.overtaken) report_is ∙ sym (append-nil (summary_text (report_from calls) is.overtaken));
      },
    )

pub nothing_behind : (client : Client) (bytes : List ℕ) (report : Report) (calls : List Call) (rest : List ℕ) → IsTextOf client bytes report → BeginsWith client bytes calls rest → ¬ HasMore calls rest
nothing_behind client bytes report calls rest is begins more =
    let own = (lines_of_text client bytes report calls rest is begins).1 in
    let ends = same_end (report_from calls) more.overtaken is.overtaken more.rest [] more.summary.few is.is.few (sym more.summary.text ∙ own.text) in
    omega (arith, ap length ends, more.more)

few_enough : (overtaken : Option ℕ) → MayTell overtaken → IfSome overtaken (λ most. most ≤ 524280)
few_enough None few = tt
few_enough (Some most) few = omega (arith, few)

-- calls in order with their summary line are the text of their report
pub text_of_lines : (client : Client) (bytes : List ℕ) (calls : List Call) (rest : List ℕ) (overtaken : Option ℕ) → length bytes ≤ REPORT_LIMIT → BeginsWith client bytes calls rest → HasSummary calls rest overtaken []
    → IsTextOf client bytes (report_from calls)
unfolding report_text
text_of_lines client bytes calls rest overtaken short begins has =
    let same = lines_again calls (rising client [] calls begins.in_order) in
    record {
      overtaken = overtaken;
      is = record {
        short = short;
        text =
            begins.text ∙ ap (λ (b : List ℕ). lines calls ++ b) (has.text ∙ append-nil (summary_text (report_from calls) overtaken))
            ∙ ap (λ (cs : List Call). lines cs ++ summary_text (report_from calls) overtaken) (sym same);
        can = can_write client calls overtaken (few_enough overtaken has.few) begins.in_order;
        few = has.few;
        in_order = subst (AreInOrder client []) (sym same) begins.in_order;
        whole = subst AreWhole (sym same) has.whole;
      };
    }

-- each line takes a byte
pub few_lines : (calls : List Call) (rest : List ℕ) → length calls ≤ length (lines calls ++ rest)
unfolding lines
few_lines [] rest = omega arith
few_lines (c ∷ calls) rest =
    let own = ap length (line_is c) ∙ length-append (fields c) (NEWLINE ∷ []) in
    omega (arith, length-append (call_line c ++ lines calls) rest, length-append (call_line c) (lines calls), length-append (lines calls) rest, few_lines calls rest, own)

-- a tick that may not be printed is none of a call on a line
none_above : (tick : ℕ) (calls : List Call) → TICKS ≤ tick → AllByRecursion IsPrintable calls → list_any (has_tick tick) calls ≡ false
none_above tick [] above all = refl
none_above tick (c ∷ calls) above all = ap₂ (λ (a b : Bool). a || b) (ap₂ (λ (a b : Bool). a || b) (ne_eqb c.begin tick (λ same. omega (arith, all.0.begin, same))) (no_end c.answer all.0.answer)) (none_above tick calls above all.1)
  where
    no_end : (a : Option (Reply × ℕ)) → IfSome a (IsPrintableAnswer c.op) → ends_at a tick ≡ false
    no_end None h = refl
    no_end (Some a) h = ne_eqb a.1 tick (λ same. omega (arith, h.end, same))

-- the front of a summary line, from the whole one
pub without_newline : (report : Report) (written left : List ℕ) (n : ℕ) → written ≡ summary_text report None → n ≡ length written → left ≡ take (n - 1) written → left ++ NEWLINE ∷ [] ≡ summary_text report None
unfolding told_end
without_newline report written left n text long taken =
    let whole = text ∙ summary_is report None in
    let at : n - 1 ≡ length (summary_front report) = omega (arith, long, ap length whole, length-append (summary_front report) (NEWLINE ∷ [])) in
    ap (λ (b : List ℕ). b ++ NEWLINE ∷ []) (taken ∙ ap₂ (λ (k : ℕ) (b : List ℕ). take k b) at whole ∙ take-append_seam (summary_front report) (NEWLINE ∷ [])) ∙ sym (summary_is report None)

-- what the code finds of the summary line
pub tells_summary : {F : Type 0} (view : F → Option ℕ × List ℕ) (calls : List Call) (report : Report) (ticks : List Bool) (count : ℕ) (front bytes : List ℕ) (found : Option F) → KnowsCalls calls report ticks count
    → ((tick : ℕ) → tick < count → get_or ticks tick false ≡ true) → front ++ NEWLINE ∷ [] ≡ summary_text report None → AsOption view found (summary_at front bytes) → TellsSummary calls bytes (option_map view found)
tells_summary view calls report ticks count front bytes None knows all line e = λ overtaken rest has.
    let again = text_again report front bytes overtaken rest line has.few (has.text ∙ ap (λ (r : Report). summary_text r overtaken ++ rest) (sym knows.parted)) in
    let none = sym e ∙ again in absurd cc
tells_summary view calls report ticks count front bytes (Some x) knows all line e =
    let read = text_takes report front bytes (view x).0 (view x).1 line e in
    record {
      whole = λ tick lt. sym (knows.drawn tick) ∙ all tick (subst (λ n. tick < n) (sym knows.counted) lt);
      few = read.0;
      text = read.1 ∙ ap (λ (r : Report). summary_text r (view x).0 ++ (view x).1) knows.parted;
    }

-- the ticks that are kept, with none beyond them
everywhere : (calls : List Call) (ticks : List Bool) → length ticks ≡ TICKS → ((tick : ℕ) → tick < TICKS → get_or ticks tick false ≡ list_any (has_tick tick) calls) → AllByRecursion IsPrintable calls
    → (tick : ℕ) → get_or ticks tick false ≡ list_any (has_tick tick) calls
everywhere calls ticks long drawn all tick =
    elim (cases_lt tick TICKS) [
      | inl lt ↦ drawn tick lt
      | inr above ↦ get_or_past ticks tick false (omega (arith, long, above)) ∙ sym (none_above tick calls above all)
    ]

pub knows_calls : (client : Client) (bytes : List ℕ) (ls seen : List CallLine) (ticks looked : List Bool) (rest : List ℕ) (receipts : List Receipt) (pending : List PendingCall) (count : ℕ)
    → BeginsWith client bytes (map call_of ls) rest → length ticks ≡ TICKS → ((tick : ℕ) → tick < TICKS → get_or ticks tick false ≡ list_any (has_tick tick) (map call_of ls))
    → seen ≡ ls → looked ≡ ticks → receipts ≡ filter_map receipt_in (map call_of seen) → pending ≡ filter_map waiting_in (map call_of seen) → count ≡ length ls + length receipts
    → KnowsCalls (map call_of ls) (report_of receipts pending) looked count
knows_calls client bytes ls seen ticks looked rest receipts pending count begins long drawn lines_are ticks_are answered waiting counted =
    let answered_are = answered ∙ ap (λ (xs : List CallLine). filter_map receipt_in (map call_of xs)) lines_are in
    record {
      parted = ap₂ report_of answered_are (waiting ∙ ap (λ (xs : List CallLine). filter_map waiting_in (map call_of xs)) lines_are);
      drawn = λ tick. ap (λ (ts : List Bool). get_or ts tick false) ticks_are ∙ everywhere (map call_of ls) ticks long drawn (printable client [] (map call_of ls) begins.in_order) tick;
      counted = counted ∙ ap₂ (λ (m n : ℕ). m + n) (sym (length-map ls call_of)) (ap length answered_are);
    }

pub report_can_be_written : (client : Client) (bytes : List ℕ) (calls : List Call) (rest : List ℕ) (report : Report) → BeginsWith client bytes calls rest → report ≡ report_from calls → CanWrite report None
report_can_be_written client bytes calls rest report begins parted = subst (λ (r : Report). CanWrite r None) (sym parted) (can_write client calls None tt begins.in_order)

pub none_told : {F : Type 0} (view : F → Option ℕ × List ℕ) (calls : List Call) (bytes : List ℕ) (found : Option F) → TellsSummary calls bytes (option_map view found) → found ≡ None
    → (overtaken : Option ℕ) (rest : List ℕ) → ¬ HasSummary calls bytes overtaken rest
none_told view calls bytes found tells e = subst (λ o. TellsSummary calls bytes (option_map view o)) e tells

pub some_told : {F : Type 0} (view : F → Option ℕ × List ℕ) (calls : List Call) (bytes : List ℕ) (found : Option F) (x : F) → TellsSummary calls bytes (option_map view found) → found ≡ Some x
    → HasSummary calls bytes (view x).0 (view x).1
some_told view calls bytes found x tells e = subst (λ o. TellsSummary calls bytes (option_map view o)) e tells

pub nothing_left : (bytes : List ℕ) → length bytes < 1 → bytes ≡ []
nothing_left [] lt = refl
nothing_left (b ∷ bytes) lt = absurd (omega arith)

pub lines_fit : (client : Client) (bytes : List ℕ) (ls : List CallLine) (rest : List ℕ) → BeginsWith client bytes (map call_of ls) rest → length bytes ≤ REPORT_LIMIT → length ls ≤ REPORT_LIMIT
lines_fit client bytes ls rest begins short = omega (arith, few_lines (map call_of ls) rest, ap length begins.text, length-map ls call_of, short)
