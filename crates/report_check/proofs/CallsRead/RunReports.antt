-- The text of a report over command files is the text of a report as a reader takes it.
use Rattle.std.proofs.Common.{◌≡◌, ◌≢◌, ℕ, zero, suc, ◌-◌, ◌<◌, ◌≤◌, ◌&&◌, Bool, true, false, not, cond, nat_lt, ltb-false, ltb-true, lt-ltb, Option, Some, None, IfSome, inl, inr, List, [], ◌∷◌, ◌++◌, map, length, get_or, All, AllPairs, Contains, IsPermutation, append_assoc, length-append, refl, sym, ap, subst, ◌∙◌, arith}
use Rattle.std.specs.Prelude.{IsTrue}
use Rattle.std.specs.List.{AllByRecursion, sum_by, list_any}
use Rattle.std.proofs.lemmas.Bool.{and_from, cases_lt}
use Rattle.std.proofs.lemmas.Option.{slice_get_within, get_or_from_slice_get}
use Rattle.std.proofs.lemmas.List.{get_or_past, length-map}
use Rattle.std.proofs.lemmas.List.Elements.{All-contains, All-contains_itself, recursion_from_All, All-append, All-map}
use Rattle.std.proofs.lemmas.List.Sorted.{All-permutation, Contains-permutation, length_permutation, sum_by-IsPermutation}
use Rattle.lin_report.specs.declared.calls.Client.{Client}
use Rattle.lin_report.specs.declared.calls.Op.{Op}
use Rattle.lin_report.specs.declared.calls.Receipt.{Receipt}
use Rattle.lin_report.specs.declared.calls.PendingCall.{PendingCall}
use Rattle.lin_report.specs.Object.{is_command, object_of}
use Rattle.lin_report.specs.CommandFiles.{IsCommandFile}
use Rattle.lin_report.specs.Calls.{Call, Report, answered_call, pending_call, calls_of}
use Rattle.lin_report.specs.Report.{file_of, ticks_of, IsCommand, IsReport}
use Rattle.lin_report.specs.Text.{insert_call, by_begin, report_text}
use Rattle.lin_report.specs.Writing.{IsPrintable, CanWrite}
use Rattle.lin_report.proofs.Sorting.{IsBelowAll}
use Rattle.lin_report.proofs.Sorted.{by_begin_sorts}
use Rattle.lin_report.proofs.Merging.{count_of_calls}
use Rattle.lin_report.proofs.TextsFit.{report_text_fits}
use Rattle.report_check.specs.Beginnings.{last_line, rises, in_turn, ends_above, fresh_end, has_tick, last_from, may_follow, AreInOrder}
use Rattle.report_check.specs.Reports.{ticks_drawn, AreWhole, MayTell, IsReportText, RunReportsAreTexts}
use Rattle.report_check.proofs.CallsRead.Apart.{IsRising, report_again}
use Rattle.report_check.proofs.CallsRead.InOrder.{ByPairs, below_more}
use Rattle.report_check.proofs.CallsRead.Drawn.{hits, all_hits, once_at_most, none_hits, fresh_ticks}
use Rattle.report_check.proofs.CallsRead.Turns.{turn}

-- calls that began apart rise once they are put in order
insert_all : (P : Call → Type 0) (c : Call) (calls : List Call) → P c → AllByRecursion P calls → AllByRecursion P (insert_call c calls)
insert_all P c [] own all = (own, tt)
insert_all P c (d ∷ calls) own all =
    elim (nat_lt d.begin c.begin) as (λ b. AllByRecursion P (cond b (d ∷ insert_call c calls) (c ∷ d ∷ calls))) [
      | true ↦ (all.0, insert_all P c calls own all.1)
      | false ↦ (own, all)
    ]

order_all : (P : Call → Type 0) (calls : List Call) → AllByRecursion P calls → AllByRecursion P (by_begin calls)
unfolding by_begin
order_all P [] all = tt
order_all P (c ∷ calls) all = insert_all P c (by_begin calls) all.0 (order_all P calls all.1)

rising_insert : (c : Call) (calls : List Call) → IsRising calls → AllByRecursion (λ (d : Call). c.begin ≢ d.begin) calls → IsRising (insert_call c calls)
rising_insert c [] rise apart = (tt, tt)
rising_insert c (d ∷ calls) rise apart =
    elim (nat_lt d.begin c.begin) as (λ b. nat_lt d.begin c.begin ≡ b → IsRising (cond b (d ∷ insert_call c calls) (c ∷ d ∷ calls))) [
      | true ↦ λ e. (insert_all (λ (f : Call). d.begin < f.begin) c calls (ltb-true d.begin c.begin e) rise.0, rising_insert c calls rise.1 apart.1)
      | false ↦ λ e. let le = ltb-false d.begin c.begin e in let lt : c.begin < d.begin = omega (arith, le, apart.0) in ((lt, below_more c.begin d.begin calls lt rise.0), rise)
    ] refl

rising_order : (calls : List Call) → ByPairs (λ c d. c.begin ≢ d.begin) calls → IsRising (by_begin calls)
unfolding by_begin
rising_order [] apart = tt
rising_order (c ∷ calls) apart = rising_insert c (by_begin calls) (rising_order calls apart.1) (order_all (λ (d : Call). c.begin ≢ d.begin) calls apart.0)

pairs_to : (R : Call → Call → Type 0) (calls : List Call) → AllPairs R calls → ByPairs R calls
pairs_to R [] pairs = tt
pairs_to R (c ∷ calls) pairs = (
  recursion_from_All (R c) calls (λ k d lt. pairs zero (suc k) d (omega arith) (omega (arith, lt))),
  pairs_to R calls (λ i j d before lt. pairs (suc i) (suc j) d (omega (arith, before)) (omega (arith, lt))),
)

-- a call on a line, those before it and those behind it
at_middle : (P : Call → Type 0) (xs : List Call) (c : Call) (ys : List Call) → AllByRecursion P (xs ++ c ∷ ys) → P c
at_middle P [] c ys all = all.0
at_middle P (x ∷ xs) c ys all = at_middle P xs c ys all.1

in_front : (P : Call → Type 0) (xs ys : List Call) → AllByRecursion P (xs ++ ys) → AllByRecursion P xs
in_front P [] ys all = tt
in_front P (x ∷ xs) ys all = (all.0, in_front P xs ys all.1)

rising_front : (xs ys : List Call) → IsRising (xs ++ ys) → IsRising xs
rising_front [] ys rise = tt
rising_front (x ∷ xs) ys rise = (in_front (λ (d : Call). x.begin < d.begin) xs ys rise.0, rising_front xs ys rise.1)

rising_behind : (xs : List Call) (c : Call) (ys : List Call) → IsRising (xs ++ c ∷ ys) → IsBelowAll c.begin ys
rising_behind [] c ys rise = rise.0
rising_behind (x ∷ xs) c ys rise = rising_behind xs c ys rise.1

begun_before : (xs : List Call) (c : Call) (ys : List Call) → IsRising (xs ++ c ∷ ys) → AllByRecursion (λ (d : Call). d.begin < c.begin) xs
begun_before [] c ys rise = tt
begun_before (x ∷ xs) c ys rise = (at_middle (λ (d : Call). x.begin < d.begin) xs c ys rise.0, begun_before xs c ys rise.1)

last_rises : (c : Call) (found : Option Call) (before : List Call) → IfSome found (λ d. d.begin < c.begin) → AllByRecursion (λ (d : Call). d.begin < c.begin) before → rises (last_line found before) c ≡ true
last_rises c None [] given all = refl
last_rises c (Some d) [] given all = lt-ltb d.begin c.begin given
last_rises c found (d ∷ before) given all = last_rises c (Some d) before all.0 all.1

both : (P Q : Call → Type 0) (calls : List Call) → AllByRecursion P calls → AllByRecursion Q calls → AllByRecursion (λ c. P c × Q c) calls
both P Q [] first second = tt
both P Q (c ∷ calls) first second = ((first.0, second.0), both P Q calls first.1 second.1)

module _ (client : Client) (files : List (List Op)) (report : Report) (overtaken : Option ℕ) (commands : All (IsCommandFile (object_of client)) files) (is : IsReport files report) (can : CanWrite report overtaken) where
  abbrev own : List Call
  own = by_begin (calls_of report)

  moved : IsPermutation (calls_of report) own
  moved = (by_begin_sorts (calls_of report)).0

  rise : IsRising own
  rise = rising_order (calls_of report) (pairs_to (λ c d. c.begin ≢ d.begin) (calls_of report) can.apart)

  -- a command of a seat's file is one of the client
  command_is : (c : Call) → IsCommand files c → IsTrue (is_command client c.op)
  command_is c command =
      let file = file_of files c.seat in
      let within = slice_get_within file (c.number - 1) c.op command.command in
      elim (cases_lt c.seat (length files)) [
        | inl lt ↦
            let all = (commands c.seat [] lt).commands in
            subst (λ (op : Op). IsTrue (is_command client op)) (get_or_from_slice_get file (c.number - 1) c.op c.op command.command) (all (c.number - 1) c.op within).command
        | inr past ↦ absurd (omega (arith, within, ap length (get_or_past files c.seat [] past)))
      ]

  -- an end is above its begin
  ends_later : All (λ c. ends_above c.answer c.begin ≡ true) (calls_of report)
  ends_later =
      All-append (λ c. ends_above c.answer c.begin ≡ true) (map answered_call report.receipts) (map pending_call report.pending)
      (All-map (λ c. ends_above c.answer c.begin ≡ true) answered_call report.receipts (λ k d lt. lt-ltb (get_or report.receipts k d).begin (get_or report.receipts k d).end (is.forward k d lt)))
      (All-map (λ c. ends_above c.answer c.begin ≡ true) pending_call report.pending (λ k d lt. refl))

  drawn_once : (t : ℕ) → sum_by (hits t) own ≤ 1
  drawn_once t = omega (arith, sum_by-IsPermutation (hits t) (calls_of report) own moved, all_hits report t, once_at_most (ticks_of report) is.ticks t)

  each : (P : Call → Type 0) → All P (calls_of report) → AllByRecursion P own
  each P all = recursion_from_All P own (All-permutation P (calls_of report) own moved all)

  counted : All (λ (c : Call). 0 < c.number) (calls_of report)
  counted k d lt = (can.printable k d lt).counted

  follows : (before : List Call) (c : Call) (behind : List Call) → before ++ c ∷ behind ≡ own → IsTrue (may_follow before c)
  follows before c behind at =
      let lines = subst IsRising (sym at) rise in
      let known_lines = subst (λ (cs : List Call). AllByRecursion (Contains (calls_of report)) cs) (sym at) (each (Contains (calls_of report)) (All-contains_itself (calls_of report))) in
      let known = at_middle (Contains (calls_of report)) before c behind known_lines in
      let began = begun_before before c behind lines in
      let numbered = subst (λ (cs : List Call). AllByRecursion (λ (d : Call). 0 < d.number) cs) (sym at) (each (λ (d : Call). 0 < d.number) counted) in
      let earlier = both (Contains (calls_of report)) (λ d. (d.begin < c.begin) × (0 < d.number)) before (in_front (Contains (calls_of report)) before (c ∷ behind) known_lines)
      (both (λ (d : Call). d.begin < c.begin) (λ (d : Call). 0 < d.number) before began (in_front (λ (d : Call). 0 < d.number) before (c ∷ behind) numbered)) in
      let in_turn_is = turn files report is own before c behind at (λ d. Contains-permutation (calls_of report) own d moved) known (at_middle (λ (d : Call). 0 < d.number) before c behind numbered)
      (rising_front before (c ∷ behind) lines) earlier (rising_behind before c behind lines) in
      let later = All-contains (λ d. ends_above d.answer d.begin ≡ true) (calls_of report) c ends_later known in
      let fresh = fresh_ticks before c behind (λ t. subst (λ (cs : List Call). sum_by (hits t) cs ≤ 1) (sym at) (drawn_once t)) in
      let rise_is : Bool = rises (last_line None before) c in
      let turn_is : Bool = in_turn (last_from c.seat None before) c in
      let above_is : Bool = ends_above c.answer c.begin in
      let fresh_is : Bool = not (list_any (has_tick c.begin) before) in
      and_from (rise_is && turn_is && above_is && fresh_is) (fresh_end before c.answer)
      (and_from (rise_is && turn_is && above_is) fresh_is
      (and_from (rise_is && turn_is) above_is
      (and_from rise_is turn_is (last_rises c None before tt began) in_turn_is) later) fresh.0) fresh.1

  order_from : (before rest : List Call) → before ++ rest ≡ own → AreInOrder client before rest
  order_from before [] at = tt
  order_from before (c ∷ rest) at =
      let printable = at_middle IsPrintable before c rest (subst (λ (cs : List Call). AllByRecursion IsPrintable cs) (sym at) (each IsPrintable can.printable)) in
      let command = at_middle (IsCommand files) before c rest (subst (λ (cs : List Call). AllByRecursion (IsCommand files) cs) (sym at) (each (IsCommand files) is.commands)) in
      ((printable, command_is c command, follows before c rest at), order_from (before ++ c ∷ []) rest (append_assoc before (c ∷ []) rest ∙ at))

  count_is : ticks_drawn own ≡ length (ticks_of report)
  count_is =
      let begins = map (λ (r : Receipt). r.begin) report.receipts in
      let ends = map (λ (r : Receipt). r.end) report.receipts in
      let waits = map (λ (p : PendingCall). p.begin) report.pending in
      omega (
        arith,
        length_permutation (calls_of report) own moved,
        count_of_calls report,
        ap length (report_again report overtaken can).0,
        length-append (begins ++ ends) waits,
        length-append begins ends,
        length-map report.receipts (λ (r : Receipt). r.begin),
        length-map report.receipts (λ (r : Receipt). r.end),
        length-map report.pending (λ (p : PendingCall). p.begin),
      )

  whole : AreWhole own
  whole tick lt = by_test (list_any (has_tick tick) own) refl
    where
      by_test : (b : Bool) → list_any (has_tick tick) own ≡ b → b ≡ true
      by_test true e = refl
      by_test false e =
          absurd (omega (arith, none_hits tick own e, sum_by-IsPermutation (hits tick) (calls_of report) own moved, all_hits report tick, is.ticks tick (omega (arith, lt, count_is))))

  pub is_text : MayTell overtaken → length (calls_of report) ≤ 524280 → IsReportText client (report_text report overtaken) report overtaken
  is_text few room = record {
    short = omega (arith, (report_text_fits report overtaken can).0, room);
    text = refl;
    can = can;
    few = few;
    in_order = order_from [] own refl;
    whole = whole;
  }

pub run_reports_are_texts : RunReportsAreTexts
run_reports_are_texts client files report overtaken commands is can few room = is_text client files report overtaken commands is can few room
