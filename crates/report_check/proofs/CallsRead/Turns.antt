-- The calls of a seat in a report over command files: each follows the one with the number before its own.
use Rattle.std.proofs.Common.{◌≡◌, ◌≢◌, ℕ, zero, suc, ◌+◌, ◌<◌, ◌≤◌, ◌⊎◌, Bool, true, false, cond, eqb, lt-ltb, Option, Some, None, IfSome, inl, inr, List, [], ◌∷◌, ◌++◌, map, All, Contains, le_refl, refl, sym, ap, subst, ◌∙◌, arith}
use Rattle.std.specs.List.{AllByRecursion}
use Rattle.std.proofs.lemmas.Bool.{and_from, cases_lt, cases_order, eqb-true, eq-eqb, ltb-true}
use Rattle.std.proofs.lemmas.List.Elements.{All-contains, All-from_recursion, All-contains_itself}
use Rattle.lin_report.specs.declared.calls.Reply.{Reply}
use Rattle.lin_report.specs.declared.calls.Op.{Op}
use Rattle.lin_report.specs.declared.calls.Receipt.{Receipt}
use Rattle.lin_report.specs.Calls.{Call, Report, answered_call, pending_call, calls_of}
use Rattle.lin_report.specs.Report.{FollowsAnswer, IsReport}
use Rattle.lin_report.proofs.Sorting.{IsBelowAll}
use Rattle.report_check.specs.Verdicts.{name_of, ended_before}
use Rattle.report_check.specs.Beginnings.{last_from, in_turn}
use Rattle.report_check.proofs.JudgedOrders.Found.{unique}
use Rattle.report_check.proofs.JudgedOrders.Names.{by_parts}
use Rattle.report_check.proofs.Pairs.{all_front, all_mapped}
use Rattle.report_check.proofs.CallsRead.Apart.{IsRising}

-- where a seat has a last call, it is one of them, or the one that was given
last_is : (P : Call → Type 0) (seat : ℕ) (found : Option Call) (before : List Call) (l : Call) → IfSome found (λ m. P m × (m.seat ≡ seat)) → AllByRecursion P before → last_from seat found before ≡ Some l → P l × (l.seat ≡ seat)
last_is P seat found [] l given all e = subst (λ (o : Option Call). IfSome o (λ m. P m × (m.seat ≡ seat))) e given
last_is P seat found (c ∷ before) l given all e = by_seat (λ o has is. last_is P seat o before l has all.1 is) (eqb c.seat seat) refl e
  where
    by_seat : ((o : Option Call) → IfSome o (λ m. P m × (m.seat ≡ seat)) → last_from seat o before ≡ Some l → P l × (l.seat ≡ seat))
        → (b : Bool) → eqb c.seat seat ≡ b → last_from seat (cond b (Some c) found) before ≡ Some l → P l × (l.seat ≡ seat)
    by_seat rest true same is = rest (Some c) (all.0, eqb-true c.seat seat same) is
    by_seat rest false same is = rest found given is

found_stays : (seat : ℕ) (m : Call) (before : List Call) → last_from seat (Some m) before ≢ None
found_stays seat m [] e = absurd cc
found_stays seat m (c ∷ before) e = by_seat (λ d. found_stays seat d before) (eqb c.seat seat) e
  where
    by_seat : ((d : Call) → last_from seat (Some d) before ≢ None) → (b : Bool) → ¬ (last_from seat (cond b (Some c) (Some m)) before ≡ None)
    by_seat rest true is = rest c is
    by_seat rest false is = rest m is

-- where it has none, none of them is of the seat
no_last : (seat : ℕ) (before : List Call) → last_from seat None before ≡ None → AllByRecursion (λ (c : Call). c.seat ≢ seat) before
no_last seat [] e = tt
no_last seat (c ∷ before) e = by_seat (no_last seat before) (eqb c.seat seat) refl e
  where
    by_seat : (last_from seat None before ≡ None → AllByRecursion (λ (d : Call). d.seat ≢ seat) before) → (b : Bool) → eqb c.seat seat ≡ b → last_from seat (cond b (Some c) None) before ≡ None → AllByRecursion (λ (d : Call). d.seat ≢ seat) (c ∷ before)
    by_seat rest true same is = absurd (found_stays seat c before is)
    by_seat rest false same is = (λ own. let test = eq-eqb c.seat seat own in absurd cc, rest is)

-- and a last one began last
record BeganLast (seat : ℕ) (found : Option Call) (before : List Call) (l : Call) : Type 0 where
  all : AllByRecursion (λ (c : Call). c.seat ≡ seat → c.begin ≤ l.begin) before
  given : IfSome found (λ m. m.begin ≤ l.begin)

below_given : (found : Option Call) (c : Call) (before : List Call) → IfSome found (λ m. IsBelowAll m.begin (c ∷ before)) → IfSome found (λ m. IsBelowAll m.begin before)
below_given None c before below = tt
below_given (Some m) c before below = below.1

given_before : (found : Option Call) (c l : Call) (before : List Call) → IfSome found (λ m. IsBelowAll m.begin (c ∷ before)) → c.begin ≤ l.begin → IfSome found (λ m. m.begin ≤ l.begin)
given_before None c l before below le = tt
given_before (Some m) c l before below le = omega (arith, below.0, le)

began_last : (seat : ℕ) (found : Option Call) (before : List Call) (l : Call) → IsRising before → IfSome found (λ m. IsBelowAll m.begin before) → last_from seat found before ≡ Some l → BeganLast seat found before l
began_last seat found [] l rise below e = record { all = tt; given = subst (λ (o : Option Call). IfSome o (λ m. m.begin ≤ l.begin)) (sym e) (le_refl l.begin) }
began_last seat found (c ∷ before) l rise below e = by_seat (λ o under is. began_last seat o before l rise.1 under is) (eqb c.seat seat) refl e
  where
    by_seat : ((o : Option Call) → IfSome o (λ m. IsBelowAll m.begin before) → last_from seat o before ≡ Some l → BeganLast seat o before l)
        → (b : Bool) → eqb c.seat seat ≡ b → last_from seat (cond b (Some c) found) before ≡ Some l → BeganLast seat found (c ∷ before) l
    by_seat rest true same is =
        let last = rest (Some c) rise.0 is in
        record { all = (λ own. last.given, last.all); given = given_before found c l before below last.given }
    by_seat rest false same is =
        let last = rest found (below_given found c before below) is in
        record { all = (λ own. let test = eq-eqb c.seat seat own in absurd cc, last.all); given = last.given }

-- d had ended before e began
record HadEnded (d e : Call) : Type 0 where
  ended : ended_before d.answer e ≡ true
  begun : d.begin < e.begin

module _ (files : List (List Op)) (report : Report) (is : IsReport files report) where
  -- the call before one of its seat
  preceding : (e : Call) → Contains (calls_of report) e → 1 < e.number → FollowsAnswer report e
  preceding e known more = All-contains (λ c. 1 < c.number → FollowsAnswer report c) (calls_of report) e is.in_turn known more

  receipt_known : (r : Receipt) → Contains report.receipts r → Contains (calls_of report) (answered_call r)
  receipt_known r known =
      let calls = calls_of report in
      let answered = all_front (Contains calls) (map answered_call report.receipts) (map pending_call report.pending) (All-contains_itself calls) in
      All-contains (λ (q : Receipt). Contains calls (answered_call q)) report.receipts r (all_mapped answered_call (Contains calls) report.receipts answered) known

  receipt_forward : (r : Receipt) → Contains report.receipts r → r.begin < r.end
  receipt_forward r known = All-contains (λ (q : Receipt). q.begin < q.end) report.receipts r is.forward known

  -- a call had ended before those of its seat with greater numbers began
  had_ended : (most : ℕ) (d e : Call) → e.number ≤ most → Contains (calls_of report) d → Contains (calls_of report) e → d.seat ≡ e.seat → 0 < d.number → d.number < e.number → HadEnded d e
  had_ended zero d e low known found seat counted lt = absurd (omega (arith, low, lt))
  had_ended (suc most) d e low known found seat counted lt =
      let follows = preceding e found (omega (arith, counted, lt)) in
      let r = follows.before in
      let forward = receipt_forward r follows.answered in
      by_number follows (receipt_known r follows.answered) forward (cases_lt d.number r.number)
      (λ less. had_ended most d (answered_call r) (omega (arith, low, follows.number)) known (receipt_known r follows.answered) (seat ∙ sym follows.seat) counted less)
    where
      late : (a : Option (Reply × ℕ)) (b : Call) → ended_before a b ≡ true → b.begin < e.begin → ended_before a e ≡ true
      late None b h before = h
      late (Some a) b h before = lt-ltb a.1 e.begin (omega (arith, ltb-true a.1 b.begin h, before))

      by_number : (follows : FollowsAnswer report e) → Contains (calls_of report) (answered_call follows.before) → follows.before.begin < follows.before.end → (d.number < follows.before.number) ⊎ (follows.before.number ≤ d.number)
          → (d.number < follows.before.number → HadEnded d (answered_call follows.before)) → HadEnded d e
      by_number follows own forward (inl less) rest =
          let past = rest less in
          record { ended = late d.answer (answered_call follows.before) past.ended (omega (arith, forward, follows.ended)); begun = omega (arith, past.begun, forward, follows.ended) }
      by_number follows own forward (inr le) rest =
          let number : follows.before.number ≡ d.number = omega (arith, le, follows.number, lt) in
          let same = unique (calls_of report) is.once (answered_call follows.before) d own known (by_parts (name_of (answered_call follows.before)) (name_of d) (follows.seat ∙ sym seat) number) in
          subst (λ (x : Call). HadEnded x e) same (record { ended = lt-ltb follows.before.end e.begin follows.ended; begun = omega (arith, forward, follows.ended) })

all_joined : (P : Call → Type 0) (xs ys : List Call) → AllByRecursion P xs → AllByRecursion P ys → AllByRecursion P (xs ++ ys)
all_joined P [] ys first second = second
all_joined P (x ∷ xs) ys first second = (first.0, all_joined P xs ys first.1 second)

-- what holds of those before a call, of it and of those behind it
around : (P : Call → Type 0) (calls before : List Call) (c : Call) (behind : List Call) → before ++ c ∷ behind ≡ calls → AllByRecursion P before → P c → AllByRecursion P behind → All P calls
around P calls before c behind e first own last = subst (All P) e (All-from_recursion P (before ++ c ∷ behind) (all_joined P before (c ∷ behind) first (own, last)))

weaker : (P Q : Call → Type 0) → ((c : Call) → P c → Q c) → (calls : List Call) → AllByRecursion P calls → AllByRecursion Q calls
weaker P Q so [] all = tt
weaker P Q so (c ∷ calls) all = (so c all.0, weaker P Q so calls all.1)

-- a call's number is the next of its seat
module _ (files : List (List Op)) (report : Report) (is : IsReport files report) (lines before : List Call) (c : Call) (behind : List Call) (at : before ++ c ∷ behind ≡ lines)
    (on_lines : (d : Call) → Contains (calls_of report) d → Contains lines d) (known : Contains (calls_of report) c) (counted : 0 < c.number)
    (rise : IsRising before) (earlier : AllByRecursion (λ (d : Call). Contains (calls_of report) d × ((d.begin < c.begin) × (0 < d.number))) before) (later : IsBelowAll c.begin behind) where
  -- what holds of the calls before c holds of each call of the report that began before it
  of_earlier : (P : Call → Type 0) → AllByRecursion P before → (d : Call) → Contains (calls_of report) d → d.begin < c.begin → P d
  of_earlier P all d own lt =
      All-contains (λ e. e.begin < c.begin → P e) lines d
      (around (λ e. e.begin < c.begin → P e) lines before c behind at (weaker P (λ e. e.begin < c.begin → P e) (λ e p under. p) before all) (λ under. absurd (omega (arith, under)))
      (weaker (λ e. c.begin < e.begin) (λ e. e.begin < c.begin → P e) (λ e over under. absurd (omega (arith, over, under))) behind later))
      (on_lines d own) lt

  -- the call of its seat with the number before its own
  previous : (follows : FollowsAnswer report c) → Contains (calls_of report) (answered_call follows.before) × (follows.before.begin < c.begin)
  previous follows = (receipt_known files report is follows.before follows.answered, omega (arith, receipt_forward files report is follows.before follows.answered, follows.ended))

  first_turn : last_from c.seat None before ≡ None → c.number ≡ 1
  first_turn none =
      elim (cases_lt 1 c.number) [
        | inl more ↦
            let follows = preceding files report is c known more in
            let own = previous follows in
            absurd (of_earlier (λ d. d.seat ≢ c.seat) (no_last c.seat before none) (answered_call follows.before) own.0 own.1 follows.seat)
        | inr le ↦ omega (arith, le, counted)
      ]

  next_turn : (l : Call) → last_from c.seat None before ≡ Some l → (l.number + 1 ≡ c.number) × (ended_before l.answer c ≡ true)
  next_turn l last =
      let own = last_is (λ d. Contains (calls_of report) d × ((d.begin < c.begin) × (0 < d.number))) c.seat None before l tt earlier last in
      let latest = began_last c.seat None before l rise tt last in
      elim (cases_order l.number c.number) [
        | inl equal ↦
            let same = unique (calls_of report) is.once l c own.0.0 known (by_parts (name_of l) (name_of c) own.1 equal) in
            absurd (omega (arith, own.0.1.0, ap (λ (d : Call). d.begin) same))
        | inr (inl less) ↦
            let past = had_ended files report is c.number l c (le_refl c.number) own.0.0 known own.1 own.0.1.1 less in
            let follows = preceding files report is c known (omega (arith, own.0.1.1, less)) in
            let own_before = previous follows in
            let next : l.number + 1 ≡ c.number = elim (cases_lt (l.number + 1) c.number) [
              | inl gap ↦
                  let older = had_ended files report is c.number l (answered_call follows.before) (omega (arith, follows.number)) own.0.0 own_before.0 (own.1 ∙ sym follows.seat) own.0.1.1 (omega (arith, gap, follows.number)) in
                  absurd (omega (arith, older.begun, of_earlier (λ d. d.seat ≡ c.seat → d.begin ≤ l.begin) latest.all (answered_call follows.before) own_before.0 own_before.1 follows.seat))
              | inr le ↦ omega (arith, le, less)
            ] in
            (next, past.ended)
        | inr (inr more) ↦
            let past = had_ended files report is l.number c l (le_refl l.number) known own.0.0 (sym own.1) counted more in
            absurd (omega (arith, own.0.1.0, past.begun))
      ]

  pub turn : in_turn (last_from c.seat None before) c ≡ true
  turn = by_last (last_from c.seat None before) refl
    where
      by_last : (o : Option Call) → last_from c.seat None before ≡ o → in_turn o c ≡ true
      by_last None e = eq-eqb c.number 1 (first_turn e)
      by_last (Some l) e = let next = next_turn l e in and_from (eqb (l.number + 1) c.number) (ended_before l.answer c) (eq-eqb (l.number + 1) c.number next.0) next.1
