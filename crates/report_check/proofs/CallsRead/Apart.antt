-- The answered and the pending calls of lines, apart: put in rising order of begin they are the lines again.
use Rattle.std.proofs.Common.{◌≡◌, ℕ, zero, suc, ◌<◌, ◌≤◌, Bool, true, false, nat_lt, cond, ltb-true, Option, Some, None, List, [], ◌∷◌, ◌++◌, map, refl, sym, ap, subst, ◌∙◌, arith}
use Rattle.std.specs.List.{AllByRecursion, filter_map, cons_option}
use Rattle.std.specs.List.Sorted.{IsNonDecreasingBy}
use Rattle.std.proofs.lemmas.List.Elements.{recursion_from_All}
use Rattle.lin_report.specs.declared.calls.Reply.{Reply}
use Rattle.lin_report.specs.declared.calls.Receipt.{Receipt}
use Rattle.lin_report.specs.declared.calls.PendingCall.{PendingCall}
use Rattle.lin_report.specs.Calls.{Call, Report, answered_call, pending_call, calls_of}
use Rattle.lin_report.specs.Text.{insert_call, by_begin}
use Rattle.lin_report.specs.Writing.{CanWrite}
use Rattle.lin_report.proofs.Sorting.{IsBelowAll, by_begin-first, by_begin-later}
use Rattle.report_check.specs.Reports.{receipt_with, receipt_in, waiting_with, waiting_in, report_from}

-- each call began before those on the lines behind it
abbrev pub IsRising : List Call → Type 0
IsRising [] = Unit {0}
IsRising (c ∷ calls) = IsBelowAll c.begin calls × IsRising calls

below_append : (tick : ℕ) (xs ys : List Call) → IsBelowAll tick xs → IsBelowAll tick ys → IsBelowAll tick (xs ++ ys)
below_append tick [] ys here there = there
below_append tick (x ∷ xs) ys here there = (here.0, below_append tick xs ys here.1 there)

-- the call with another answer than its own, which is its own
abbrev with_answer : Call → Option (Reply × ℕ) → Call
with_answer c answer = record { seat = c.seat; number = c.number; op = c.op; answer = answer; begin = c.begin; path = c.path }

below_answered : (tick : ℕ) (calls : List Call) → IsBelowAll tick calls → IsBelowAll tick (map answered_call (filter_map receipt_in calls))
below_answered tick [] below = tt
below_answered tick (c ∷ calls) below = by_answer (below_answered tick calls below.1) c.answer
  where
    by_answer : IsBelowAll tick (map answered_call (filter_map receipt_in calls)) → (a : Option (Reply × ℕ)) → IsBelowAll tick (map answered_call (cons_option (receipt_with c a) (filter_map receipt_in calls)))
    by_answer rest None = rest
    by_answer rest (Some a) = (below.0, rest)

below_waiting : (tick : ℕ) (calls : List Call) → IsBelowAll tick calls → IsBelowAll tick (map pending_call (filter_map waiting_in calls))
below_waiting tick [] below = tt
below_waiting tick (c ∷ calls) below = by_answer (below_waiting tick calls below.1) c.answer
  where
    by_answer : IsBelowAll tick (map pending_call (filter_map waiting_in calls)) → (a : Option (Reply × ℕ)) → IsBelowAll tick (map pending_call (cons_option (waiting_with c a) (filter_map waiting_in calls)))
    by_answer rest None = (below.0, rest)
    by_answer rest (Some a) = rest

pub lines_again : (calls : List Call) → IsRising calls → by_begin (calls_of (report_from calls)) ≡ calls
unfolding by_begin
lines_again [] rise = refl
lines_again (c ∷ calls) rise = by_answer (lines_again calls rise.1) c.answer refl
  where
    answered : List Call
    answered = map answered_call (filter_map receipt_in calls)

    waiting : List Call
    waiting = map pending_call (filter_map waiting_in calls)

    by_answer : by_begin (answered ++ waiting) ≡ calls → (a : Option (Reply × ℕ)) → c.answer ≡ a
        → by_begin (map answered_call (cons_option (receipt_with c a) (filter_map receipt_in calls)) ++ map pending_call (cons_option (waiting_with c a) (filter_map waiting_in calls))) ≡ c ∷ calls
    by_answer rest None e =
        by_begin-later answered (with_answer c None) waiting (below_answered c.begin calls rise.0) (below_waiting c.begin calls rise.0)
        ∙ ap (λ (cs : List Call). with_answer c None ∷ cs) rest
        ∙ ap (λ (a : Option (Reply × ℕ)). with_answer c a ∷ calls) (sym e)
    by_answer rest (Some a) e =
        by_begin-first (with_answer c (Some a)) (answered ++ waiting) (below_append c.begin answered waiting (below_answered c.begin calls rise.0) (below_waiting c.begin calls rise.0))
        ∙ ap (λ (cs : List Call). with_answer c (Some a) ∷ cs) rest
        ∙ ap (λ (b : Option (Reply × ℕ)). with_answer c b ∷ calls) (sym e)

-- none is above one behind it
abbrev pub IsUp : {X : Type 0} → (X → ℕ) → List X → Type 0
IsUp rank [] = Unit {0}
IsUp rank (x ∷ xs) = AllByRecursion (λ y. rank x ≤ rank y) xs × IsUp rank xs

up_from : {X : Type 0} (rank : X → ℕ) (xs : List X) → IsNonDecreasingBy rank xs → IsUp rank xs
up_from rank [] rise = tt
up_from rank (x ∷ xs) rise = (
  recursion_from_All (λ y. rank x ≤ rank y) xs (λ k d lt. rise zero (suc k) d (omega arith) (omega (arith, lt))),
  up_from rank xs (λ i j d le lt. rise (suc i) (suc j) d (omega (arith, le)) (omega (arith, lt))),
)

-- a call of another kind is passed over
passed_over : {X : Type 0} (kind : Call → Option X) (c : Call) → kind c ≡ None → (calls : List Call) → filter_map kind (insert_call c calls) ≡ filter_map kind calls
passed_over kind c e [] = ap (λ o. cons_option o []) e
passed_over kind c e (d ∷ calls) =
    elim (nat_lt d.begin c.begin) as (λ b. filter_map kind (cond b (d ∷ insert_call c calls) (c ∷ d ∷ calls)) ≡ filter_map kind (d ∷ calls)) [
      | true ↦ ap (cons_option (kind d)) (passed_over kind c e calls)
      | false ↦ ap (λ o. cons_option o (filter_map kind (d ∷ calls))) e
    ]

answered_first : (r : Receipt) (calls : List Call) → AllByRecursion (λ (s : Receipt). r.begin ≤ s.begin) (filter_map receipt_in calls)
    → filter_map receipt_in (insert_call (answered_call r) calls) ≡ r ∷ filter_map receipt_in calls
answered_first r [] low = refl
answered_first r (d ∷ calls) low = by_test (answered_first r calls) (nat_lt d.begin r.begin) refl
  where
    by_answer : (AllByRecursion (λ (s : Receipt). r.begin ≤ s.begin) (filter_map receipt_in calls) → filter_map receipt_in (insert_call (answered_call r) calls) ≡ r ∷ filter_map receipt_in calls) → (a : Option (Reply × ℕ)) → d.begin < r.begin → AllByRecursion (λ (s : Receipt). r.begin ≤ s.begin) (cons_option (receipt_with d a) (filter_map receipt_in calls))
        → cons_option (receipt_with d a) (filter_map receipt_in (insert_call (answered_call r) calls)) ≡ r ∷ cons_option (receipt_with d a) (filter_map receipt_in calls)
    by_answer rest None lt low = rest low
    by_answer rest (Some a) lt low = absurd (omega (arith, lt, low.0))

    by_test : (AllByRecursion (λ (s : Receipt). r.begin ≤ s.begin) (filter_map receipt_in calls) → filter_map receipt_in (insert_call (answered_call r) calls) ≡ r ∷ filter_map receipt_in calls) → (b : Bool) → nat_lt d.begin r.begin ≡ b
        → filter_map receipt_in (cond b (d ∷ insert_call (answered_call r) calls) (answered_call r ∷ d ∷ calls)) ≡ r ∷ filter_map receipt_in (d ∷ calls)
    by_test rest true e = by_answer rest d.answer (ltb-true d.begin r.begin e) low
    by_test rest false e = refl

waiting_first : (p : PendingCall) (calls : List Call) → AllByRecursion (λ (q : PendingCall). p.begin ≤ q.begin) (filter_map waiting_in calls)
    → filter_map waiting_in (insert_call (pending_call p) calls) ≡ p ∷ filter_map waiting_in calls
waiting_first p [] low = refl
waiting_first p (d ∷ calls) low = by_test (waiting_first p calls) (nat_lt d.begin p.begin) refl
  where
    by_answer : (AllByRecursion (λ (q : PendingCall). p.begin ≤ q.begin) (filter_map waiting_in calls) → filter_map waiting_in (insert_call (pending_call p) calls) ≡ p ∷ filter_map waiting_in calls) → (a : Option (Reply × ℕ)) → d.begin < p.begin → AllByRecursion (λ (q : PendingCall). p.begin ≤ q.begin) (cons_option (waiting_with d a) (filter_map waiting_in calls))
        → cons_option (waiting_with d a) (filter_map waiting_in (insert_call (pending_call p) calls)) ≡ p ∷ cons_option (waiting_with d a) (filter_map waiting_in calls)
    by_answer rest None lt low = absurd (omega (arith, lt, low.0))
    by_answer rest (Some a) lt low = rest low

    by_test : (AllByRecursion (λ (q : PendingCall). p.begin ≤ q.begin) (filter_map waiting_in calls) → filter_map waiting_in (insert_call (pending_call p) calls) ≡ p ∷ filter_map waiting_in calls) → (b : Bool) → nat_lt d.begin p.begin ≡ b
        → filter_map waiting_in (cond b (d ∷ insert_call (pending_call p) calls) (pending_call p ∷ d ∷ calls)) ≡ p ∷ filter_map waiting_in (d ∷ calls)
    by_test rest true e = by_answer rest d.answer (ltb-true d.begin p.begin e) low
    by_test rest false e = refl

none_answered : (pending : List PendingCall) → filter_map receipt_in (by_begin (map pending_call pending)) ≡ []
unfolding by_begin
none_answered [] = refl
none_answered (p ∷ pending) = passed_over receipt_in (pending_call p) refl (by_begin (map pending_call pending)) ∙ none_answered pending

receipts_again : (receipts : List Receipt) (pending : List PendingCall) → IsUp (λ (r : Receipt). r.begin) receipts
    → filter_map receipt_in (by_begin (map answered_call receipts ++ map pending_call pending)) ≡ receipts
unfolding by_begin
receipts_again [] pending up = none_answered pending
receipts_again (r ∷ receipts) pending up =
    let rest = receipts_again receipts pending up.1 in
    answered_first r (by_begin (map answered_call receipts ++ map pending_call pending)) (subst (AllByRecursion (λ (s : Receipt). r.begin ≤ s.begin)) (sym rest) up.0)
    ∙ ap (λ (rs : List Receipt). r ∷ rs) rest

waiting_again : (receipts : List Receipt) (pending : List PendingCall) → IsUp (λ (p : PendingCall). p.begin) pending
    → filter_map waiting_in (by_begin (map answered_call receipts ++ map pending_call pending)) ≡ pending
unfolding by_begin
waiting_again [] [] up = refl
waiting_again [] (p ∷ pending) up =
    let rest = waiting_again [] pending up.1 in
    waiting_first p (by_begin (map pending_call pending)) (subst (AllByRecursion (λ (q : PendingCall). p.begin ≤ q.begin)) (sym rest) up.0)
    ∙ ap (λ (ps : List PendingCall). p ∷ ps) rest
waiting_again (r ∷ receipts) pending up =
    passed_over waiting_in (answered_call r) refl (by_begin (map answered_call receipts ++ map pending_call pending)) ∙ waiting_again receipts pending up

-- a report that can be written is that of its lines
pub report_again : (report : Report) (count : Option ℕ) → CanWrite report count
    → (filter_map receipt_in (by_begin (calls_of report)) ≡ report.receipts) × (filter_map waiting_in (by_begin (calls_of report)) ≡ report.pending)
report_again report count can = (
  receipts_again report.receipts report.pending (up_from (λ (r : Receipt). r.begin) report.receipts can.receipts_in_order),
  waiting_again report.receipts report.pending (up_from (λ (p : PendingCall). p.begin) report.pending can.pending_in_order),
)

pub kinds_mapped : {A B X : Type 0} (kind : B → Option X) (f : A → B) (xs : List A) → filter_map (λ x. kind (f x)) xs ≡ filter_map kind (map f xs)
kinds_mapped kind f [] = refl
kinds_mapped kind f (x ∷ xs) = ap (cons_option (kind (f x))) (kinds_mapped kind f xs)
