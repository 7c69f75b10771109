-- Ticks that are drawn once each: how often the calls on lines drew a tick.
use Rattle.std.proofs.Common.{◌≡◌, ℕ, zero, suc, ◌+◌, ◌<◌, ◌≤◌, ◌==◌, Bool, true, false, not, cond, eqb, ltb, ◌||◌, Option, Some, None, List, [], ◌∷◌, ◌++◌, map, length, count_by, inl, inr, refl, ap, ◌∙◌, arith}
use Rattle.std.specs.List.{sum_by, list_any}
use Rattle.std.proofs.lemmas.Bool.{cases_lt, eq-eqb}
use Rattle.std.proofs.lemmas.Bool.Decides.{nat_tests}
use Rattle.std.proofs.lemmas.List.Sums.{sum_by-cons, sum_by-append}
use Rattle.lin_report.specs.declared.calls.Reply.{Reply}
use Rattle.lin_report.specs.declared.calls.Receipt.{Receipt}
use Rattle.lin_report.specs.declared.calls.PendingCall.{PendingCall}
use Rattle.lin_report.specs.Calls.{Call, Report, answered_call, pending_call, calls_of}
use Rattle.lin_report.specs.Report.{ticks_of}
use Rattle.report_check.specs.Beginnings.{has_tick, ends_at, fresh_end}

-- how often a call drew the tick
abbrev pub hits : ℕ → Call → ℕ
hits t c = cond (eqb c.begin t) 1 0 + cond (ends_at c.answer t) 1 0

answered_hits : (t : ℕ) (rs : List Receipt) → sum_by (hits t) (map answered_call rs) ≡ count_by (λ tick. tick == t) (map (λ (r : Receipt). r.begin) rs) + count_by (λ tick. tick == t) (map (λ (r : Receipt). r.end) rs)
answered_hits t [] = refl
answered_hits t (r ∷ rs) =
    omega (
      arith,
      sum_by-cons (hits t) (answered_call r) (map answered_call rs),
      sum_by-cons (λ tick. cond (tick == t) 1 0) r.begin (map (λ (q : Receipt). q.begin) rs),
      sum_by-cons (λ tick. cond (tick == t) 1 0) r.end (map (λ (q : Receipt). q.end) rs),
      answered_hits t rs,
    )

waiting_hits : (t : ℕ) (ps : List PendingCall) → sum_by (hits t) (map pending_call ps) ≡ count_by (λ tick. tick == t) (map (λ (p : PendingCall). p.begin) ps)
waiting_hits t [] = refl
waiting_hits t (p ∷ ps) =
    omega (arith, sum_by-cons (hits t) (pending_call p) (map pending_call ps), sum_by-cons (λ tick. cond (tick == t) 1 0) p.begin (map (λ (q : PendingCall). q.begin) ps), waiting_hits t ps)

-- the calls of a report drew its ticks
pub all_hits : (report : Report) (t : ℕ) → sum_by (hits t) (calls_of report) ≡ count_by (λ tick. tick == t) (ticks_of report)
all_hits report t =
    let begins = map (λ (r : Receipt). r.begin) report.receipts in
    let ends = map (λ (r : Receipt). r.end) report.receipts in
    let waits = map (λ (p : PendingCall). p.begin) report.pending in
    omega (
      arith,
      sum_by-append (hits t) (map answered_call report.receipts) (map pending_call report.pending),
      answered_hits t report.receipts,
      waiting_hits t report.pending,
      sum_by-append (λ tick. cond (tick == t) 1 0) (begins ++ ends) waits,
      sum_by-append (λ tick. cond (tick == t) 1 0) begins ends,
    )

-- numbers of which each below their count is there once
not_below : (x : ℕ) → cond {A = ℕ} (ltb x 0) 1 0 ≡ 0
not_below x = grind (arith, nat_tests)

none_below : (xs : List ℕ) → count_by (λ x. ltb x 0) xs ≡ 0
none_below [] = refl
none_below (x ∷ xs) = omega (arith, sum_by-cons (λ y. cond (ltb y 0) 1 0) x xs, not_below x, none_below xs)

one_more : (k x : ℕ) → cond (ltb x (suc k)) 1 0 ≡ cond (ltb x k) 1 0 + cond (eqb x k) 1 0
one_more k x = grind (arith, nat_tests)

below_more : (k : ℕ) (xs : List ℕ) → count_by (λ x. ltb x (suc k)) xs ≡ count_by (λ x. ltb x k) xs + count_by (λ x. x == k) xs
below_more k [] = refl
below_more k (x ∷ xs) =
    omega (
      arith,
      sum_by-cons (λ y. cond (ltb y (suc k)) 1 0) x xs,
      sum_by-cons (λ y. cond (ltb y k) 1 0) x xs,
      sum_by-cons (λ y. cond (eqb y k) 1 0) x xs,
      one_more k x,
      below_more k xs,
    )

all_below : (k : ℕ) (xs : List ℕ) → ((t : ℕ) → t < k → count_by (λ x. x == t) xs ≡ 1) → count_by (λ x. ltb x k) xs ≡ k
all_below zero xs once = none_below xs
all_below (suc k) xs once = omega (arith, below_more k xs, all_below k xs (λ t lt. once t (omega (arith, lt))), once k (omega arith))

not_both : (n t x : ℕ) → n ≤ t → cond (eqb x t) 1 0 + cond (ltb x n) 1 0 ≤ 1
not_both n t x le = grind (arith, nat_tests)

either : (n t : ℕ) (xs : List ℕ) → n ≤ t → count_by (λ x. x == t) xs + count_by (λ x. ltb x n) xs ≤ length xs
either n t [] le = omega arith
either n t (x ∷ xs) le = omega (arith, sum_by-cons (λ y. cond (eqb y t) 1 0) x xs, sum_by-cons (λ y. cond (ltb y n) 1 0) x xs, not_both n t x le, either n t xs le)

-- no number is there twice
pub once_at_most : (xs : List ℕ) → ((t : ℕ) → t < length xs → count_by (λ x. x == t) xs ≡ 1) → (t : ℕ) → count_by (λ x. x == t) xs ≤ 1
once_at_most xs once t =
    elim (cases_lt t (length xs)) [
      | inl lt ↦ omega (arith, once t lt)
      | inr le ↦ omega (arith, either (length xs) t xs le, all_below (length xs) xs once)
    ]

has_hits : (t : ℕ) (c : Call) → has_tick t c ≡ true → 1 ≤ hits t c
has_hits t c has = by_tests (eqb c.begin t) (ends_at c.answer t) has
  where
    by_tests : (a b : Bool) → (a || b) ≡ true → 1 ≤ cond a 1 0 + cond b 1 0
    by_tests true b e = omega arith
    by_tests false true e = omega arith
    by_tests false false e = absurd cc

hits_none : (t : ℕ) (c : Call) → has_tick t c ≡ false → hits t c ≡ 0
hits_none t c has = by_tests (eqb c.begin t) (ends_at c.answer t) has
  where
    by_tests : (a b : Bool) → (a || b) ≡ false → cond a 1 0 + cond b 1 0 ≡ 0
    by_tests true b e = absurd cc
    by_tests false true e = absurd cc
    by_tests false false e = refl

any_hits : (t : ℕ) (calls : List Call) → list_any (has_tick t) calls ≡ true → 1 ≤ sum_by (hits t) calls
any_hits t [] any = absurd cc
any_hits t (c ∷ calls) any = by_test (any_hits t calls) (has_tick t c) refl any
  where
    by_test : (list_any (has_tick t) calls ≡ true → 1 ≤ sum_by (hits t) calls) → (b : Bool) → has_tick t c ≡ b → (b || list_any (has_tick t) calls) ≡ true → 1 ≤ sum_by (hits t) (c ∷ calls)
    by_test rest true has e = omega (arith, sum_by-cons (hits t) c calls, has_hits t c has)
    by_test rest false has e = omega (arith, sum_by-cons (hits t) c calls, rest e)

pub none_hits : (t : ℕ) (calls : List Call) → list_any (has_tick t) calls ≡ false → sum_by (hits t) calls ≡ 0
none_hits t [] none = refl
none_hits t (c ∷ calls) none = by_test (none_hits t calls) (has_tick t c) refl none
  where
    by_test : (list_any (has_tick t) calls ≡ false → sum_by (hits t) calls ≡ 0) → (b : Bool) → has_tick t c ≡ b → (b || list_any (has_tick t) calls) ≡ false → sum_by (hits t) (c ∷ calls) ≡ 0
    by_test rest true has e = absurd cc
    by_test rest false has e = omega (arith, sum_by-cons (hits t) c calls, hits_none t c has, rest e)

-- a tick of a call is of none before it, where none is drawn twice
fresh : (t : ℕ) (before : List Call) (c : Call) (behind : List Call) → sum_by (hits t) (before ++ c ∷ behind) ≤ 1 → has_tick t c ≡ true → list_any (has_tick t) before ≡ false
fresh t before c behind most has = by_test (list_any (has_tick t) before) refl
  where
    by_test : (b : Bool) → list_any (has_tick t) before ≡ b → b ≡ false
    by_test false e = refl
    by_test true e = absurd (omega (arith, sum_by-append (hits t) before (c ∷ behind), sum_by-cons (hits t) c behind, any_hits t before e, has_hits t c has, most))

pub fresh_ticks : (before : List Call) (c : Call) (behind : List Call) → ((t : ℕ) → sum_by (hits t) (before ++ c ∷ behind) ≤ 1) → (not (list_any (has_tick c.begin) before) ≡ true) × (fresh_end before c.answer ≡ true)
fresh_ticks before c behind most =
    (ap not (fresh c.begin before c behind (most c.begin) (ap (λ b. b || ends_at c.answer c.begin) (eq-eqb c.begin c.begin refl))), by_answer c.answer refl)
  where
    or_true : (a : Bool) → (a || true) ≡ true
    or_true true = refl
    or_true false = refl

    by_answer : (a : Option (Reply × ℕ)) → c.answer ≡ a → fresh_end before a ≡ true
    by_answer None e = refl
    by_answer (Some a) e =
        let drawn : ends_at c.answer a.1 ≡ true = ap (λ x. ends_at x a.1) e ∙ eq-eqb a.1 a.1 refl in
        ap not (fresh a.1 before c behind (most a.1) (ap (λ b. eqb c.begin a.1 || b) drawn ∙ or_true (eqb c.begin a.1)))
