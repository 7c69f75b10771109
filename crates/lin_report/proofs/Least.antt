-- The least of the members of a set: the member that no other is below.
use Rattle.std.proofs.Common.{◌≡◌, ℕ, ◌≤◌, nat_lt, Bool, true, false, cond, Option, Some, None, List, [], ◌∷◌, refl, sym, ap, ◌∙◌, inl, inr, ◌⊎◌, subst, arith}
use Rattle.std.proofs.lemmas.Bool.{true≢false, false≢true, or_cases, or_left, or_right, eq-eqb, eqb-true, ltb-true, ltb-false}
use Rattle.std.specs.List.{list_any}
use Rattle.std.specs.Ordering.{nat_cmp, eq_by_cmp}
use Rattle.std.specs.Cmp.{unsigned_tied}
use Rattle.std.specs.FinSet as set
use Rattle.lin_report.specs.Object.{lesser, least}

abbrev pub Keys : Type 0
Keys = set.FinSet nat_cmp

abbrev is_in : List ℕ → ℕ → Bool
is_in keys q = list_any (eq_by_cmp nat_cmp q) keys

tied : (q key : ℕ) → q ≡ key → eq_by_cmp nat_cmp q key ≡ true
tied q key same = unsigned_tied q key ∙ eq-eqb q key same

same_key : (q key : ℕ) → eq_by_cmp nat_cmp q key ≡ true → q ≡ key
same_key q key is = eqb-true q key (sym (unsigned_tied q key) ∙ is)

-- ---- the least of a list is in it

-- the lesser of two is one of them
lesser_in : (key : ℕ) (keys : List ℕ) (k : ℕ) (rest : Option ℕ) → (rest ≡ Some k → is_in keys k ≡ true) → lesser key rest ≡ k → is_in (key ∷ keys) k ≡ true
lesser_in key keys k None later is = or_left (eq_by_cmp nat_cmp k key) (is_in keys k) (tied k key (sym is))
lesser_in key keys k (Some other) later is = by_test (nat_lt other key) is
  where
    by_test : (b : Bool) → cond b other key ≡ k → is_in (key ∷ keys) k ≡ true
    by_test true is = or_right (eq_by_cmp nat_cmp k key) (is_in keys k) (later (ap Some is))
    by_test false is = or_left (eq_by_cmp nat_cmp k key) (is_in keys k) (tied k key (sym is))

least_in : (keys : List ℕ) (k : ℕ) → least keys ≡ Some k → is_in keys k ≡ true
least_in [] k is = absurd cc
least_in (key ∷ keys) k is = lesser_in key keys k (least keys) (least_in keys k) cc

-- ---- nothing in it is below the least

abbrev IsBelow : Option ℕ → ℕ → Type 0
IsBelow None q = ⊥
IsBelow (Some k) q = k ≤ q

own_above : (key : ℕ) (rest : Option ℕ) → lesser key rest ≤ key
own_above key None = omega arith
own_above key (Some other) = by_test (nat_lt other key) refl
  where
    by_test : (b : Bool) → nat_lt other key ≡ b → cond b other key ≤ key
    by_test true less = omega (arith, ltb-true other key less)
    by_test false not_less = omega arith

rest_above : (key q : ℕ) (rest : Option ℕ) → IsBelow rest q → lesser key rest ≤ q
rest_above key q None below = absurd below
rest_above key q (Some other) below = by_test (nat_lt other key) refl
  where
    by_test : (b : Bool) → nat_lt other key ≡ b → cond b other key ≤ q
    by_test true less = below
    by_test false not_less = omega (arith, below, ltb-false other key not_less)

none_below : (keys : List ℕ) (q : ℕ) → is_in keys q ≡ true → IsBelow (least keys) q
none_below [] q there = absurd (false≢true there)
none_below (key ∷ keys) q there = by_case (or_cases (eq_by_cmp nat_cmp q key) (is_in keys q) there) (none_below keys q)
  where
    by_case : (eq_by_cmp nat_cmp q key ≡ true) ⊎ (is_in keys q ≡ true) → (is_in keys q ≡ true → IsBelow (least keys) q) → lesser key (least keys) ≤ q
    by_case (inl own) later = subst (λ (t : ℕ). lesser key (least keys) ≤ t) (sym (same_key q key own)) (own_above key (least keys))
    by_case (inr other) later = rest_above key q (least keys) (later other)

-- ---- of a set

pub least_member : (keys : Keys) (k : ℕ) → least (set.items keys) ≡ Some k → set.contains keys k ≡ true
least_member keys k is = set.contains-items keys k ∙ least_in (set.items keys) k is

pub least_below : (keys : Keys) (k q : ℕ) → least (set.items keys) ≡ Some k → set.contains keys q ≡ true → k ≤ q
least_below keys k q is there = subst (λ (o : Option ℕ). IsBelow o q) is (none_below (set.items keys) q (sym (set.contains-items keys q) ∙ there))

-- a member that no other is below is the least
pub least_is : (keys : Keys) (k : ℕ) → set.contains keys k ≡ true → ((q : ℕ) → set.contains keys q ≡ true → k ≤ q) → least (set.items keys) ≡ Some k
least_is keys k there below = by_least (least (set.items keys)) refl (none_below (set.items keys) k (sym (set.contains-items keys k) ∙ there))
  where
    by_least : (told : Option ℕ) → least (set.items keys) ≡ told → IsBelow told k → told ≡ Some k
    by_least None is under = absurd under
    by_least (Some m) is under = (let above : k ≤ m = below m (least_member keys m is) in let same : m ≡ k = omega (arith, under, above) in ap Some same)

-- a set without members has no least
pub least_none : (keys : Keys) → ((q : ℕ) → set.contains keys q ≡ false) → least (set.items keys) ≡ None
least_none keys empty = by_least (least (set.items keys)) refl
  where
    by_least : (told : Option ℕ) → least (set.items keys) ≡ told → told ≡ None
    by_least None is = refl
    by_least (Some m) is = absurd (true≢false (sym (least_member keys m is) ∙ empty m))
