-- There are few won exchanges: no two have one cause, and there are eight causes to a used block.
use Rattle.std.proofs.Common.{◌≡◌, ◌≢◌, refl, subst, ℕ, ◌+◌, ◌*◌, ◌==◌, ◌||◌, ◌<◌, ◌≤◌, Bool, true, false, List, [], ◌∷◌, length, map, get_or, All, AllPairs, ◌⊎◌, inl, inr, arith, rules}
use Rattle.std.specs.List.{list_any}
use Rattle.std.proofs.lemmas.Bool.Decides.{Decides-eqb, nat_tests}
use Rattle.std.proofs.lemmas.List.{length-map}
use Rattle.std.proofs.lemmas.List.Elements.{All-head, All-tail}
use Rattle.std.proofs.lemmas.Map.Made.{IsDistinct-from_AllPairs}
use Rattle.std.proofs.lemmas.Map.Steps.{length-le_from_distinct_below}
use Rattle.normal_traits.specs.World.{Won, World}
use Rattle.normal_traits.specs.NormalForm.{NormalForm}
use Rattle.normal_traits.specs.Laws.{Laws}
use Rattle.run_laws.proofs.Pairs.{all_map, pairs_map}

either_is : (a b : Bool) → (a || b) ≡ true → (a ≡ true) ⊎ (b ≡ true)
either_is true b is = inl refl
either_is false b is = inr is

found_below : (n q : ℕ) (xs : List ℕ) → list_any (λ x. q == x) xs ≡ true → All (λ x. x < n) xs → q < n
found_below n q [] has below = absurd (search rules)
found_below n q (x ∷ xs) has below =
    elim (either_is (q == x) (list_any (λ y. q == y) xs) has) [
      | inl here ↦
          let same : q ≡ x = grind (arith, nat_tests) in
          let head = All-head (λ y. y < n) x xs below in
          omega (arith, same, head)
      | inr later ↦ found_below n q xs later (All-tail (λ y. y < n) x xs below)
    ]

-- numbers below n that differ are at most n
pub few_below : (n : ℕ) (xs : List ℕ) → AllPairs (λ x y. x ≢ y) xs → All (λ x. x < n) xs → length xs ≤ n
few_below n xs differ below = length-le_from_distinct_below xs n (IsDistinct-from_AllPairs Decides-eqb xs differ) (λ q has. found_below n q xs has below)

-- a cause as a number
cause_code : Won → ℕ
cause_code won = 8 * won.cause.block + won.cause.kind

same_cause : (a b : Won) → a.cause.kind < 8 → b.cause.kind < 8 → cause_code a ≡ cause_code b → a.cause ≡ b.cause
unfolding cause_code
same_cause a b small small' same =
    let block : a.cause.block ≡ b.cause.block = omega (arith, same, small, small') in
    let kind : a.cause.kind ≡ b.cause.kind = omega (arith, same, small, small') in
    λ i. record { block = block i; kind = kind i }

code_below : (cap : ℕ) (won : Won) → won.cause.block ≤ cap → won.cause.kind < 8 → cause_code won < 8 * (cap + 1)
unfolding cause_code
code_below cap won within small = omega (arith, within, small)

module _ {S W : Type 0} (form : NormalForm S W) where
  -- the journal is no longer than there are causes
  pub journal_few : (world : World) (cap : ℕ) → Laws form → form.shape world → ((block : ℕ) → world.used block ≡ true → block ≤ cap) → length world.journal ≤ 8 * (cap + 1)
  journal_few world cap laws shape used =
      let bounded = laws.of_world.causes_bounded world shape in
      let differ : AllPairs (λ (a b : Won). cause_code a ≢ cause_code b) world.journal =
      λ i j d before inside. λ same. laws.of_world.causes_differ world shape i j d before inside
      (same_cause (get_or world.journal i d) (get_or world.journal j d) (bounded i d (omega (arith, before, inside))).1 (bounded j d inside).1 same) in
      let below : All (λ (won : Won). cause_code won < 8 * (cap + 1)) world.journal =
      λ i d inside. code_below cap (get_or world.journal i d) (used _ (bounded i d inside).0) (bounded i d inside).1 in
      let few = few_below (8 * (cap + 1)) (map cause_code world.journal) (pairs_map (λ x y. x ≢ y) cause_code world.journal differ) (all_map (λ x. x < 8 * (cap + 1)) cause_code world.journal below) in
      subst (λ n. n ≤ 8 * (cap + 1)) (length-map world.journal cause_code) few
