-- The stores of an offer are at different places, so a later one overwrites none of the earlier.
use Rattle.std.proofs.Common.{◌≡◌, ◌≢◌, ◌∙◌, refl, sym, ap, ℕ, zero, suc, ◌+◌, ◌<◌, ◌≤◌, List, [], ◌∷◌, ◌++◌, slice_get, Some, arith}
use Rattle.node_arena.specs.MemoryMap.{block_place}
use Rattle.node_arena.proofs.PlacesApart.{same_field}
use Rattle.cas_executor_laws.proofs.Sets.{some_same}
use Rattle.move_kinds.proofs.Stores.Into.{Each, each_none, each_more, each_both}

-- stores of one place are one store
abbrev pub OwnPlaces : List (ℕ × ℕ) → Type 0
OwnPlaces stores = (i j : ℕ) (s t : ℕ × ℕ) → slice_get stores i ≡ Some s → slice_get stores j ≡ Some t → s.0 ≡ t.0 → i ≡ j

pub own_none : OwnPlaces []
own_none i j s t at at' same = absurd cc

pub own_more : (x : ℕ × ℕ) (xs : List (ℕ × ℕ)) → Each (λ (y : ℕ × ℕ). y.0 ≢ x.0) xs → OwnPlaces xs → OwnPlaces (x ∷ xs)
own_more x xs apart own zero zero s t at at' same = refl
own_more x xs apart own zero (suc j) s t at at' same = absurd (apart j t at' (sym same ∙ ap (λ (y : ℕ × ℕ). y.0) (sym (some_same x s at))))
own_more x xs apart own (suc i) zero s t at at' same = absurd (apart i s at (same ∙ ap (λ (y : ℕ × ℕ). y.0) (sym (some_same x t at'))))
own_more x xs apart own (suc i) (suc j) s t at at' same = ap suc (own i j s t at at' same)

-- where the places of the first differ from those of the second
pub own_both : (P Q : ℕ × ℕ → Type 0) (xs ys : List (ℕ × ℕ)) → ((x y : ℕ × ℕ) → P x → Q y → x.0 ≢ y.0) → Each P xs → Each Q ys → OwnPlaces xs → OwnPlaces ys → OwnPlaces (xs ++ ys)
own_both P Q [] ys apart first second own own' = own'
own_both P Q (x ∷ xs) ys apart first second own own' =
    own_more x (xs ++ ys)
    (each_both (λ (y : ℕ × ℕ). y.0 ≢ x.0) xs ys (λ k y at e. let none : suc k ≡ zero = own (suc k) zero y x at refl e in absurd (omega (arith, none)))
    (λ k y at e. apart x y (first zero x refl) (second k y at) (sym e)))
    (own_both P Q xs ys apart (λ k y at. first (suc k) y at) second (λ i j s t at at' same. let e : suc i ≡ suc j = own (suc i) (suc j) s t at at' same in omega (arith, e)) own')

-- the store is into a field of the block from this one on, and below that
pub record IsBetween (block low high : ℕ) (store : ℕ × ℕ) : Type 0 where
  pub field : ℕ
  pub from : low ≤ field
  pub below : field < high
  pub place : store.0 ≡ block_place block field

fields_apart : (block low mid high : ℕ) (x y : ℕ × ℕ) → high ≤ 32 → mid ≤ high → IsBetween block low mid x → IsBetween block mid high y → x.0 ≢ y.0
fields_apart block low mid high x y few less first second same =
    let one = same_field block first.field block second.field (let b = first.below in omega (arith, b, less, few)) (let b = second.below in omega (arith, b, few)) (sym first.place ∙ same ∙ second.place) in
    let a = first.below in
    let b = second.from in
    absurd (omega (arith, one, a, b))

between : (block low high field word : ℕ) → low ≤ field → field < high → IsBetween block low high (block_place block field, word)
between block low high field word from below = record { field = field; from = from; below = below; place = refl }

pub other_field : (block field other word word' : ℕ) → field < 32 → other < 32 → field ≢ other → block_place block field ≢ block_place block other
other_field block field other word word' small small' apart same = apart (same_field block field block other small small' same)

-- ---- three stores in a row

module _ (block low : ℕ) (few : low + 3 ≤ 32) (a b c : ℕ) where
  abbrev third : List (ℕ × ℕ)
  third = (block_place block (low + 2), c) ∷ []

  abbrev second : List (ℕ × ℕ)
  second = (block_place block (low + 1), b) ∷ third

  abbrev row : List (ℕ × ℕ)
  row = (block_place block low, a) ∷ second

  pub row_between : Each (IsBetween block low (low + 3)) row
  row_between =
      each_more (IsBetween block low (low + 3)) (block_place block low, a) second (between block low (low + 3) low a (omega arith) (omega arith))
      (each_more (IsBetween block low (low + 3)) (block_place block (low + 1), b) third (between block low (low + 3) (low + 1) b (omega arith) (omega arith))
      (each_more (IsBetween block low (low + 3)) (block_place block (low + 2), c) [] (between block low (low + 3) (low + 2) c (omega arith) (omega arith)) (each_none (IsBetween block low (low + 3)))))

  pub row_own : OwnPlaces row
  row_own =
      own_more (block_place block low, a) second
      (each_more (λ (y : ℕ × ℕ). y.0 ≢ block_place block low) (block_place block (low + 1), b) third (other_field block (low + 1) low b a (omega (arith, few)) (omega (arith, few)) (λ e. absurd (omega (arith, e))))
      (each_more (λ (y : ℕ × ℕ). y.0 ≢ block_place block low) (block_place block (low + 2), c) [] (other_field block (low + 2) low c a (omega (arith, few)) (omega (arith, few)) (λ e. absurd (omega (arith, e))))
      (each_none (λ (y : ℕ × ℕ). y.0 ≢ block_place block low))))
      (own_more (block_place block (low + 1), b) third
      (each_more (λ (y : ℕ × ℕ). y.0 ≢ block_place block (low + 1)) (block_place block (low + 2), c) []
      (other_field block (low + 2) (low + 1) c b (omega (arith, few)) (omega (arith, few)) (λ e. absurd (omega (arith, e)))) (each_none (λ (y : ℕ × ℕ). y.0 ≢ block_place block (low + 1))))
      (own_more (block_place block (low + 2), c) [] (each_none (λ (y : ℕ × ℕ). y.0 ≢ block_place block (low + 2))) own_none))
