-- Journals and changes that grow in front: what is known of each stays so, where the new one meets it too.
use Rattle.std.proofs.Common.{◌≡◌, ℕ, suc, ◌-◌, ◌≤◌, List, [], ◌∷◌, length, refl, sym, ap, subst, inl, inr, ◌⊎◌, arith}
use Rattle.std.specs.Prelude.{All, AllPairs, drop}
use Rattle.std.proofs.lemmas.List.Elements.{All-nil, All-cons}
use Rattle.std.proofs.lemmas.List.Kept.{AllPairs-cons}
use Rattle.normal_traits.specs.World.{Change, Among, first_changes}

-- what holds of each that is among a list holds of all of it
pub all_among : {X : Type 0} (P : X → Type 0) (xs : List X) → ((x : X) → Among x xs → P x) → All P xs
all_among P [] f = All-nil P
all_among P (x ∷ xs) f = All-cons P x xs (f x (inl refl)) (all_among P xs (λ y a. f y (inr a)))

-- with one more in front, what holds of each before and of the new one holds of each
pub each_more : {X : Type 0} (P : X → Type 0) (new : X) (xs ys : List X) → ys ≡ new ∷ xs → P new → ((x : X) → Among x xs → P x) → (x : X) → Among x ys → P x
each_more P new xs ys same here before x among = by_place (subst (Among x) same among)
  where
    by_place : (x ≡ new) ⊎ Among x xs → P x
    by_place (inl is) = subst P (sym is) here
    by_place (inr old) = before x old

-- and what holds of each two before, and of the new one with each, holds of each two
pub pairs_more : {X : Type 0} (R : X → X → Type 0) (new : X) (xs ys : List X) → ys ≡ new ∷ xs → ((x : X) → Among x xs → R new x) → AllPairs R xs → AllPairs R ys
pairs_more R new xs ys same apart before = subst (AllPairs R) (sym same) (AllPairs-cons R new xs (all_among (R new) xs apart) before)

-- of none each two meet anything
pub pairs_none : {X : Type 0} (R : X → X → Type 0) → AllPairs R []
pairs_none R = λ i j d order low. absurd (omega (arith, low))

-- the first changes are the same with one more in front
pub first_older : (change : Change) (changes : List Change) (count : ℕ) → count ≤ length changes → first_changes count (change ∷ changes) ≡ first_changes count changes
first_older change changes count low = ap (λ n. drop n (change ∷ changes)) (one_more (length changes) count low)
  where
    one_more : (n count : ℕ) → count ≤ n → suc n - count ≡ suc (n - count)
    one_more n count low = omega arith

-- the first of all changes, as many as there are, are all
pub first_all : (changes : List Change) → first_changes (length changes) changes ≡ changes
first_all changes = ap (λ n. drop n changes) (none_left (length changes))
  where
    none_left : (n : ℕ) → n - n ≡ 0
    none_left n = omega arith
