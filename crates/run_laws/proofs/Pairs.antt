-- Pairs of a list that is put together.
use Rattle.std.proofs.Common.{arith, refl, sym, subst, suc, map, ◌-◌, List, [], ◌∷◌, ◌++◌, length, length-append, get_or, All, AllPairs, inl, inr}
use Rattle.std.proofs.lemmas.Bool.{cases_lt}
use Rattle.std.proofs.lemmas.List.Elements.{All-cons, All-head, All-nil, All-tail}
use Rattle.std.proofs.lemmas.List.{get_or_append_left, get_or-append_right}

module _ {X : Type 0} (R : X → X → Type 0) where
  pub pairs_nil : AllPairs R []
  pairs_nil i j d before inside = absurd (omega arith)

  pub pairs_one : (x : X) → AllPairs R (x ∷ [])
  pairs_one x i j d before inside = absurd (omega arith)

  -- two lists of pairs, and R between them
  pub pairs_append : (xs ys : List X) → AllPairs R xs → AllPairs R ys → All (λ x. All (R x) ys) xs → AllPairs R (xs ++ ys)
  pairs_append xs ys left right cross i j d before inside =
      let long = length-append xs ys in
      elim (cases_lt j (length xs)) [
        | inl within ↦
            subst (λ x. R x (get_or (xs ++ ys) j d)) (sym (get_or_append_left xs ys d i (omega arith)))
            (subst (λ y. R (get_or xs i d) y) (sym (get_or_append_left xs ys d j within)) (left i j d before within))
        | inr beyond ↦
            subst (λ y. R (get_or (xs ++ ys) i d) y) (sym (get_or-append_right xs ys (length xs) j d refl beyond))
            (elim (cases_lt i (length xs)) [
              | inl within ↦ subst (λ x. R x (get_or ys (j - length xs) d)) (sym (get_or_append_left xs ys d i within)) (cross i d within (j - length xs) d (omega (arith, long)))
              | inr later ↦ subst (λ x. R x (get_or ys (j - length xs) d)) (sym (get_or-append_right xs ys (length xs) i d refl later)) (right (i - length xs) (j - length xs) d (omega arith) (omega (arith, long)))
            ])
      ]

  pub pairs_cons : (x : X) (xs : List X) → All (R x) xs → AllPairs R xs → AllPairs R (x ∷ xs)
  pairs_cons x xs head tail = pairs_append (x ∷ []) xs (pairs_one x) tail (All-cons (λ y. All (R y) xs) x [] head (All-nil (λ y. All (R y) xs)))

-- what holds of the images
pub all_map : {X Y : Type 0} (P : Y → Type 0) (g : X → Y) (xs : List X) → All (λ x. P (g x)) xs → All P (map g xs)
all_map P g [] each = All-nil P
all_map P g (x ∷ xs) each = All-cons P (g x) (map g xs) (All-head (λ y. P (g y)) x xs each) (all_map P g xs (All-tail (λ y. P (g y)) x xs each))

pub pairs_map : {X Y : Type 0} (R : Y → Y → Type 0) (g : X → Y) (xs : List X) → AllPairs (λ x y. R (g x) (g y)) xs → AllPairs R (map g xs)
pairs_map R g [] pairs = pairs_nil R
pairs_map R g (x ∷ xs) pairs =
    pairs_cons R (g x) (map g xs) (all_map (R (g x)) g xs (λ k d inside. pairs 0 (suc k) d (omega arith) (omega arith))) (pairs_map R g xs (λ i j d before inside. pairs (suc i) (suc j) d (omega arith) (omega arith)))
