-- What holds of each element, or of each two, of lists in a row.
use Rattle.std.proofs.Common.{◌+◌, List, ◌∷◌, ◌++◌, length, get_or, map, All, AllPairs, subst, arith, length-append}
use Rattle.std.proofs.Math.Seq.{get_or-append_seam}
use Rattle.std.proofs.lemmas.List.{get_or_append_left, get_or-append-add, get_or-map, length-map}

pub all_front : {X : Type 0} (P : X → Type 0) (xs ys : List X) → All P (xs ++ ys) → All P xs
all_front P xs ys all k d lt = subst P (get_or_append_left xs ys d k lt) (all k d (omega (arith, length-append xs ys)))

pub all_back : {X : Type 0} (P : X → Type 0) (xs ys : List X) → All P (xs ++ ys) → All P ys
all_back P xs ys all k d lt = subst P (get_or-append-add xs ys k d) (all (length xs + k) d (omega (arith, length-append xs ys)))

-- an element and those in front of it
pub pairs_before : {X : Type 0} (R : X → X → Type 0) (xs : List X) (y : X) (ys : List X) → AllPairs R (xs ++ y ∷ ys) → All (λ x. R x y) xs
pairs_before R xs y ys all k d lt =
    subst (λ x. R x y) (get_or_append_left xs (y ∷ ys) d k lt)
    (subst (R (get_or (xs ++ y ∷ ys) k d)) (get_or-append_seam xs y ys d) (all k (length xs) d lt (omega (arith, length-append xs (y ∷ ys)))))

-- what holds of the images
pub all_mapped : {X Y : Type 0} (f : X → Y) (P : Y → Type 0) (xs : List X) → All P (map f xs) → All (λ x. P (f x)) xs
all_mapped f P xs all k d lt = subst P (get_or-map f xs k d (f d) lt) (all k (f d) (omega (arith, length-map xs f)))

-- what holds of each two in front
pub pairs_front : {X : Type 0} (R : X → X → Type 0) (xs ys : List X) → AllPairs R (xs ++ ys) → AllPairs R xs
pairs_front R xs ys all i j d before lt =
    subst (λ x. R x (get_or xs j d)) (get_or_append_left xs ys d i (omega arith))
    (subst (R (get_or (xs ++ ys) i d)) (get_or_append_left xs ys d j lt) (all i j d before (omega (arith, length-append xs ys))))
