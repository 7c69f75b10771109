-- Elements of a list after one was written, and tests joined.
use Rattle.std.proofs.Common.{◌≡◌, ◌≢◌, ◌∙◌, refl, sym, subst, ap, ℕ, zero, suc, ◌<◌, ◌&&◌, Bool, true, false, List, [], ◌∷◌, length, length-set, replicate, get_or-set_same, slice_get, slice_set, Some}
use Rattle.std.proofs.lemmas.Option.{slice_get-get_or}

pub at_set : {A : Type 0} (xs : List A) (i : ℕ) (y : A) → i < length xs → slice_get (slice_set xs i y) i ≡ Some y
at_set xs i y inside =
    slice_get-get_or (slice_set xs i y) i y (subst (λ n. i < n) (sym (length-set xs i y)) inside) ∙ ap Some (get_or-set_same xs i y y inside)

pub beside_set : {A : Type 0} (xs : List A) (i j : ℕ) (y : A) → j ≢ i → slice_get (slice_set xs i y) j ≡ slice_get xs j
beside_set [] i j y apart = refl
beside_set (x ∷ xs) zero zero y apart = absurd (apart refl)
beside_set (x ∷ xs) zero (suc j) y apart = refl
beside_set (x ∷ xs) (suc i) zero y apart = refl
beside_set (x ∷ xs) (suc i) (suc j) y apart = beside_set xs i j y (λ e. apart (ap suc e))

pub some_same : {A : Type 0} (x y : A) → Some x ≡ Some y → x ≡ y
some_same x y e = cc

-- each element of a list of copies is the copied one
pub copy_at : {A : Type 0} (n i : ℕ) (x y : A) → slice_get (replicate n x) i ≡ Some y → y ≡ x
copy_at zero i x y e = absurd cc
copy_at (suc n) zero x y e = sym (some_same x y e)
copy_at (suc n) (suc i) x y e = copy_at n i x y e

-- three tests hold together, or one fails
pub all_three : (a b c : Bool) → a ≡ true → b ≡ true → c ≡ true → (a && b && c) ≡ true
all_three a b c x y z = rw (x, y, z) refl

pub second_fails : (a b c : Bool) → b ≡ false → (a && b && c) ≡ false
second_fails true true c y = absurd cc
second_fails true false c y = refl
second_fails false b c y = refl

pub first_fails : (a b c : Bool) → a ≡ false → (a && b && c) ≡ false
first_fails true b c x = absurd cc
first_fails false b c x = refl

pub third_fails : (a b c : Bool) → c ≡ false → (a && b && c) ≡ false
third_fails true true c z = z
third_fails true false c z = refl
third_fails false b c z = refl

pub each_of_three : (a b c : Bool) → (a && b && c) ≡ true → (a ≡ true) × (b ≡ true) × (c ≡ true)
each_of_three true true c e = (refl, refl, e)
each_of_three true false c e = absurd cc
each_of_three false b c e = absurd cc
