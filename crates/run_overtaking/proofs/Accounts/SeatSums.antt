-- Sums over the seats, and a fold over two lists of events.
use Rattle.std.proofs.Common.{◌≡◌, ◌≢◌, ◌∙◌, refl, sym, ap, subst, ℕ, zero, suc, ◌+◌, ◌*◌, ◌<◌, ◌≤◌, List, [], ◌∷◌, ◌++◌, inl, inr, arith}
use Rattle.std.specs.List.{fold}
use Rattle.std.proofs.lemmas.Bool.{cases_eq}
use Rattle.run_overtaking.specs.Accounts.{sum_below}

-- ---- sums

pub sum_same : (n : ℕ) (f g : ℕ → ℕ) → ((u : ℕ) → u < n → f u ≡ g u) → sum_below n f ≡ sum_below n g
sum_same zero f g same = refl
sum_same (suc n) f g same = (let rest = sum_same n f g (λ u less. same u (omega (arith, less))) in let last = same n (omega arith) in omega (arith, rest, last))

-- one of the summands grows
pub sum_grows : (n i d : ℕ) (f g : ℕ → ℕ) → i < n → ((u : ℕ) → u ≢ i → g u ≡ f u) → g i ≡ f i + d → sum_below n g ≡ sum_below n f + d
sum_grows zero i d f g inside same more = absurd (omega (arith, inside))
sum_grows (suc n) i d f g inside same more =
    elim (cases_eq n i) [
      | inl last ↦ (
          let rest = sum_same n g f (λ u less. same u (λ is. omega (arith, less, last, is))) in
          let e : g n ≡ f n + d = subst (λ k. g k ≡ f k + d) (sym last) more in omega (arith, rest, e))
      | inr other ↦ (
          let rest = sum_grows n i d f g (omega (arith, inside, other)) same more in
          let e = same n other in omega (arith, rest, e))
    ]

sum_most : (n m : ℕ) (f : ℕ → ℕ) → ((u : ℕ) → u < n → f u ≤ m) → sum_below n f ≤ n * m
sum_most zero m f most = omega arith
sum_most (suc n) m f most = (let rest = sum_most n m f (λ u less. most u (omega (arith, less))) in let last = most n (omega arith) in let e : suc n * m ≡ n * m + m = omega arith in omega (arith, rest, last, e))

-- one of them is 0
pub sum_but : (n m x : ℕ) (f : ℕ → ℕ) → x < n → f x ≡ 0 → ((u : ℕ) → u < n → f u ≤ m) → sum_below n f + m ≤ n * m
sum_but zero m x f inside none most = absurd (omega (arith, inside))
sum_but (suc n) m x f inside none most =
    let e : suc n * m ≡ n * m + m = omega arith in
    elim (cases_eq n x) [
      | inl last ↦ (
          let rest = sum_most n m f (λ u less. most u (omega (arith, less))) in
          let z : f n ≡ 0 = ap f last ∙ none in omega (arith, rest, z, e))
      | inr other ↦ (
          let rest = sum_but n m x f (omega (arith, inside, other)) none (λ u less. most u (omega (arith, less))) in
          let l = most n (omega arith) in omega (arith, rest, l, e))
    ]

-- each of them is at most another one
pub sum_le : (n : ℕ) (f g : ℕ → ℕ) → ((u : ℕ) → u < n → f u ≤ g u) → sum_below n f ≤ sum_below n g
sum_le zero f g le = omega arith
sum_le (suc n) f g le = (let rest = sum_le n f g (λ u less. le u (omega (arith, less))) in let last = le n (omega arith) in omega (arith, rest, last))

pub sum_add : (n : ℕ) (f g : ℕ → ℕ) → sum_below n (λ u. f u + g u) ≡ sum_below n f + sum_below n g
sum_add zero f g = refl
sum_add (suc n) f g = (let rest = sum_add n f g in omega (arith, rest))

pub sum_zero : (n : ℕ) (f : ℕ → ℕ) → ((u : ℕ) → f u ≡ 0) → sum_below n f ≡ 0
sum_zero zero f none = refl
sum_zero (suc n) f none = (let rest = sum_zero n f none in let last = none n in omega (arith, rest, last))

-- ---- events that come one after another

pub fold_append : {A B : Type 0} (f : B → A → B) (s : B) (xs ys : List A) → fold f s (xs ++ ys) ≡ fold f (fold f s xs) ys
fold_append f s [] ys = refl
fold_append f s (x ∷ xs) ys = fold_append f (f s x) xs ys
