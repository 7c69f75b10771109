-- Numbers behind numbers.
use Rattle.std.proofs.Common.{arith, ◌≡◌, ◌∙◌, refl, ap, ℕ, zero, suc, ◌+◌}
use Rattle.generated_files.specs.Numbers.{draw, next_number, number_after, shown}

pub number_behind : (x m n : ℕ) → number_after (number_after x m) n ≡ number_after x (m + n)
unfolding number_after
number_behind x m zero = ap (number_after x) (let e : m ≡ m + 0 = omega arith in e)
number_behind x m (suc n) = ap next_number (number_behind x m n) ∙ ap (number_after x) (let e : suc (m + n) ≡ m + suc n = omega arith in e)

pub draw_behind : (x m n k : ℕ) → m + n ≡ k → draw (number_after x m) n ≡ draw x k
draw_behind x m n k e = ap shown (number_behind x m (n + 1) ∙ ap (number_after x) (let h : m + (n + 1) ≡ k + 1 = omega (arith, e) in h))

-- three draws
pub three : (x : ℕ) → next_number (next_number (next_number x)) ≡ number_after x 3
unfolding number_after
three x = refl

-- what the three of them show
pub shows_three : (x a b c : ℕ) → a ≡ next_number x → b ≡ next_number a → c ≡ next_number b → (shown a ≡ draw x 0) × (shown b ≡ draw x 1) × (shown c ≡ draw x 2)
unfolding number_after
shows_three x a b c p q r = (ap shown p, ap shown (q ∙ ap next_number p), ap shown (r ∙ ap next_number (q ∙ ap next_number p)))

pub number_none : (x : ℕ) → x ≡ number_after x 0
unfolding number_after
number_none x = refl
