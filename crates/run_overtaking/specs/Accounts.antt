-- The account of a call that waits with each seat, and the bound to which the accounts add up.
use Rattle.std.specs.Prelude.{◌≡◌, ℕ, zero, suc, ◌+◌, ◌*◌, ◌-◌, ◌/◌, ◌<◌, ◌≤◌, ◌==◌, if◌then◌else◌, Bool, true, false}

-- a call waits at this place, and a seat has returned so often since: returns and place together are at most what was
-- allowed, and less unless the seat is held back
pub record Account (allowed returned place : ℕ) (held : Bool) : Type 0 where
  pub loose : returned + place ≤ allowed
  pub strict : held ≡ false → returned + place < allowed

-- the same of a seat that may stand ahead itself, at this place of its own, with a call that isn't completed: then it has not
-- returned, and what it was allowed is one more than the way from its place to that of the call
pub record KeepsAccount (allowed returned place own : ℕ) (ahead held : Bool) : Type 0 where
  pub before : ahead ≡ true → (returned ≡ 0) × (allowed + own ≡ suc place)
  pub since : ahead ≡ false → Account allowed returned place held

-- f 0 + .. + f (n - 1)
abbrev pub sum_below : ℕ → (ℕ → ℕ) → ℕ
sum_below zero f = 0
sum_below (suc n) f = sum_below n f + f n

-- the sum over all seats but x
abbrev pub overtakers : ℕ → ℕ → (ℕ → ℕ) → ℕ
overtakers seats x count = sum_below seats (λ u. if u == x then 0 else count u)

-- the bound: how often a published call is overtaken at most, by the number of seats
abbrev pub most_overtaken : ℕ → ℕ
most_overtaken seats = (seats - 1) * (seats + 2) / 2
