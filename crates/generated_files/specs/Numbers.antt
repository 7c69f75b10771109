-- Numbers of 64 bits, each made of the one before.
use Rattle.std.specs.Prelude.{ℕ, zero, suc, ◌+◌, ◌*◌, ◌/◌, ◌%◌, ◌^◌}

-- the number behind one
abbrev pub next_number : ℕ → ℕ
next_number x = (x * 6364136223846793005 + 1442695040888963407) % 2 ^ 64

-- what a draw shows of its number
abbrev pub shown : ℕ → ℕ
shown x = x / 2 ^ 33

-- the number so many places behind one
unfoldable pub number_after : ℕ → ℕ → ℕ
number_after x zero = x
number_after x (suc n) = next_number (number_after x n)

-- what the draws show, counted from 0
abbrev pub draw : ℕ → ℕ → ℕ
draw x n = shown (number_after x (n + 1))
