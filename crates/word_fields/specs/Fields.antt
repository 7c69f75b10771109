-- Fields of a word: a word is a number, and bit 0 is its lowest.
use Rattle.std.specs.Prelude.{ℕ, ◌+◌, ◌*◌, ◌/◌, ◌%◌, ◌^◌, ◌<◌, ◌≤◌, ◌⊎◌}
use Rattle.std.proofs.lemmas.Nat.{pow_pos, mod_below}

-- the bits of w from bit `at` on, as many as `width`, as a number
unfoldable pub field_of : ℕ → ℕ → ℕ → ℕ
field_of at width w = w / 2 ^ at % 2 ^ width

-- w with these bits replaced by those of value: the bits above, the value, and the bits below
unfoldable pub with_field : ℕ → ℕ → ℕ → ℕ → ℕ
with_field at width w value = (w / 2 ^ (at + width) * 2 ^ width + value) * 2 ^ at + w % 2 ^ at

-- two fields have no bit in common
abbrev pub IsApart : ℕ → ℕ → ℕ → ℕ → Type 0
IsApart at width at' width' = (at + width ≤ at') ⊎ (at' + width' ≤ at)

-- a field's value is below its limit
pub field_below : (at width w : ℕ) → field_of at width w < 2 ^ width
unfolding field_of
field_below at width w = mod_below (w / 2 ^ at) (2 ^ width) (pow_pos width)
