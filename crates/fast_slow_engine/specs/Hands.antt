-- The block in hand: one that a seat has claimed, and that no list has used yet.
use Rattle.std.specs.Prelude.{ℕ, Bool, true, false, Option, Some, None}

-- the number of the block in hand, 0 for none
abbrev pub block_of : Option ℕ → ℕ
block_of None = 0
block_of (Some block) = block

-- whether no block is in hand
abbrev pub holds_none : Option ℕ → Bool
holds_none None = true
holds_none (Some block) = false
