-- The owner word of a block: the seat in bits 0 to 2 and the number in bits 3 to 18 of the call for
-- which the block was offered.
use Rattle.std.specs.Prelude.{ℕ, ◌+◌, ◌*◌, ◌^◌}
use Rattle.word_fields.specs.Fields.{field_of}

-- the seat
unfoldable pub owner_seat : ℕ → ℕ
owner_seat w = field_of 0 3 w

-- the number of its call
unfoldable pub owner_number : ℕ → ℕ
owner_number w = field_of 3 16 w

-- the word of a seat and a number
unfoldable pub owner_word : ℕ → ℕ → ℕ
owner_word seat number = seat + 2 ^ 3 * number
