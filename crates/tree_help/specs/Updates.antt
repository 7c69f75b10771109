-- The update words of internal nodes. An internal node is node 2 of its block. The value of its update word is
-- four times a block, and one of the states: clean, the flag of an insertion or of a removal, or the mark of a
-- removal.
use Rattle.std.specs.Prelude.{ℕ, ◌+◌, ◌*◌, ◌/◌, ◌%◌, ◌^◌, ◌==◌, Bool}
use Rattle.word_fields.specs.Versioned.{versioned_value, changed_word}
use Rattle.node_arena.specs.declared.places.TheConstants.{INFO_FIELD}
use Rattle.node_arena.specs.MemoryMap.{block_place, reference_to}
use Rattle.tree_help.specs.declared.states.TheConstants.{CLEAN}

abbrev pub state_of : ℕ → ℕ
state_of word = versioned_value word % 4

abbrev pub block_of : ℕ → ℕ
block_of word = versioned_value word / 4

abbrev pub is_clean : ℕ → Bool
is_clean word = state_of word == CLEAN

-- an update word after another, with this block and state
abbrev pub updated : ℕ → ℕ → ℕ → ℕ
updated word block state = changed_word word (4 * block + state)

-- the reference to the internal node of a block
abbrev pub inner : ℕ → ℕ
inner block = reference_to block 2

-- what a block notes of its call: the place and the word that are exchanged first, and for a removal the place
-- and the word of the child that swings, and the place of the child that stays
abbrev pub note_at : ℕ → ℕ → ℕ
note_at block note = block_place block (INFO_FIELD + note)

-- the place that a word has
abbrev pub place_in : ℕ → ℕ
place_in word = word % 2 ^ 32

-- the place of the update word of the internal node to which a place belongs
abbrev pub flag_place : ℕ → ℕ
flag_place place = place / 32 * 32 + 21
