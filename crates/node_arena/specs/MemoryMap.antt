-- The memory of a run: 32 first words, then blocks 0 to cap of 32 words each.
use Rattle.std.specs.Prelude.{◌<◌, ◌≤◌, ◌≢◌, ◌⊎◌, ◌&&◌, nat_le, nat_lt, Bool, ℕ, ◌+◌, ◌-◌, ◌*◌, ◌/◌, ◌%◌, ◌==◌, if◌then◌else◌}
use Rattle.node_arena.specs.declared.places.TheConstants.{ROOTS, VALUES, FIRST_WORDS}

-- how many words there are
abbrev pub words_of : ℕ → ℕ
words_of cap = 32 * (cap + 2)

-- the op word of a seat
abbrev pub op_place : ℕ → ℕ
op_place seat = 4 + seat

-- the record word of a seat
abbrev pub record_place : ℕ → ℕ
record_place seat = 12 + seat

-- the value word of a seat
abbrev pub value_place : ℕ → ℕ
value_place seat = 24 + seat

-- one of the four first words that are left to a structure for its roots
abbrev pub is_root_place : ℕ → Bool
is_root_place place = nat_le ROOTS place && nat_lt place VALUES

-- a place at which a structure may have a word: one for a root, or one in a block
abbrev pub MayBeClients : ℕ → Type 0
MayBeClients place = ((ROOTS ≤ place) × (place < VALUES)) ⊎ (FIRST_WORDS ≤ place)

-- a field of a block, below 32
unfoldable pub block_place : ℕ → ℕ → ℕ
block_place block field = 32 + 32 * block + field

-- a reference to a node, 1 to 3, of a block; the reference 0 is null
abbrev pub reference_to : ℕ → ℕ → ℕ
reference_to block node = 4 * block + node

-- the reference names a node of its block
abbrev pub NamesNode : ℕ → Type 0
NamesNode reference = reference % 4 ≢ 0

-- the node that a reference names in its block; a reference that names none is read as node 1
unfoldable pub node_named : ℕ → ℕ
node_named reference = if reference % 4 == 0 then 1 else reference % 4

-- a field of a node: key 0, value 1, next or left 2, right 3, update 4
unfoldable pub node_place : ℕ → ℕ → ℕ
node_place reference field = block_place (reference / 4) (12 + 5 * (node_named reference - 1) + field)

-- the block and the field of a place behind the first words
unfoldable pub block_at : ℕ → ℕ
block_at place = (place - 32) / 32

unfoldable pub field_at : ℕ → ℕ
field_at place = (place - 32) % 32
