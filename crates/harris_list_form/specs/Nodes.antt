-- The nodes that the changes have made, with their keys, and the keys that the set holds after them. No
-- word takes part, so what is said of a node here never changes.
use Rattle.std.specs.Prelude.{◌≡◌, ℕ, ◌+◌, ◌/◌, ◌==◌, nat_lt, ◌||◌, ◌&&◌, if◌then◌else◌, Bool, true, false, ◌⊎◌, List, [], ◌∷◌}
use Rattle.lin_report.specs.Commands.{KEY_LIMIT}
use Rattle.node_arena.specs.MemoryMap.{block_place, reference_to, block_at}
use Rattle.normal_traits.specs.World.{Change}
use Rattle.harris_list_form.specs.Lists.{Lists}
use Rattle.harris_list_form.specs.Search.{is_add, next_place, key_place}

-- whether the set holds a key: the newest change of the key tells
abbrev pub holds : List Change → ℕ → Bool
holds [] key = false
holds (change ∷ older) key = if change.list.call.op.key == key then is_add change.list.call.op else holds older key

-- the change brought in node 1 of the block
abbrev pub brings : Change → ℕ → Bool
brings change block = is_add change.list.call.op && change.list.block == block

-- node 1 of the block was brought in by a change
abbrev pub is_node : List Change → ℕ → Bool
is_node [] block = false
is_node (change ∷ older) block = brings change block || is_node older block

-- its key
abbrev pub node_key : List Change → ℕ → ℕ
node_key [] block = 0
node_key (change ∷ older) block = if brings change block then change.list.call.op.key else node_key older block

-- the places of its next word and of its key
abbrev pub next_at : ℕ → ℕ
next_at block = next_place (reference_to block 1)

abbrev pub key_at : ℕ → ℕ
key_at block = key_place (reference_to block 1)

-- ---- order

-- the beginning of a list comes before each node, and its end behind
abbrev pub LAST_RANK : ℕ
LAST_RANK = KEY_LIMIT + 1

abbrev pub node_rank : List Change → ℕ → ℕ
node_rank changes block = node_key changes block + 1

-- the rank of a beginning, which is in block 0, or of the node whose next word is at a place
abbrev pub place_rank : List Change → ℕ → ℕ
place_rank changes place = if nat_lt place (block_place 1 0) then 0 else node_rank changes (block_at place)

-- the rank of the node that a reference names, or of the end
abbrev pub rank_of : List Change → ℕ → ℕ
rank_of changes reference = if reference == 0 then LAST_RANK else node_rank changes (reference / 4)

-- ---- one list

-- a node with a key of the list that begins there
pub record IsOf (lists : Lists) (changes : List Change) (start block : ℕ) : Type 0 where
  pub node : is_node changes block ≡ true
  pub list : lists.start_of (node_key changes block) ≡ start

-- the beginning of the list, or the place of the next word of one of its nodes
abbrev pub IsLink : Lists → List Change → ℕ → ℕ → Type 0
IsLink lists changes start place =
    ((lists.is_start start ≡ true) × (place ≡ start)) ⊎ ((block : ℕ) × IsOf lists changes start block × (place ≡ next_at block))

-- null, or a reference to one of its nodes
abbrev pub IsNamed : Lists → List Change → ℕ → ℕ → Type 0
IsNamed lists changes start reference = (reference ≡ 0) ⊎ ((block : ℕ) × IsOf lists changes start block × (reference ≡ reference_to block 1))
