-- The paths: from the beginning of each list the next references lead through nodes with rising keys to the
-- end. They are given as the set of nodes on them.
use Rattle.std.specs.Prelude.{◌≡◌, ◌≢◌, ℕ, ◌/◌, ◌%◌, ◌<◌, ◌≤◌, nat_lt, ◌||◌, Bool, true, List}
use Rattle.word_fields.specs.Versioned.{versioned_value}
use Rattle.node_arena.specs.MemoryMap.{block_place, block_at}
use Rattle.normal_traits.specs.World.{Change}
use Rattle.harris_list_form.specs.Lists.{Lists}
use Rattle.harris_list_form.specs.Nodes.{holds, is_node, node_key, next_at, node_rank, place_rank, rank_of, IsLink, IsNamed}

-- a beginning, which is in block 0, or the place of the next word of a node that is on the path
abbrev pub stands : (ℕ → Bool) → ℕ → Bool
stands path place = nat_lt place (block_place 1 0) || path (block_at place)

-- `next` has the reference to which the word at a place leads. Each leads to a later node of its list or to
-- the end, and from the path along the path, past no node of it; no two nodes on the paths have one key.
pub record IsPath (lists : Lists) (changes : List Change) (next : ℕ → ℕ) (path : ℕ → Bool) : Type 0 where
  pub nodes : (block : ℕ) → path block ≡ true → is_node changes block ≡ true
  pub leads : (start place : ℕ) → IsLink lists changes start place → IsNamed lists changes start (next place)
  pub rises : (start place : ℕ) → IsLink lists changes start place → place_rank changes place < rank_of changes (next place)
  pub along : (start place : ℕ) → IsLink lists changes start place → stands path place ≡ true → next place ≢ 0 → path (next place / 4) ≡ true
  pub nearest : (start place block : ℕ) → IsLink lists changes start place → stands path place ≡ true → path block ≡ true → lists.start_of (node_key changes block) ≡ start
      → place_rank changes place < node_rank changes block → rank_of changes (next place) ≤ node_rank changes block
  pub one_a_key : (block other : ℕ) → path block ≡ true → path other ≡ true → node_key changes block ≡ node_key changes other → block ≡ other

-- 0 at a beginning and at an unmarked node, 1 at a marked one
abbrev pub parity : (ℕ → ℕ) → ℕ → ℕ
parity words place = versioned_value (words place) % 2

-- the unmarked nodes: they are on the paths, and their keys are those that the set holds
pub record AreLive (lists : Lists) (changes : List Change) (words : ℕ → ℕ) (path : ℕ → Bool) : Type 0 where
  pub starts : (place : ℕ) → lists.is_start place ≡ true → parity words place ≡ 0
  pub live : (block : ℕ) → is_node changes block ≡ true → parity words (next_at block) ≡ 0 → path block ≡ true
  pub held : (block : ℕ) → is_node changes block ≡ true → parity words (next_at block) ≡ 0 → holds changes (node_key changes block) ≡ true
  pub kept : (key : ℕ) → holds changes key ≡ true → (block : ℕ) × (is_node changes block ≡ true) × (node_key changes block ≡ key) × (parity words (next_at block) ≡ 0)
