-- Which lists there are: one or more, each with a place at which it begins. A key belongs to one of them.
use Rattle.std.specs.Prelude.{◌≡◌, ℕ, ◌+◌, ◌<◌, ◌≤◌, ◌==◌, nat_le, ◌||◌, ◌&&◌, Bool, true}
use Rattle.lin_report.specs.declared.calls.Client.{Client}
use Rattle.lin_report.specs.declared.calls.Client.TheVariants as client
use Rattle.lin_report.specs.declared.calls.Op.{Op}
use Rattle.lin_report.specs.declared.calls.TheConstants.{MIN}
use Rattle.lin_report.specs.Object.{IsCommandOf, object_of}
use Rattle.node_arena.specs.declared.places.TheConstants.{FIRST_WORDS, NODE_FIELD, NODE_NEXT}
use Rattle.node_arena.specs.MemoryMap.{field_at, block_place}
use Rattle.node_arena.specs.Opening.{opening_word}
use Rattle.harris_list_form.specs.declared.states.TheConstants.{LIST_START}

-- the client, the place where the list of a key begins, and which places are such
pub record Lists : Type 0 where
  pub client : Client
  pub start_of : ℕ → ℕ
  pub is_start : ℕ → Bool

-- the clients whose object is the set
abbrev pub IsOfSets : Client → Type 0
IsOfSets client.Queue = ⊥
IsOfSets client.List = Unit {0}
IsOfSets client.Tree = ⊥
IsOfSets client.Buckets = Unit {0}

-- they are lists of a set, which begin in block 0 and are empty at first
pub record AreLists (lists : Lists) : Type 0 where
  pub sets : IsOfSets lists.client
  pub starts : (key : ℕ) → lists.is_start (lists.start_of key) ≡ true
  pub behind : (place : ℕ) → lists.is_start place ≡ true → FIRST_WORDS ≤ place
  pub within : (place : ℕ) → lists.is_start place ≡ true → place < block_place 1 0
  pub opening : (place : ℕ) → lists.is_start place ≡ true → opening_word lists.client place ≡ 0
  -- where the least key is asked for there is one list
  pub least : (op : Op) → IsCommandOf (object_of lists.client) op → op.code ≡ MIN → (key : ℕ) → lists.start_of key ≡ lists.start_of op.key

-- a place of the next word of a block's node 1
abbrev pub is_next : ℕ → Bool
is_next place = nat_le FIRST_WORDS place && field_at place == NODE_FIELD + NODE_NEXT

-- the beginnings and the next words are versioned, and entries of lists are there
abbrev pub is_versioned : Lists → ℕ → Bool
is_versioned lists place = lists.is_start place || is_next place

-- the client `list` has one list
abbrev pub the_list : Lists
the_list = record { client = client.List; start_of = λ key. LIST_START; is_start = λ place. place == LIST_START }
