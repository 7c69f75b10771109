-- The places of the tree. An internal node is node 2 of its block and is named by the block; the root is that
-- of block 0. Each other node is a leaf.
use Rattle.std.specs.Prelude.{ℕ, ◌%◌, ◌==◌, nat_le, ◌||◌, ◌&&◌, Bool, true, false}
use Rattle.lin_report.specs.declared.calls.Op.{Op}
use Rattle.lin_report.specs.declared.calls.TheConstants.{SET, REM}
use Rattle.node_arena.specs.declared.places.TheConstants.{FIRST_WORDS, NODE_KEY, NODE_VALUE}
use Rattle.node_arena.specs.MemoryMap.{block_place, field_at, node_place}

-- ---- nodes

abbrev pub is_internal : ℕ → Bool
is_internal reference = reference % 4 == 2

-- which child: the left one for a key below the node's
abbrev pub child_field : Bool → ℕ
child_field true = 19
child_field false = 20

abbrev pub child_at : ℕ → Bool → ℕ
child_at node left = block_place node (child_field left)

abbrev pub update_at : ℕ → ℕ
update_at node = block_place node 21

abbrev pub key_at : ℕ → ℕ
key_at node = block_place node 17

abbrev pub leaf_key_at : ℕ → ℕ
leaf_key_at leaf = node_place leaf NODE_KEY

abbrev pub leaf_value_at : ℕ → ℕ
leaf_value_at leaf = node_place leaf NODE_VALUE

-- ---- which places are exchanged

abbrev pub is_child : ℕ → Bool
is_child place = nat_le FIRST_WORDS place && (field_at place == 19 || field_at place == 20)

abbrev pub is_update : ℕ → Bool
is_update place = nat_le FIRST_WORDS place && field_at place == 21

abbrev pub is_versioned : ℕ → Bool
is_versioned place = is_child place || is_update place

-- ---- operations

abbrev pub is_set : Op → Bool
is_set op = op.code == SET

abbrev pub is_rem : Op → Bool
is_rem op = op.code == REM

abbrev pub may_list : Op → Bool
may_list op = is_set op || is_rem op
