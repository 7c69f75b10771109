-- The queue's chain of nodes, as the changes give it: a dummy node, and behind it a node for each put. No
-- word takes part, so what stands at a place of the chain never changes.
use Rattle.std.specs.Prelude.{ℕ, ◌+◌, ◌==◌, ◌&&◌, if◌then◌else◌, nat_le, ◌||◌, Bool, List, [], ◌∷◌}
use Rattle.node_arena.specs.declared.places.TheConstants.{HEAD, TAIL, FIRST_WORDS, NODE_FIELD, NODE_VALUE, NODE_NEXT}
use Rattle.node_arena.specs.MemoryMap.{node_place, reference_to, field_at}
use Rattle.normal_traits.specs.World.{Change}
use Rattle.ms_queue_form.specs.Search.{is_put}

-- a change that puts
abbrev pub puts_one : Change → Bool
puts_one change = is_put change.list.call.op

-- how many changes put
abbrev pub puts : List Change → ℕ
puts [] = 0
puts (change ∷ older) = if puts_one change then puts older + 1 else puts older

-- how many changes take
abbrev pub takes : List Change → ℕ
takes [] = 0
takes (change ∷ older) = if puts_one change then takes older else takes older + 1

-- the block whose node 1 is the k-th of the chain: the dummy's is block 0, then come the blocks of the puts
abbrev pub node_block : List Change → ℕ → ℕ
node_block [] k = 0
node_block (change ∷ older) k = if puts_one change && k == puts older + 1 then change.list.block else node_block older k

-- the value that the k-th node was put with
abbrev pub put_value : List Change → ℕ → ℕ
put_value [] k = 0
put_value (change ∷ older) k = if puts_one change && k == puts older + 1 then change.list.call.op.value else put_value older k

-- the reference to the k-th node
abbrev pub node_at : List Change → ℕ → ℕ
node_at changes k = reference_to (node_block changes k) 1

-- the places of the next word and of the value of the k-th node
abbrev pub next_of : List Change → ℕ → ℕ
next_of changes k = node_place (node_at changes k) NODE_NEXT

abbrev pub value_of : List Change → ℕ → ℕ
value_of changes k = node_place (node_at changes k) NODE_VALUE

-- a place of the next word of a block's node 1
abbrev pub is_next : ℕ → Bool
is_next place = nat_le FIRST_WORDS place && field_at place == NODE_FIELD + NODE_NEXT

-- the roots: head and tail
abbrev pub is_root : ℕ → Bool
is_root place = place == HEAD || place == TAIL

-- head, tail and next words are versioned; lists have entries at the head and at next words alone
abbrev pub is_versioned : ℕ → Bool
is_versioned place = place == HEAD || place == TAIL || is_next place

abbrev pub is_listable : ℕ → Bool
is_listable place = place == HEAD || is_next place
