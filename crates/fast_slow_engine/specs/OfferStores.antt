-- The stores of an offer, each a place and a word, in the order in which they are made: what the block tells of its call,
-- then the client's stores. A list that others execute stands in the block too, between the two.
use Rattle.std.specs.Prelude.{ℕ, List, [], ◌∷◌, ◌++◌, length, slice_get, Option, Some, None}
use Rattle.lin_report.specs.declared.calls.Op.{Op}
use Rattle.step_memory.specs.declared.steps.Request.{Request}
use Rattle.step_memory.specs.declared.steps.Request.TheVariants.{Load, Store}
use Rattle.word_fields.specs.Announced.{op_word, value_word}
use Rattle.word_fields.specs.Owners.{owner_word}
use Rattle.node_arena.specs.declared.places.TheConstants.{OWNER_FIELD, OP_FIELD, VALUE_FIELD, LENGTH_FIELD}
use Rattle.node_arena.specs.MemoryMap.{block_place}
use Rattle.normal_traits.specs.declared.lists.Entry.{Entry}
use Rattle.cas_executor.specs.BlockReads.{entry_field}

-- what a block tells of its call: its seat and number, its operation, and its value
abbrev pub call_stores : ℕ → ℕ → ℕ → Op → List (ℕ × ℕ)
call_stores block seat number op =
    (block_place block OWNER_FIELD, owner_word seat number) ∷ (block_place block OP_FIELD, op_word op.code number op.key)
    ∷ (block_place block VALUE_FIELD, value_word number op.value) ∷ []

-- the stores of a list that its own seat executes: the call, then the client's
abbrev pub own_stores : ℕ → ℕ → ℕ → Op → List (ℕ × ℕ) → List (ℕ × ℕ)
own_stores block seat number op stores = call_stores block seat number op ++ stores

-- the call and the length of the list
abbrev pub note_stores : ℕ → ℕ → ℕ → Op → ℕ → List (ℕ × ℕ)
note_stores block seat number op count = call_stores block seat number op ++ (block_place block LENGTH_FIELD, count) ∷ []

-- the three words of entry j, where there is one
abbrev pub entry_stores : ℕ → ℕ → Option Entry → List (ℕ × ℕ)
entry_stores block j None = []
entry_stores block j (Some entry) =
    (block_place block (entry_field j 0), entry.target) ∷ (block_place block (entry_field j 1), entry.from) ∷ (block_place block (entry_field j 2), entry.to) ∷ []

-- the stores of a list that others execute: the call, the length, the entries in order, then the client's
abbrev pub offer_stores : ℕ → ℕ → ℕ → Op → List Entry → List (ℕ × ℕ) → List (ℕ × ℕ)
offer_stores block seat number op entries stores =
    ((note_stores block seat number op (length entries) ++ entry_stores block 0 (slice_get entries 0)) ++ entry_stores block 1 (slice_get entries 1)) ++ stores

-- the request that makes a store, where there is one
abbrev pub stored_by : Option (ℕ × ℕ) → Request
stored_by None = Load 0
stored_by (Some store) = Store store.0 store.1
