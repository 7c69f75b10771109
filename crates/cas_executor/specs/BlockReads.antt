-- Reading a block: its op word, its value word, and its list.
use Rattle.std.specs.Prelude.{◌≡◌, ℕ, ◌+◌, ◌*◌, ◌%◌, ◌^◌, ◌<◌, ◌≤◌, ◌==◌, if◌then◌else◌, List, [], ◌∷◌, ◌++◌, length, Option, Some, None}
use Rattle.arrayvec.specs.ArrayVec.{ArrayVec}
use Rattle.step_memory.specs.declared.steps.Request.{Request}
use Rattle.step_memory.specs.declared.steps.Request.TheVariants.{Load}
use Rattle.step_memory.specs.declared.steps.Seen.{Seen}
use Rattle.node_arena.specs.declared.places.TheConstants.{OP_FIELD, VALUE_FIELD, LENGTH_FIELD, ENTRY_FIELD, ENTRY_FIELDS}
use Rattle.node_arena.specs.MemoryMap.{block_place}
use Rattle.normal_traits.specs.declared.lists.Entry.{Entry}
use Rattle.cas_executor.specs.declared.block_read.ReadStep.{ReadStep}
use Rattle.cas_executor.specs.declared.block_read.ReadStep.TheVariants.{Op, Value, Length, Target, From, To}

-- a block, and what has been read of it: the two words of its call, how many entries its list has, the entries
-- read so far, and target and `from` of the next one
pub record ReadWalk : Type 0 where
  pub block : ℕ
  pub op : ℕ
  pub value : ℕ
  pub count : ℕ
  pub entries : List Entry
  pub target : ℕ
  pub from : ℕ
  pub step : ReadStep

-- no entry is read before the length
abbrev pub IsInOrder : ReadStep → ℕ → Type 0
IsInOrder Target read = Unit {0}
IsInOrder From read = Unit {0}
IsInOrder To read = Unit {0}
IsInOrder _ read = read ≡ 0

-- words are still to be loaded, and the block is one of an arena
pub record IsReading (walk : ReadWalk) : Type 0 where
  pub small : walk.block < 2 ^ 17
  pub left : length walk.entries < walk.count
  pub short : walk.count ≤ 2
  pub in_order : IsInOrder walk.step (length walk.entries)

-- a read that has loaded nothing
abbrev pub read_new : ℕ → ReadWalk
read_new block = record { block = block; op = 0; value = 0; count = 1; entries = []; target = 0; from = 0; step = Op }

-- the field of a block that has a word of an entry: 0 its target, 1 `from`, 2 `to`
abbrev pub entry_field : ℕ → ℕ → ℕ
entry_field entry word = ENTRY_FIELD + ENTRY_FIELDS * entry + word

-- the field of the next load
abbrev pub read_field : ReadStep → ℕ → ℕ
read_field Op entry = OP_FIELD
read_field Value entry = VALUE_FIELD
read_field Length entry = LENGTH_FIELD
read_field Target entry = entry_field entry 0
read_field From entry = entry_field entry 1
read_field To entry = entry_field entry 2

-- the next request
abbrev pub read_request : ReadWalk → Request
read_request walk = Load (block_place walk.block (read_field walk.step (length walk.entries)))

-- how many entries a list of this stored length has: a length other than 1 and 2 is read as 1
abbrev pub count_of : ℕ → ℕ
count_of word = if word == 2 then 2 else 1

-- the entries with the one whose `to` was loaded now
abbrev pub with_entry : ReadWalk → ℕ → List Entry
with_entry walk to = walk.entries ++ (record { target = walk.target; from = walk.from; to = to } ∷ [])

abbrev pub read_at : ReadStep → ReadWalk → ℕ → ReadWalk
read_at Op walk word = record walk { op = word; step = Value }
read_at Value walk word = record walk { value = word; step = Length }
read_at Length walk word = record walk { count = count_of word; step = Target }
read_at Target walk word = record walk { target = word % 2 ^ 32; step = From }
read_at From walk word = record walk { from = word; step = To }
read_at To walk word = record walk { entries = with_entry walk word; step = Target }

-- what the read becomes
abbrev pub read_fed : ReadWalk → Seen → ReadWalk
read_fed walk seen = read_at walk.step walk seen.before

-- the next word is the last one
abbrev pub IsLast : ReadWalk → Type 0
IsLast walk = (walk.step ≡ To) × (length walk.entries + 1 ≡ walk.count)

abbrev pub given_at : ReadStep → ReadWalk → ℕ → Option (ℕ × ℕ × ArrayVec Entry)
given_at To walk word =
    if length walk.entries + 1 == walk.count then Some (walk.op, walk.value, record { items = with_entry walk word }) else None
given_at _ walk word = None

-- what the read gives: op word, value word and list, once all words are loaded
abbrev pub read_result : ReadWalk → Seen → Option (ℕ × ℕ × ArrayVec Entry)
read_result walk seen = given_at walk.step walk seen.before
