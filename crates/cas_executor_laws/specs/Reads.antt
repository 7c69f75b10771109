-- What a block holds of its call and its list, and how far a read has come with it.
use Rattle.std.specs.Prelude.{◌≡◌, ℕ, zero, suc, ◌%◌, ◌^◌, List, [], ◌∷◌, ◌++◌, length, Some, None}
use Rattle.arrayvec.specs.ArrayVec.{ArrayVec}
use Rattle.step_memory.specs.declared.steps.Seen.{Seen}
use Rattle.step_memory.specs.Step.{requested_place}
use Rattle.node_arena.specs.declared.places.TheConstants.{OP_FIELD, VALUE_FIELD, LENGTH_FIELD}
use Rattle.node_arena.specs.MemoryMap.{block_place}
use Rattle.normal_traits.specs.declared.lists.Entry.{Entry}
use Rattle.cas_executor.specs.declared.block_read.ReadStep.{ReadStep}
use Rattle.cas_executor.specs.declared.block_read.ReadStep.TheVariants.{Op, Value, Length, Target, From, To}
use Rattle.cas_executor.specs.BlockReads.{ReadWalk, IsReading, count_of, entry_field, read_fed, read_new, read_request, read_result}

-- ---- what a block holds

-- entry j, whose target is taken modulo 2^32
abbrev pub stored_entry : (ℕ → ℕ) → ℕ → ℕ → Entry
stored_entry words block j =
    record {
      target = words (block_place block (entry_field j 0)) % 2 ^ 32;
      from = words (block_place block (entry_field j 1));
      to = words (block_place block (entry_field j 2));
    }

-- the first entries, so many
abbrev pub stored_entries : (ℕ → ℕ) → ℕ → ℕ → List Entry
stored_entries words block zero = []
stored_entries words block (suc n) = stored_entries words block n ++ (stored_entry words block n ∷ [])

-- how many entries there are
abbrev pub stored_count : (ℕ → ℕ) → ℕ → ℕ
stored_count words block = count_of (words (block_place block LENGTH_FIELD))

-- op word, value word and list
abbrev pub stored_in : (ℕ → ℕ) → ℕ → ℕ × ℕ × ArrayVec Entry
stored_in words block =
    (words (block_place block OP_FIELD), words (block_place block VALUE_FIELD), record { items = stored_entries words block (stored_count words block) })

-- ---- how far a read has come

-- the two words of the call, the length and the entries read so far are those of the block
pub record HasRead (words : ℕ → ℕ) (walk : ReadWalk) : Type 0 where
  pub op : walk.op ≡ words (block_place walk.block OP_FIELD)
  pub value : walk.value ≡ words (block_place walk.block VALUE_FIELD)
  pub count : walk.count ≡ stored_count words walk.block
  pub entries : walk.entries ≡ stored_entries words walk.block (length walk.entries)

abbrev pub ReadTo : ReadStep → (ℕ → ℕ) → ReadWalk → Type 0
ReadTo Op words walk = Unit {0}
ReadTo Value words walk = walk.op ≡ words (block_place walk.block OP_FIELD)
ReadTo Length words walk = (walk.op ≡ words (block_place walk.block OP_FIELD)) × (walk.value ≡ words (block_place walk.block VALUE_FIELD))
ReadTo Target words walk = HasRead words walk
ReadTo From words walk = HasRead words walk × (walk.target ≡ (stored_entry words walk.block (length walk.entries)).target)
ReadTo To words walk =
    HasRead words walk × (walk.target ≡ (stored_entry words walk.block (length walk.entries)).target) × (walk.from ≡ (stored_entry words walk.block (length walk.entries)).from)

-- what was read is what the block holds
abbrev pub IsReadOf : (ℕ → ℕ) → ReadWalk → Type 0
IsReadOf words walk = ReadTo walk.step words walk

-- ---- laws

-- a read that begins has read nothing
abbrev pub ReadsBegin : Type 0
ReadsBegin = (words : ℕ → ℕ) (block : ℕ) → IsReadOf words (read_new block)

-- a load of the block's own word keeps that
abbrev pub ReadsGoOn : Type 0
ReadsGoOn =
    (words : ℕ → ℕ) (walk : ReadWalk) (seen : Seen) → IsReading walk → IsReadOf words walk → seen.before ≡ words (requested_place (read_request walk))
    → read_result walk seen ≡ None → IsReadOf words (read_fed walk seen)

-- and what the read gives is what the block holds
abbrev pub ReadsAreExact : Type 0
ReadsAreExact =
    (words : ℕ → ℕ) (walk : ReadWalk) (seen : Seen) (given : ℕ × ℕ × ArrayVec Entry) → IsReading walk → IsReadOf words walk → seen.before ≡ words (requested_place (read_request walk))
    → read_result walk seen ≡ Some given → given ≡ stored_in words walk.block
