-- What anyone else does to the world: stores of the engine, exchanges of the client's words beside the offered lists,
-- and the steps on records.
use Rattle.std.specs.Prelude.{◌≡◌, ◌≢◌, ℕ, ◌+◌, ◌^◌, ◌<◌, ◌≤◌, ◌==◌, if◌then◌else◌, ◌⊎◌, true, false, ◌∷◌, Option, Some}
use Rattle.word_fields.specs.declared.records.RecordPhase.TheVariants.{Executing}
use Rattle.word_fields.specs.Payloads.{payload_block}
use Rattle.word_fields.specs.Records.{record_phase, record_number, record_payload}
use Rattle.word_fields.specs.Versioned.{versioned_bit, versioned_version}
use Rattle.node_arena.specs.declared.places.TheConstants.{FIRST_WORDS, STATE_FIELD}
use Rattle.node_arena.specs.MemoryMap.{block_place, record_place, MayBeClients}
use Rattle.normal_traits.specs.declared.lists.Entry.{Entry}
use Rattle.normal_traits.specs.World.{Listed, Maker, World, is_word}
use Rattle.normal_traits.specs.NormalForm.{NormalForm}
use Rattle.normal_traits.specs.Steps.{IsOffered, IsStep, with_change, with_word}
use Rattle.offered_blocks.specs.Blocks.{Offer, IsExecuting, has_taken, is_of}
use Rattle.offered_blocks.specs.Holds.{IsUnnamed, FilledFor}

-- the lists with one more: that of a block which a record now names
abbrev pub with_offer : {S : Type 0} → ℕ → Offer S → (ℕ → Option (Offer S)) → ℕ → Option (Offer S)
with_offer block offer offers at = if at == block then Some offer else offers at

-- a block that no list uses, and that no record has named
pub record IsSpare {S : Type 0} (world : World) (offers : ℕ → Option (Offer S)) (block : ℕ) : Type 0 where
  pub some : 0 < block
  pub unused : world.used block ≡ false
  pub unnamed : IsUnnamed offers block

-- the fields of a block that are stored for an offer: all but the states of its entries
abbrev pub IsStored : ℕ → Type 0
IsStored field = (field < STATE_FIELD) ⊎ (STATE_FIELD + 2 ≤ field)

-- where the engine stores: at its own first words but the records, and in spare blocks
pub data IsEngines {S : Type 0} (world : World) (offers : ℕ → Option (Offer S)) (place : ℕ) : Type 0 where
  first_word : place < FIRST_WORDS → ¬ MayBeClients place → ((seat : ℕ) → seat < 8 → place ≢ record_place seat) → IsEngines world offers place
  in_spare : (block field : ℕ) → IsSpare world offers block → field < 32 → IsStored field → place ≡ block_place block field → IsEngines world offers place

module _ {S W : Type 0} (form : NormalForm S W) where
  -- a won exchange of a word of the client by a search, a wrap-up, or an entry of a list that no record has named: it
  -- is an allowed step, starts from a word with its bit clear where lists may have entries, and leaves no bit
  pub record IsExchange (world after : World) (offers : ℕ → Option (Offer S)) (maker : Maker) (list : Option Listed) (entry : Entry) : Type 0 where
    pub step : IsStep form world after
    pub word : is_word form.is_root world entry.target ≡ true
    pub versioned : form.is_versioned entry.target ≡ true
    pub clear : form.is_listable entry.target ≡ true → versioned_bit entry.from ≡ 0
    pub to_clear : versioned_bit entry.to ≡ 0
    pub stood : world.words entry.target ≡ entry.from
    pub raised : versioned_version entry.to ≡ versioned_version entry.from + 1
    pub words : after.words ≡ with_word entry.target entry.to world.words
    pub changes : after.changes ≡ with_change form.object list world.changes
    pub journal : after.journal ≡ record { place = entry.target; before = entry.from; after = entry.to; maker = maker; cause = form.cause_of world maker entry } ∷ world.journal
    -- it is of no offered list, and no block becomes used that a record has named
    pub beside : (block : ℕ) (offer : Offer S) → offers block ≡ Some offer → (j : ℕ) → is_of offer.list j maker ≡ false
    pub used : (block : ℕ) → world.used block ≡ true → after.used block ≡ true
    pub uses : (block : ℕ) → after.used block ≡ true → (world.used block ≡ true) ⊎ IsUnnamed offers block

  -- the record of the call's seat names a spare block, filled for a new list of this call, while no list is executed
  pub record CanName (world : World) (offers : ℕ → Option (Offer S)) (block : ℕ) (offer : Offer S) (word : ℕ) : Type 0 where
    pub spare : IsSpare world offers block
    pub block_is : offer.list.block ≡ block
    pub seated : offer.list.call.seat < 8
    pub offered : IsOffered form world offer.list offer.offering offer.since
    pub filled : FilledFor form world offer
    -- its identity is that of no offered list, and no exchange was made for it
    pub identity : (other : ℕ) (mate : Offer S) → offers other ≡ Some mate → mate.list.identity ≢ offer.list.identity
    pub fresh : (j : ℕ) → has_taken world.journal offer.list j ≡ false
    -- no version comes to the end of its bits
    pub room : (place : ℕ) → is_word form.is_root world place ≡ true → form.is_versioned place ≡ true → versioned_version (world.words place) + 1 < 2 ^ 39
    pub none : (list : Listed) → ¬ IsExecuting world list
    pub phase : record_phase word ≡ Executing
    pub number : record_number word ≡ offer.list.call.number
    pub named : payload_block (record_payload word) ≡ block
