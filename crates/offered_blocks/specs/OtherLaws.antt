-- What is so of all other steps, of any structure in normalized form: each is an allowed step of the client, and what
-- holds of all blocks holds after it.
use Rattle.std.specs.Prelude.{◌≡◌, ◌≢◌, ℕ, ◌<◌, Option, Some}
use Rattle.word_fields.specs.declared.records.RecordPhase.TheVariants.{Executing}
use Rattle.word_fields.specs.Records.{record_phase}
use Rattle.word_fields.specs.Versioned.{versioned_bit}
use Rattle.node_arena.specs.MemoryMap.{record_place}
use Rattle.normal_traits.specs.declared.lists.Entry.{Entry}
use Rattle.normal_traits.specs.World.{Listed, Maker, World}
use Rattle.normal_traits.specs.NormalForm.{NormalForm}
use Rattle.normal_traits.specs.Steps.{IsStep, put_word}
use Rattle.normal_traits.specs.Laws.{opening_world}
use Rattle.offered_blocks.specs.Blocks.{Offer, IsExecuting, MayBeMarked}
use Rattle.offered_blocks.specs.Holds.{HasOffers, no_offers}
use Rattle.offered_blocks.specs.HelperSteps.{HasStopped}
use Rattle.offered_blocks.specs.OtherSteps.{CanName, IsEngines, IsExchange, with_offer}

module _ {S W : Type 0} (form : NormalForm S W) where
  -- at the opening no record has named a block, and all holds
  abbrev pub OpensHolding : Type 0
  OpensHolding = HasOffers form (opening_world form) no_offers

  -- a store of the engine, which leaves no bit where lists may have entries
  abbrev pub StoresKeep : Type 0
  StoresKeep =
      (world : World) (offers : ℕ → Option (Offer S)) (place word : ℕ) → HasOffers form world offers → IsEngines world offers place
      → (MayBeMarked form place → versioned_bit word ≡ 0) → HasOffers form (put_word place word world) offers × IsStep form world (put_word place word world)

  -- an exchange beside the offered lists
  abbrev pub ExchangesKeep : Type 0
  ExchangesKeep =
      (world after : World) (offers : ℕ → Option (Offer S)) (maker : Maker) (list : Option Listed) (entry : Entry) → HasOffers form world offers
      → IsExchange form world after offers maker list entry → HasOffers form after offers

  -- a record that names a block: from then on its list is an offered one, and the executed one
  abbrev pub NamesKeep : Type 0
  NamesKeep =
      (world : World) (offers : ℕ → Option (Offer S)) (block : ℕ) (offer : Offer S) (word : ℕ) → HasOffers form world offers → CanName form world offers block offer word
      → HasOffers form (put_word (record_place offer.list.call.seat) word world) (with_offer block offer offers)
      × IsExecuting (put_word (record_place offer.list.call.seat) word world) offer.list
      × IsStep form world (put_word (record_place offer.list.call.seat) word world)

  -- the record leaves Executing when its list has stopped
  abbrev pub LeavesKeep : Type 0
  LeavesKeep =
      (world : World) (offers : ℕ → Option (Offer S)) (block : ℕ) (offer : Offer S) (stop word : ℕ) → HasOffers form world offers → offers block ≡ Some offer
      → IsExecuting world offer.list → HasStopped world offer stop → record_phase word ≢ Executing
      → HasOffers form (put_word (record_place offer.list.call.seat) word world) offers × IsStep form world (put_word (record_place offer.list.call.seat) word world)

  -- any other word that is put into a record
  abbrev pub RecordsKeep : Type 0
  RecordsKeep =
      (world : World) (offers : ℕ → Option (Offer S)) (seat word : ℕ) → HasOffers form world offers → seat < 8
      → record_phase (world.words (record_place seat)) ≢ Executing → record_phase word ≢ Executing
      → HasOffers form (put_word (record_place seat) word world) offers × IsStep form world (put_word (record_place seat) word world)
