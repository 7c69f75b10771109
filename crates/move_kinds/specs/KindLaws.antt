-- What is so of every kind of move, of any structure in normalized form.
use Rattle.std.specs.Prelude.{◌≡◌, ◌≢◌, ℕ, Option, Some}
use Rattle.lin_report.specs.declared.calls.Outcome.{Outcome}
use Rattle.word_fields.specs.declared.records.RecordPhase.{RecordPhase}
use Rattle.word_fields.specs.declared.records.RecordPhase.TheVariants.{Executing}
use Rattle.word_fields.specs.Payloads.{payload_block}
use Rattle.word_fields.specs.Records.{record_number, record_payload, record_phase}
use Rattle.node_arena.specs.MemoryMap.{record_place}
use Rattle.normal_traits.specs.World.{Called, World}
use Rattle.normal_traits.specs.NormalForm.{NormalForm}
use Rattle.normal_traits.specs.Steps.{IsStep}
use Rattle.offered_blocks.specs.Blocks.{Offer}
use Rattle.offered_blocks.specs.HelperSteps.{Helps}
use Rattle.offered_blocks.specs.Holds.{HasOffers}
use Rattle.offered_blocks.specs.OtherSteps.{IsSpare}
use Rattle.offered_blocks.specs.Records.{Names, RecordTells}
use Rattle.move_kinds.specs.Contents.{HasContents}
use Rattle.move_kinds.specs.Kinds.{Kind}
use Rattle.move_kinds.specs.Moves.{Leaves}
use Rattle.move_kinds.specs.Owned.{AllOwned, AnnouncesNone, RecordKnown}
use Rattle.move_kinds.specs.Telling.{MayMake, NewOf, NoneNew}

module _ {S W : Type 0} (form : NormalForm S W) where
  -- a move is an allowed step of the client, and what holds of all blocks holds after it
  abbrev pub KindsKeepBlocks : Type 0
  KindsKeepBlocks =
      (world after : World) (offers offers' : ℕ → Option (Offer S)) (mover : ℕ) (hand : Option ℕ) → HasOffers form world offers → Kind form world after offers offers' mover hand
      → IsStep form world after × HasOffers form after offers'

  -- a spare block that isn't in the mover's hand stays spare
  abbrev pub KindsKeepSpare : Type 0
  KindsKeepSpare =
      (world after : World) (offers offers' : ℕ → Option (Offer S)) (mover : ℕ) (hand : Option ℕ) (block : ℕ) → HasOffers form world offers → Kind form world after offers offers' mover hand
      → IsSpare world offers block → hand ≢ Some block → IsSpare after offers' block

  -- and a helper that has it in hand finds all that it may rest on
  abbrev pub KindsLeave : Type 0
  KindsLeave =
      (world after : World) (offers offers' : ℕ → Option (Offer S)) (mover : ℕ) (hand other : Option ℕ) → HasOffers form world offers → Kind form world after offers offers' mover hand
      → ((block : ℕ) → other ≡ Some block → IsSpare world offers block) → ((block : ℕ) → other ≡ Some block → hand ≢ Some block) → Leaves form world after offers offers' other

  -- a block that a record has named stands as an offer, and holds the operation and the list of its call
  abbrev pub KindsKeepContents : Type 0
  KindsKeepContents =
      (world after : World) (offers offers' : ℕ → Option (Offer S)) (mover : ℕ) (hand : Option ℕ) (block : ℕ) (offer : Offer S) → HasOffers form world offers → Kind form world after offers offers' mover hand
      → offers block ≡ Some offer → HasContents world offer → (offers' block ≡ Some offer) × HasContents after offer

  -- a helper makes no change of a call whose record is not in Executing, and in Executing only that of the list which
  -- the record names
  abbrev pub HelpersChangeNamed : Type 0
  HelpersChangeNamed =
      (world after : World) (offers : ℕ → Option (Offer S)) (block : ℕ) (offer : Offer S) (call : Called) (begun : ℕ) → HasOffers form world offers → offers block ≡ Some offer → Helps form world offer after
      → (record_phase (world.words (record_place call.seat)) ≢ Executing → NoneNew world after call)
      × ((names : Names form world offers call begun (payload_block (record_payload (world.words (record_place call.seat))))) → NewOf world after call names.offer.list)

  -- what the record of a call tells stays so where a move makes no change for it that the record does not name
  abbrev pub KindsKeepTelling : Type 0
  KindsKeepTelling =
      (world after : World) (offers offers' : ℕ → Option (Offer S)) (mover : ℕ) (hand : Option ℕ) (call : Called) (begun : ℕ) (at : RecordPhase) (payload : ℕ) (told : Option Outcome) → HasOffers form world offers
      → Kind form world after offers offers' mover hand → MayMake form world after offers call begun at payload
      → RecordTells form world offers call begun at payload told → RecordTells form after offers' call begun at payload told

  -- where the record of a seat is that of the seat's call, a move makes no change of the call but of the list that the
  -- record names. So it keeps what the record tells, as long as it is not an exchange of that record itself
  abbrev pub RecordsKept : Type 0
  RecordsKept =
      (world after : World) (offers offers' : ℕ → Option (Offer S)) (mover : ℕ) (hand : Option ℕ) (call : Called) (begun : ℕ) → HasOffers form world offers → AllOwned form world offers
      → Kind form world after offers offers' mover hand → record_number (world.words (record_place call.seat)) ≡ call.number
      → MayMake form world after offers call begun (record_phase (world.words (record_place call.seat))) (record_payload (world.words (record_place call.seat)))
      × (after.words (record_place call.seat) ≡ world.words (record_place call.seat) → RecordKnown form world offers call begun → RecordKnown form after offers' call begun)

  -- that the lists which took effect are owned is kept by every kind of move. Where a seat announces a call, its lists of
  -- that call are to be dead, or to have made their change
  abbrev pub OwnersKept : Type 0
  OwnersKept =
      (world after : World) (offers offers' : ℕ → Option (Offer S)) (mover : ℕ) (hand : Option ℕ) → HasOffers form world offers → (kind : Kind form world after offers offers' mover hand)
      → AnnouncesNone form kind → AllOwned form world offers → AllOwned form after offers'
