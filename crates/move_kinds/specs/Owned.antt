-- Whose the lists are that took effect, and what that says of the changes which a move may make.
use Rattle.std.specs.Prelude.{◌≡◌, ℕ, ◌<◌, ◌⊎◌, Option, Some}
use Rattle.word_fields.specs.declared.records.RecordPhase.TheVariants.{Executing, Wrapping}
use Rattle.word_fields.specs.Payloads.{payload_block}
use Rattle.word_fields.specs.Records.{record_number, record_of, record_payload, record_phase}
use Rattle.node_arena.specs.MemoryMap.{record_place}
use Rattle.normal_traits.specs.World.{Among, Called, Change, Listed, Took, World}
use Rattle.normal_traits.specs.NormalForm.{NormalForm}
use Rattle.offered_blocks.specs.Blocks.{Offer, record_for}
use Rattle.offered_blocks.specs.Records.{RecordIsRight}
use Rattle.move_kinds.specs.Kinds.{IsUnannounced, Kind}
use Rattle.move_kinds.specs.Kinds.Kind.{publishes}

-- the record names the block of the list, which is that of an offer
pub record IsNamedNow {S : Type 0} (world : World) (offers : ℕ → Option (Offer S)) (list : Listed) : Type 0 where
  pub offer : Offer S
  pub stands : offers list.block ≡ Some offer
  pub list_is : offer.list ≡ list
  pub seated : list.call.seat < 8
  pub phase : (record_phase (record_for world list) ≡ Executing) ⊎ (record_phase (record_for world list) ≡ Wrapping)
  pub block : payload_block (record_payload (record_for world list)) ≡ list.block

module _ {S W : Type 0} (form : NormalForm S W) where
  -- a list is of a call that its seat has not announced, or the record of its call names it, or it is dead, or it has
  -- made its change
  pub data IsOwned (world : World) (offers : ℕ → Option (Offer S)) (list : Listed) : Type 0 where
    unannounced : IsUnannounced world list → IsOwned world offers list
    named : IsNamedNow world offers list → IsOwned world offers list
    dead : form.dead list world → IsOwned world offers list
    changed : (change : Change) → Among change world.changes → change.list ≡ list → IsOwned world offers list

  -- so it is with each list whose first entry took effect
  abbrev pub AllOwned : World → (ℕ → Option (Offer S)) → Type 0
  AllOwned world offers = (list : Listed) → Took world list 0 → IsOwned world offers list

  -- of a call that a seat is to announce: its lists that took effect are dead, or have made their change
  abbrev pub LeavesNone : World → ℕ → ℕ → Type 0
  LeavesNone world seat number =
      (list : Listed) → Took world list 0 → list.call.seat ≡ seat → list.call.number ≡ number → form.dead list world ⊎ ((change : Change) × Among change world.changes × (change.list ≡ list))

  -- so it is where a move announces one
  abbrev pub AnnouncesNone : {world after : World} {offers offers' : ℕ → Option (Offer S)} {mover : ℕ} {hand : Option ℕ} → Kind form world after offers offers' mover hand → Type 0
  AnnouncesNone {world} {after} {offers} {offers'} {mover} {hand} (publishes word small closed opens put same) = LeavesNone world mover (record_number word)
  AnnouncesNone _ = Unit {0}

  -- what the record of a seat tells, where it is that of the call which the seat makes
  abbrev pub RecordKnown : World → (ℕ → Option (Offer S)) → Called → ℕ → Type 0
  RecordKnown world offers call begun =
      record_number (world.words (record_place call.seat)) ≡ call.number → RecordIsRight form world offers call begun (record_of (world.words (record_place call.seat)))
