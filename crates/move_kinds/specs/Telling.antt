-- Which changes a move may make for a call, so that what the record of the call tells stays so.
use Rattle.std.specs.Prelude.{◌≡◌, ℕ, ◌⊎◌, Option}
use Rattle.word_fields.specs.declared.records.RecordPhase.{RecordPhase}
use Rattle.word_fields.specs.declared.records.RecordPhase.TheVariants as phase
use Rattle.word_fields.specs.Payloads.{payload_block}
use Rattle.normal_traits.specs.World.{Among, Called, Change, Listed, World}
use Rattle.normal_traits.specs.NormalForm.{NormalForm}
use Rattle.offered_blocks.specs.Blocks.{Offer}
use Rattle.offered_blocks.specs.Records.{IsCallsChange, Names}

-- no change of the call is new
abbrev pub NoneNew : World → World → Called → Type 0
NoneNew world after call = (change : Change) → Among change after.changes → IsCallsChange call change → Among change world.changes

-- each new change of the call is of this list
abbrev pub NewOf : World → World → Called → Listed → Type 0
NewOf world after call list = (change : Change) → Among change after.changes → IsCallsChange call change → Among change world.changes ⊎ (change.list ≡ list)

module _ {S W : Type 0} (form : NormalForm S W) (world after : World) (offers : ℕ → Option (Offer S)) (call : Called) (begun : ℕ) where
  -- while the record of the call names a list, that list alone may make a change: in Executing by its entries, in
  -- Wrapping by a wrap-up; else there is no new change of the call
  abbrev pub MayMake : RecordPhase → ℕ → Type 0
  MayMake phase.Executing payload = (names : Names form world offers call begun (payload_block payload)) → NewOf world after call names.offer.list
  MayMake phase.Wrapping payload = (names : Names form world offers call begun (payload_block payload)) → NewOf world after call names.offer.list
  MayMake _ payload = NoneNew world after call
