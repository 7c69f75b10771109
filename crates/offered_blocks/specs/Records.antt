-- What the record of a call tells: by whom its change is made, and with what outcome.
use Rattle.std.specs.Prelude.{◌≡◌, ℕ, Option, Some}
use Rattle.lin_report.specs.declared.calls.Outcome.{Outcome}
use Rattle.lin_report.specs.declared.calls.Outcome.TheVariants.{Plain}
use Rattle.lin_report.specs.declared.calls.Reply.TheVariants.{Exhausted}
use Rattle.word_fields.specs.declared.records.RecordPhase.{RecordPhase}
use Rattle.word_fields.specs.declared.records.RecordPhase.TheVariants as phase
use Rattle.word_fields.specs.declared.records.RecordWord.{RecordWord}
use Rattle.word_fields.specs.Payloads.{payload_block, payload_stop}
use Rattle.normal_traits.specs.World.{Called, Change, Listed, World, Among, ChangedBy, RightSince}
use Rattle.normal_traits.specs.NormalForm.{NormalForm}
use Rattle.normal_traits.specs.Laws.{IsFixed}
use Rattle.op_record.specs.Outcomes.{outcome_of}
use Rattle.cas_executor_laws.specs.Parts.{KnowsStop}
use Rattle.offered_blocks.specs.Blocks.{Offer, site_of, has_taken}

-- the change is one of this call
pub record IsCallsChange (call : Called) (change : Change) : Type 0 where
  pub seat : change.list.call.seat ≡ call.seat
  pub number : change.list.call.number ≡ call.number

-- the call made no change; only this list may have made one
abbrev pub MadeNone : World → Called → Type 0
MadeNone world call = (change : Change) → Among change world.changes → ¬ IsCallsChange call change

abbrev pub MadeBy : World → Called → Listed → Type 0
MadeBy world call list = (change : Change) → Among change world.changes → IsCallsChange call change → change.list ≡ list

-- the outcome is right: the call observed since its begin and made no change, or its change was made by one list
pub data TellsRight {S W : Type 0} (form : NormalForm S W) (world : World) (call : Called) (begun : ℕ) (outcome : Outcome) : Type 0 where
  observed : RightSince form.object world call.op begun outcome → IsFixed form outcome → MadeNone world call → TellsRight form world call begun outcome
  changed : (list : Listed) → list.call ≡ call → ChangedBy world list outcome → IsFixed form outcome → MadeBy world call list → TellsRight form world call begun outcome
  refused : outcome ≡ Plain Exhausted → MadeNone world call → TellsRight form world call begun outcome

module _ {S W : Type 0} (form : NormalForm S W) (world : World) (offers : ℕ → Option (Offer S)) (call : Called) (begun : ℕ) where
  -- the block that a record names was offered for this call
  pub record Names (block : ℕ) : Type 0 where
    pub offer : Offer S
    pub stands : offers block ≡ Some offer
    pub call_is : offer.list.call ≡ call
    pub only : MadeBy world call offer.list

  -- what the record of the call tells, by its phase
  abbrev pub RecordTells : RecordPhase → ℕ → Option Outcome → Type 0
  RecordTells phase.Idle payload told = Unit {0}
  RecordTells phase.Generate payload told = MadeNone world call
  RecordTells phase.Executing payload told = Names (payload_block payload)
  RecordTells phase.Wrapping payload told = (names : Names (payload_block payload)) × KnowsStop (site_of names.offer) world.words (has_taken world.journal names.offer.list) (payload_stop payload)
  RecordTells phase.Completed payload told = (outcome : Outcome) × (told ≡ Some outcome) × TellsRight form world call begun outcome

  abbrev pub RecordIsRight : RecordWord → Type 0
  RecordIsRight word = RecordTells word.phase word.payload (outcome_of word)
