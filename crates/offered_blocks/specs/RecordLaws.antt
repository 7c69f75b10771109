-- What a won exchange of a record makes of what it tells, of any structure in normalized form.
use Rattle.std.specs.Prelude.{◌≡◌, ℕ, ◌^◌, ◌<◌, ◌≤◌, Option, Some}
use Rattle.lin_report.specs.declared.calls.Outcome.{Outcome}
use Rattle.word_fields.specs.declared.records.RecordPhase.TheVariants.{Executing}
use Rattle.word_fields.specs.declared.records.RecordWord.{RecordWord}
use Rattle.word_fields.specs.Records.{record_of, record_word}
use Rattle.op_record.specs.Outcomes.{completed_word, FitsPayload}
use Rattle.normal_traits.specs.World.{Called, World, ChangedBy, RightSince}
use Rattle.normal_traits.specs.NormalForm.{NormalForm}
use Rattle.normal_traits.specs.Laws.{IsFixed}
use Rattle.offered_blocks.specs.Blocks.{Offer}
use Rattle.offered_blocks.specs.Records.{MadeNone, Names, RecordIsRight}

module _ {S W : Type 0} (form : NormalForm S W) where
  -- a record that names a block offered for its call, which made no change before
  abbrev pub OffersTell : Type 0
  OffersTell =
      (world : World) (offers : ℕ → Option (Offer S)) (call : Called) (begun number round block : ℕ) (offer : Offer S) → number < 2 ^ 16 → round < 2 ^ 17 → block < 2 ^ 17
      → offers block ≡ Some offer → offer.list.call ≡ call → MadeNone world call → RecordIsRight form world offers call begun (record_of (record_word Executing number round block))

  -- the call of a record in Generate observed, by the search of any helper that began after the call did
  abbrev pub AnswersTell : Type 0
  AnswersTell =
      (world : World) (offers : ℕ → Option (Offer S)) (call : Called) (begun since : ℕ) (from : RecordWord) (outcome : Outcome) → FitsPayload outcome → begun ≤ since
      → RightSince form.object world call.op since outcome → IsFixed form outcome → MadeNone world call
      → RecordIsRight form world offers call begun (record_of (completed_word from outcome))

  -- the list that a record names made the change
  abbrev pub ChangesTell : Type 0
  ChangesTell =
      (world : World) (offers : ℕ → Option (Offer S)) (call : Called) (begun block : ℕ) (names : Names form world offers call begun block) (from : RecordWord) (outcome : Outcome) → FitsPayload outcome
      → ChangedBy world names.offer.list outcome → IsFixed form outcome → RecordIsRight form world offers call begun (record_of (completed_word from outcome))

  -- the list that a record names is dead: the call made no change, so its list may be made anew
  abbrev pub RestartsTell : Type 0
  RestartsTell =
      (world : World) (offers : ℕ → Option (Offer S)) (call : Called) (begun block : ℕ) (names : Names form world offers call begun block) → form.shape world
      → form.dead names.offer.list world → MadeNone world call
