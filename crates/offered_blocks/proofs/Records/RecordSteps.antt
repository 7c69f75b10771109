-- What a won exchange of a record makes of what it tells, by what the helper knew.
use Rattle.std.proofs.Common.{◌≡◌, ◌∙◌, sym, subst, ap, ℕ, ◌<◌, ◌^◌, ◌≤◌, Option, Some, arith}
use Rattle.lin_report.specs.declared.calls.Outcome.{Outcome}
use Rattle.word_fields.specs.declared.records.RecordPhase.TheVariants as phase
use Rattle.word_fields.specs.declared.records.RecordWord.{RecordWord}
use Rattle.word_fields.specs.Payloads.{payload_block}
use Rattle.word_fields.specs.Records.{record_of, record_phase, record_payload, record_word}
use Rattle.word_fields.proofs.RecordWords.{phase-word, payload-word}
use Rattle.word_fields.proofs.PayloadParts.{block-payload}
use Rattle.normal_traits.specs.World.{Called, World, ChangedBy, RightSince}
use Rattle.normal_traits.specs.NormalForm.{NormalForm}
use Rattle.normal_traits.specs.Laws.{Laws, IsFixed}
use Rattle.op_record.specs.Outcomes.{outcome_of, completed_word, FitsPayload}
use Rattle.op_record.proofs.OutcomesReadBack.{outcome_of-completed}
use Rattle.offered_blocks.specs.Blocks.{Offer}
use Rattle.offered_blocks.specs.Records.{MadeNone, TellsRight, Names, RecordTells, RecordIsRight}
use Rattle.offered_blocks.specs.Records.TellsRight.{observed, changed}

module _ {S W : Type 0} (form : NormalForm S W) (laws : Laws form) (world : World) (offers : ℕ → Option (Offer S)) (call : Called) (begun : ℕ) where
  -- a list that is named by its record is dead: the call made no change
  pub restarts : form.shape world → (block : ℕ) (names : Names form world offers call begun block) → form.dead names.offer.list world → MadeNone world call
  restarts shape block names dead change among of = laws.of_world.dead_unchanged world names.offer.list change shape dead among (names.only change among of)

  -- the list made the change, with this outcome
  pub done : (block : ℕ) (names : Names form world offers call begun block) (outcome : Outcome) → ChangedBy world names.offer.list outcome → IsFixed form outcome → TellsRight form world call begun outcome
  done block names outcome by fixed = changed names.offer.list names.call_is by fixed names.only

  -- a search of any helper, begun after the call, has answered: right since the begin of the call
  pub answered : (since : ℕ) (outcome : Outcome) → begun ≤ since → RightSince form.object world call.op since outcome → IsFixed form outcome → MadeNone world call → TellsRight form world call begun outcome
  answered since outcome early right fixed none =
      observed (record { count = right.count; not_before = omega (arith, right.not_before, early); made = right.made; observes = right.observes; told = right.told }) fixed none

  -- a record that is completed with a right outcome tells it
  pub completed_right : (from : RecordWord) (outcome : Outcome) → FitsPayload outcome → TellsRight form world call begun outcome → RecordIsRight form world offers call begun (record_of (completed_word from outcome))
  completed_right from outcome fits right =
      let phase' : record_phase (completed_word from outcome) ≡ phase.Completed = phase-word phase.Completed _ _ _ in
      subst (λ p. RecordTells form world offers call begun p (record_payload (completed_word from outcome)) (outcome_of (record_of (completed_word from outcome)))) (sym phase')
      (outcome, outcome_of-completed from outcome fits, right)

  -- a block that is offered for the call is named by its record, where the call made no change before
  pub offers_right : (number round block : ℕ) (offer : Offer S) → number < 2 ^ 16 → round < 2 ^ 17 → block < 2 ^ 17 → offers block ≡ Some offer → offer.list.call ≡ call → MadeNone world call
      → RecordIsRight form world offers call begun (record_of (record_word phase.Executing number round block))
  offers_right number round block offer few rounds small stands of none =
      let word = record_word phase.Executing number round block in
      let phase' : record_phase word ≡ phase.Executing = phase-word phase.Executing number round block in
      let payload : payload_block (record_payload word) ≡ block = ap payload_block (payload-word phase.Executing number round block few rounds (omega (arith, small))) ∙ block-payload block small in
      let names : Names form world offers call begun block = record { offer = offer; stands = stands; call_is = of; only = λ change among is. absurd (none change among is) } in
      subst (λ p. RecordTells form world offers call begun p (record_payload word) (outcome_of (record_of word))) (sym phase')
      (subst (λ b. Names form world offers call begun b) (sym payload) names)
