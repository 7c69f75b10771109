-- An outcome that is written into a record is read from it again.
use Rattle.std.proofs.Common.{◌≡◌, ◌<◌, ◌^◌, true, Some, refl, arith}
use Rattle.std.specs.Prelude.{◌==◌, ◌||◌}
use Rattle.lin_report.specs.declared.calls.Reply.TheVariants.{Yes, No, Done, Value, Empty, Absent, Exhausted}
use Rattle.lin_report.specs.declared.calls.Outcome.{Outcome}
use Rattle.lin_report.specs.declared.calls.Outcome.TheVariants.{Plain, ValueOf}
use Rattle.word_fields.specs.declared.records.RecordPhase.TheVariants as phase
use Rattle.word_fields.specs.declared.records.RecordWord.{RecordWord}
use Rattle.word_fields.specs.Payloads.{reply_kind, reply_value, has_value, is_reply}
use Rattle.word_fields.specs.Records.{record_of}
use Rattle.word_fields.proofs.RecordWords.{phase-word, payload-word}
use Rattle.word_fields.proofs.PayloadParts.{kind-reply, value-reply, reply_below, is_reply-payload}
use Rattle.op_record.specs.Outcomes.{outcome_kind, outcome_value, outcome_payload, FitsPayload, outcome_from, outcome_of, completed_word}

pub kind_below : (outcome : Outcome) → outcome_kind outcome < 8
kind_below (Plain Yes) = omega arith
kind_below (Plain No) = omega arith
kind_below (Plain Done) = omega arith
kind_below (Plain (Value value)) = omega arith
kind_below (Plain Empty) = omega arith
kind_below (Plain Absent) = omega arith
kind_below (Plain Exhausted) = omega arith
kind_below (ValueOf reference) = omega arith

-- a value stands only where the kind has one
value_of_kind : (outcome : Outcome) → (has_value (outcome_kind outcome) || (outcome_value outcome == 0)) ≡ true
value_of_kind (Plain Yes) = refl
value_of_kind (Plain No) = refl
value_of_kind (Plain Done) = refl
value_of_kind (Plain (Value value)) = refl
value_of_kind (Plain Empty) = refl
value_of_kind (Plain Absent) = refl
value_of_kind (Plain Exhausted) = refl
value_of_kind (ValueOf reference) = refl

outcome_from-kind : (outcome : Outcome) → outcome_from (outcome_kind outcome) (outcome_value outcome) ≡ outcome
outcome_from-kind (Plain Yes) = refl
outcome_from-kind (Plain No) = refl
outcome_from-kind (Plain Done) = refl
outcome_from-kind (Plain (Value value)) = refl
outcome_from-kind (Plain Empty) = refl
outcome_from-kind (Plain Absent) = refl
outcome_from-kind (Plain Exhausted) = refl
outcome_from-kind (ValueOf reference) = refl

pub outcome_payload_below : (outcome : Outcome) → FitsPayload outcome → outcome_payload outcome < 2 ^ 24
unfolding outcome_payload
outcome_payload_below outcome fits = omega (arith, reply_below (outcome_kind outcome) (outcome_value outcome) (kind_below outcome) fits)

-- the payload of an outcome is a reply, of its kind and its value
is_reply-outcome : (outcome : Outcome) → FitsPayload outcome → is_reply (outcome_payload outcome) ≡ true
unfolding outcome_payload
is_reply-outcome outcome fits = is_reply-payload (outcome_kind outcome) (outcome_value outcome) (kind_below outcome) fits (value_of_kind outcome)

kind-outcome : (outcome : Outcome) → reply_kind (outcome_payload outcome) ≡ outcome_kind outcome
unfolding outcome_payload
kind-outcome outcome = kind-reply (outcome_kind outcome) (outcome_value outcome) (kind_below outcome)

value-outcome : (outcome : Outcome) → FitsPayload outcome → reply_value (outcome_payload outcome) ≡ outcome_value outcome
unfolding outcome_payload
value-outcome outcome fits = value-reply (outcome_kind outcome) (outcome_value outcome) (kind_below outcome) fits

-- the record that `complete` writes tells its outcome
pub outcome_of-completed : (from : RecordWord) (outcome : Outcome) → FitsPayload outcome → outcome_of (record_of (completed_word from outcome)) ≡ Some outcome
unfolding outcome_of
outcome_of-completed from outcome fits =
    let phase_is = phase-word phase.Completed from.number from.round (outcome_payload outcome) in
    let payload_is = payload-word phase.Completed from.number from.round (outcome_payload outcome) from.number_in_range from.round_in_range (outcome_payload_below outcome fits) in
    rw (phase_is, payload_is, is_reply-outcome outcome fits, kind-outcome outcome, value-outcome outcome fits, outcome_from-kind outcome) refl
