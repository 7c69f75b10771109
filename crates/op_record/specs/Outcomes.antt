-- Outcomes in the payload of a completed record word.
use Rattle.std.specs.Prelude.{ℕ, ◌<◌, ◌^◌, ◌==◌, if◌then◌else◌, Bool, true, false, Option, Some, None}
use Rattle.lin_report.specs.declared.calls.Reply.{Reply}
use Rattle.lin_report.specs.declared.calls.Reply.TheVariants.{Yes, No, Done, Value, Empty, Absent, Exhausted}
use Rattle.lin_report.specs.declared.calls.Outcome.{Outcome}
use Rattle.lin_report.specs.declared.calls.Outcome.TheVariants.{Plain, ValueOf}
use Rattle.word_fields.specs.declared.records.RecordPhase.{RecordPhase}
use Rattle.word_fields.specs.declared.records.RecordPhase.TheVariants as phase
use Rattle.word_fields.specs.declared.records.RecordWord.{RecordWord}
use Rattle.word_fields.specs.declared.payloads.TheConstants.{YES, NO, DONE, VALUE_OF_NODE, EMPTY, ABSENT, EXHAUSTED, VALUE}
use Rattle.word_fields.specs.Payloads.{reply_kind, reply_value, reply_payload, is_reply}
use Rattle.word_fields.specs.Records.{record_word}

-- the kind of a reply that is given as it is
abbrev pub reply_kind_of : Reply → ℕ
reply_kind_of Yes = YES
reply_kind_of No = NO
reply_kind_of Done = DONE
reply_kind_of (Value value) = VALUE
reply_kind_of Empty = EMPTY
reply_kind_of Absent = ABSENT
reply_kind_of Exhausted = EXHAUSTED

-- its value, and 0 where it has none
abbrev pub reply_value_of : Reply → ℕ
reply_value_of (Value value) = value
reply_value_of _ = 0

-- the kind of an outcome
abbrev pub outcome_kind : Outcome → ℕ
outcome_kind (Plain reply) = reply_kind_of reply
outcome_kind (ValueOf reference) = VALUE_OF_NODE

-- its value or its reference, and 0 where it has neither
abbrev pub outcome_value : Outcome → ℕ
outcome_value (Plain reply) = reply_value_of reply
outcome_value (ValueOf reference) = reference

-- the payload of an outcome
unfoldable pub outcome_payload : Outcome → ℕ
outcome_payload outcome = reply_payload (outcome_kind outcome) (outcome_value outcome)

-- an outcome that fits a payload
abbrev pub FitsPayload : Outcome → Type 0
FitsPayload outcome = outcome_value outcome < 2 ^ 20

-- the outcome of a kind and a value
abbrev pub outcome_from : ℕ → ℕ → Outcome
outcome_from kind value =
    if kind == YES then Plain Yes
    else (if kind == NO then Plain No
    else (if kind == DONE then Plain Done
    else (if kind == VALUE_OF_NODE then ValueOf value
    else (if kind == EMPTY then Plain Empty
    else (if kind == ABSENT then Plain Absent
    else (if kind == EXHAUSTED then Plain Exhausted
    else Plain (Value value)))))))

-- whether the phase is Completed
abbrev pub is_completed : RecordPhase → Bool
is_completed phase.Completed = true
is_completed _ = false

-- the outcome of a completed record whose payload is a reply; any other has none
unfoldable pub outcome_of : RecordWord → Option Outcome
outcome_of word =
    if is_completed word.phase then (if is_reply word.payload then Some (outcome_from (reply_kind word.payload) (reply_value word.payload)) else None)
    else None

-- the record word that completes a call with an outcome: its number and its round stay
abbrev pub completed_word : RecordWord → Outcome → ℕ
completed_word from outcome = record_word phase.Completed from.number from.round (outcome_payload outcome)
