-- The words to which a helper exchanges a record, each of the word that it loaded, and what it reads from loaded words.
use Rattle.std.specs.Prelude.{ℕ, ◌+◌, ◌%◌, ◌^◌, nat_lt, if◌then◌else◌, Bool, true, false, List, length}
use Rattle.lin_report.specs.declared.calls.Op.{Op}
use Rattle.lin_report.specs.declared.calls.Reply.TheVariants as reply
use Rattle.lin_report.specs.declared.calls.Outcome.{Outcome}
use Rattle.lin_report.specs.declared.calls.Outcome.TheVariants.{Plain, ValueOf}
use Rattle.word_fields.specs.declared.records.RecordPhase as marks
use Rattle.word_fields.specs.declared.records.RecordPhase.TheVariants as record_phases
use Rattle.word_fields.specs.Announced.{op_code, op_key, announced_value}
use Rattle.word_fields.specs.Payloads.{payload_block, payload_stop, wrapping_payload}
use Rattle.word_fields.specs.Records.{record_number, record_round, record_payload, record_word, record_of}
use Rattle.normal_traits.specs.declared.lists.Entry.{Entry}
use Rattle.op_record.specs.Outcomes.{completed_word}

-- the block that a record names
abbrev pub named_block : ℕ → ℕ
named_block word = payload_block (record_payload word)

-- the words to which a word is exchanged
abbrev pub executing_word : ℕ → ℕ → ℕ
executing_word word block = record_word record_phases.Executing (record_number word) (record_round word) block

abbrev pub wrapping_word : ℕ → ℕ → ℕ
wrapping_word word stop = record_word record_phases.Wrapping (record_number word) (record_round word) (wrapping_payload (named_block word) stop)

abbrev pub again_word : ℕ → ℕ
again_word word = record_word record_phases.Generate (record_number word) ((record_round word + 1) % 2 ^ 17) 0

-- an outcome whose value or reference fits a payload
abbrev pub fitted : Outcome → Outcome
fitted (Plain (reply.Value value)) = Plain (reply.Value (value % 2 ^ 20))
fitted (Plain other) = Plain other
fitted (ValueOf reference) = ValueOf (reference % 2 ^ 20)

abbrev pub told_word : ℕ → Outcome → ℕ
told_word word outcome = completed_word (record_of word) (fitted outcome)

-- whether a record in this phase names a block whose list is executed
abbrev pub is_executing : marks.RecordPhase → Bool
is_executing record_phases.Executing = true
is_executing _ = false

-- the operation of an op word and a value word
abbrev pub announced_op : ℕ → ℕ → Op
announced_op op value = record { code = op_code op; key = op_key op; value = announced_value value }

-- the stop of a word over a list, which is at most its length
abbrev pub stop_of : ℕ → List Entry → ℕ
stop_of word entries = if nat_lt (length entries) (payload_stop (record_payload word)) then length entries else payload_stop (record_payload word)
