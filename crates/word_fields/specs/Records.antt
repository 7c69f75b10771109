-- A record word: how far the published call of a seat has come. Bits 0 to 2 have the phase, 3 to 18
-- the call's number, 19 to 35 the round, 36 to 59 the payload.
use Rattle.std.specs.Prelude.{ℕ, ◌+◌, ◌*◌, ◌^◌, ◌<◌, ◌==◌, if◌then◌else◌}
use Rattle.word_fields.specs.declared.records.RecordPhase.{RecordPhase}
use Rattle.word_fields.specs.declared.records.RecordPhase.TheVariants.{Idle, Generate, Executing, Wrapping, Completed}
use Rattle.word_fields.specs.declared.records.RecordWord.{RecordWord}
use Rattle.word_fields.specs.Fields.{field_of, field_below}

-- the number that stands for a phase; a later phase has a greater one
abbrev pub phase_number : RecordPhase → ℕ
phase_number Idle = 0
phase_number Generate = 1
phase_number Executing = 2
phase_number Wrapping = 3
phase_number Completed = 4

-- the phase that a number stands for; a number above 4 is read as Idle
abbrev pub phase_of : ℕ → RecordPhase
phase_of n =
    if n == 1 then Generate
    else (if n == 2 then Executing
    else (if n == 3 then Wrapping
    else (if n == 4 then Completed
    else Idle)))

-- the phase of a word
unfoldable pub record_phase : ℕ → RecordPhase
record_phase w = phase_of (field_of 0 3 w)

-- the number of the call
unfoldable pub record_number : ℕ → ℕ
record_number w = field_of 3 16 w

-- how often the call's list was made anew
unfoldable pub record_round : ℕ → ℕ
record_round w = field_of 19 17 w

-- what the phase needs: a block, a block and a stop, or a reply
unfoldable pub record_payload : ℕ → ℕ
record_payload w = field_of 36 24 w

-- the word of a phase, a number, a round and a payload
unfoldable pub record_word : RecordPhase → ℕ → ℕ → ℕ → ℕ
record_word phase number round payload =
    phase_number phase + 2 ^ 3 * number + 2 ^ 19 * round + 2 ^ 36 * payload

-- what `pack` gives
abbrev pub packed_record : RecordWord → ℕ
packed_record v = record_word v.phase v.number v.round v.payload

pub number_below : (w : ℕ) → record_number w < 2 ^ 16
unfolding record_number
number_below w = field_below 3 16 w

pub round_below : (w : ℕ) → record_round w < 2 ^ 17
unfolding record_round
round_below w = field_below 19 17 w

pub payload_below : (w : ℕ) → record_payload w < 2 ^ 24
unfolding record_payload
payload_below w = field_below 36 24 w

-- what `unpack` gives
abbrev pub record_of : ℕ → RecordWord
record_of w = record {
  phase = record_phase w;
  number = record_number w;
  round = record_round w;
  payload = record_payload w;
  number_in_range = number_below w;
  round_in_range = round_below w;
  payload_in_range = payload_below w;
}
