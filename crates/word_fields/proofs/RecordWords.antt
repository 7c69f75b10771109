-- The fields of a record word, for proofs that leave its layout closed.
use Rattle.std.proofs.Common.{◌≡◌, ℕ, ◌^◌, ◌<◌, arith, refl, ap, sym, ◌∙◌}
use mathlib.Core.HLevel.{is_prop→PathP}
use Rattle.word_fields.proofs.Ranges.{below_prop}
use Rattle.word_fields.specs.declared.records.RecordPhase.{RecordPhase}
use Rattle.word_fields.specs.declared.records.RecordPhase.TheVariants.{Idle, Generate, Executing, Wrapping, Completed}
use Rattle.word_fields.specs.declared.records.RecordWord.{RecordWord}
use Rattle.word_fields.specs.Fields.{field_of}
use Rattle.word_fields.specs.Records.{phase_number, phase_of, record_phase, record_number, record_round, record_payload, record_word, packed_record, record_of}

pub phase_number_below : (phase : RecordPhase) → phase_number phase < 5
phase_number_below Idle = omega arith
phase_number_below Generate = omega arith
phase_number_below Executing = omega arith
phase_number_below Wrapping = omega arith
phase_number_below Completed = omega arith

pub phase_of-number : (phase : RecordPhase) → phase_of (phase_number phase) ≡ phase
phase_of-number Idle = refl
phase_of-number Generate = refl
phase_of-number Executing = refl
phase_of-number Wrapping = refl
phase_of-number Completed = refl

pub phase-word : (phase : RecordPhase) (number round payload : ℕ) → record_phase (record_word phase number round payload) ≡ phase
unfolding record_phase record_word field_of
phase-word phase number round payload =
    let low : field_of 0 3 (record_word phase number round payload) ≡ phase_number phase = omega (arith, phase_number_below phase) in
    ap phase_of low ∙ phase_of-number phase

pub number-word : (phase : RecordPhase) (number round payload : ℕ) → number < 2 ^ 16 → record_number (record_word phase number round payload) ≡ number
unfolding record_number record_word field_of
number-word phase number round payload n = omega (arith, phase_number_below phase)

pub round-word : (phase : RecordPhase) (number round payload : ℕ) → number < 2 ^ 16 → round < 2 ^ 17 → record_round (record_word phase number round payload) ≡ round
unfolding record_round record_word field_of
round-word phase number round payload n r = omega (arith, phase_number_below phase)

pub payload-word : (phase : RecordPhase) (number round payload : ℕ) → number < 2 ^ 16 → round < 2 ^ 17 → payload < 2 ^ 24 → record_payload (record_word phase number round payload) ≡ payload
unfolding record_payload record_word field_of
payload-word phase number round payload n r p = omega (arith, phase_number_below phase)

pub record_word_below : (phase : RecordPhase) (number round payload : ℕ) → number < 2 ^ 16 → round < 2 ^ 17 → payload < 2 ^ 24 → record_word phase number round payload < 2 ^ 60
unfolding record_word
record_word_below phase number round payload n r p = omega (arith, phase_number_below phase)

-- record words with the same fields are the same
same_record : (v u : RecordWord) → v.phase ≡ u.phase → v.number ≡ u.number → v.round ≡ u.round → v.payload ≡ u.payload → v ≡ u
same_record v u phase number round payload = λ i. record {
  phase = phase i;
  number = number i;
  round = round i;
  payload = payload i;
  number_in_range = is_prop→PathP (λ j. number j < 2 ^ 16) (λ j. below_prop (number j) (2 ^ 16)) v.number_in_range u.number_in_range i;
  round_in_range = is_prop→PathP (λ j. round j < 2 ^ 17) (λ j. below_prop (round j) (2 ^ 17)) v.round_in_range u.round_in_range i;
  payload_in_range = is_prop→PathP (λ j. payload j < 2 ^ 24) (λ j. below_prop (payload j) (2 ^ 24)) v.payload_in_range u.payload_in_range i;
}

-- what was packed is unpacked again
pub record_of-packed : (v : RecordWord) → record_of (packed_record v) ≡ v
record_of-packed v =
    same_record (record_of (packed_record v)) v
    (phase-word v.phase v.number v.round v.payload)
    (number-word v.phase v.number v.round v.payload v.number_in_range)
    (round-word v.phase v.number v.round v.payload v.number_in_range v.round_in_range)
    (payload-word v.phase v.number v.round v.payload v.number_in_range v.round_in_range v.payload_in_range)

-- so different record words pack to different words
pub packed_record_differ : (v u : RecordWord) → packed_record v ≡ packed_record u → v ≡ u
packed_record_differ v u e = sym (record_of-packed v) ∙ ap record_of e ∙ record_of-packed u

-- the equations above, for `grind` and `simp`
pub ruleset record_words = (phase-word, number-word, round-word, payload-word)
