-- The order of records is strict.
use Rattle.std.proofs.Common.{◌≡◌, ◌⊎◌, arith}
use Rattle.std.proofs.lemmas.Bool.{cases_order}
use Rattle.word_fields.specs.declared.records.RecordWord.{RecordWord}
use Rattle.word_fields.specs.Records.{phase_number}
use Rattle.op_record.specs.Progress.{IsEarlier}

pub earlier_irreflexive : (a : RecordWord) → ¬ IsEarlier a a
earlier_irreflexive a h = grind arith

pub earlier_transitive : (a b c : RecordWord) → IsEarlier a b → IsEarlier b c → IsEarlier a c
earlier_transitive a b c first second = grind arith

-- of two records one is earlier, or they have the same number, round and phase
pub earlier_total : (a b : RecordWord) → IsEarlier a b ⊎ (IsEarlier b a ⊎ ((a.number ≡ b.number) × (a.round ≡ b.round) × (phase_number a.phase ≡ phase_number b.phase)))
earlier_total a b =
    let by_number = cases_order a.number b.number in
    let by_round = cases_order a.round b.round in
    let by_phase = cases_order (phase_number a.phase) (phase_number b.phase) in
    grind arith
