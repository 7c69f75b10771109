-- Records only go on: to a later call, to a later round of a call, or to a later phase of a round.
use Rattle.std.specs.Prelude.{◌≡◌, ℕ, ◌<◌, ◌⊎◌, IsTrue}
use Rattle.step_memory.specs.declared.steps.Request.{Request}
use Rattle.step_memory.specs.Step.{word_after, seen_at}
use Rattle.word_fields.specs.declared.records.RecordWord.{RecordWord}
use Rattle.word_fields.specs.Records.{phase_number, record_of}

-- a is before b in the order of number, round and phase
abbrev pub IsEarlier : RecordWord → RecordWord → Type 0
IsEarlier a b =
    (a.number < b.number)
    ⊎ ((a.number ≡ b.number) × ((a.round < b.round)
    ⊎ ((a.round ≡ b.round) × (phase_number a.phase < phase_number b.phase))))

-- after the request the record that stood in the word is a later one
abbrev pub GoesOn : Request → ℕ → Type 0
GoesOn request word = IsEarlier (record_of word) (record_of (word_after request word))

-- so it is after each step of the request that wins
abbrev pub GoesOnWhereWon : Request → Type 0
GoesOnWhereWon request = (word : ℕ) → IsTrue (seen_at request word).won → GoesOn request word
