-- What the outcome of a file means, told of its single lines: that it is accepted says that no line is at
-- fault, and that it is refused names the first one that is. Each file is one or the other.
use Rattle.std.specs.Prelude.{◌≡◌, ◌⊎◌, ◌↔◌, ℕ, ◌-◌, ◌<◌, ◌≤◌, nat_lt, Bool, List, [], ◌∷◌, length, take, slice_index_or, count_by, Option, Some, None, Result, Ok, Err}
use Rattle.std.specs.List.{filter_map}
use Rattle.std.specs.Result.{result_ok, result_err}
use Rattle.script_reader.specs.declared.causes.Cause.{Cause}
use Rattle.script_reader.specs.declared.causes.Cause.TheVariants.{FileTooLong}
use Rattle.script_reader.specs.declared.causes.Refusal.{Refusal}
use Rattle.script_reader.specs.Words.{lines_of, words_of}
use Rattle.script_reader.specs.Outcomes.{line_outcome}

abbrev pub has_words : List ℕ → Bool
has_words line = nat_lt 0 (length (words_of line))

-- why a line is refused, if it is: the line is told by its number, which counts from 1
abbrev pub line_fault : {X : Type 0} → (List (List ℕ) → Result X Cause) → ℕ → List (List ℕ) → ℕ → Option Cause
line_fault entry limit lines number =
    result_err (line_outcome entry limit (count_by has_words (take (number - 1) lines)) (slice_index_or lines (number - 1) []))

-- what the words of a line stand for, if it has words
abbrev pub entry_from_words : {X : Type 0} → (List (List ℕ) → Result X Cause) → List (List ℕ) → Option X
entry_from_words entry [] = None
entry_from_words entry (word ∷ words) = result_ok (entry (word ∷ words))

abbrev pub entry_in : {X : Type 0} → (List (List ℕ) → Result X Cause) → List ℕ → Option X
entry_in entry line = entry_from_words entry (words_of line)

-- the file is short enough, no line is at fault, and these are the entries of its lines with words, in order
pub record IsAccepted {X : Type 0} (most : ℕ) (entry : List (List ℕ) → Result X Cause) (limit : ℕ) (bytes : List ℕ) (entries : List X) : Type 0 where
  pub short : length bytes ≤ most
  pub faultless : (number : ℕ) → 0 < number → line_fault entry limit (lines_of bytes) number ≡ None
  pub in_order : entries ≡ filter_map (entry_in entry) (lines_of bytes)

-- the line of the refusal is at fault with its cause, and no line before it is at fault
pub record IsFirstFault {X : Type 0} (entry : List (List ℕ) → Result X Cause) (limit : ℕ) (lines : List (List ℕ)) (refusal : Refusal) : Type 0 where
  pub counted : 0 < refusal.line
  pub at_fault : line_fault entry limit lines refusal.line ≡ Some refusal.cause
  pub first : (number : ℕ) → 0 < number → number < refusal.line → line_fault entry limit lines number ≡ None

-- the file is too long, which is told of line 0, or this is its first line at fault
abbrev pub IsRefused : {X : Type 0} → ℕ → (List (List ℕ) → Result X Cause) → ℕ → List ℕ → Refusal → Type 0
IsRefused most entry limit bytes refusal =
    ((most < length bytes) × (refusal ≡ record { line = 0; cause = FileTooLong }))
    ⊎ ((length bytes ≤ most) × IsFirstFault entry limit (lines_of bytes) refusal)

-- an outcome is what the single lines say, in both directions
pub record IsOutcomeOf {X : Type 0} (most : ℕ) (entry : List (List ℕ) → Result X Cause) (limit : ℕ) (bytes : List ℕ) (outcome : Result (List X) Refusal) : Type 0 where
  pub accepted : (entries : List X) → IsAccepted most entry limit bytes entries ↔ (outcome ≡ Ok entries)
  pub refused : (refusal : Refusal) → IsRefused most entry limit bytes refusal ↔ (outcome ≡ Err refusal)
