-- What a file of lines is, by the rules for lines: its entries in order, or the first line at fault. The kinds of
-- files differ in what the words of a line may be, in how many lines may have words, and in how many bytes there may be.
use Rattle.std.specs.Prelude.{◌≡◌, ℕ, ◌+◌, nat_lt, if◌then◌else◌, List, [], ◌∷◌, length, Option, Some, None, Result, Ok, Err}
use Rattle.std.specs.Global.{Vec}
use Rattle.script_reader.specs.declared.causes.Cause.{Cause}
use Rattle.script_reader.specs.declared.causes.Cause.TheVariants.{BadCommand, BadNumber, LineTooLong, TooManyLines, FileTooLong, BadSeat}
use Rattle.script_reader.specs.declared.causes.Refusal.{Refusal}
use Rattle.script_reader.specs.declared.causes.ScriptFault.{ScriptFault}
use Rattle.script_reader.specs.declared.causes.ScriptFault.TheVariants.{Refused, NoMemory}
use Rattle.script_reader.specs.Words.{lines_of, words_of}

-- bytes of a command file or a schedule, and of a line without its newline
abbrev pub FILE_LIMIT : ℕ
FILE_LIMIT = 1048576

abbrev pub LINE_LIMIT : ℕ
LINE_LIMIT = 64

-- the number of a cause in messages
abbrev pub cause_number : Cause → ℕ
cause_number BadCommand = 1
cause_number BadNumber = 2
cause_number LineTooLong = 3
cause_number TooManyLines = 4
cause_number FileTooLong = 5
cause_number BadSeat = 6

abbrev pub some_entry : {X : Type 0} → Result X Cause → Result (Option X) Cause
some_entry (Ok entry) = Ok (Some entry)
some_entry (Err cause) = Err cause

-- the words of a line, where so many lines with words stand before it: a line without words is passed over
abbrev pub words_outcome : {X : Type 0} → (List (List ℕ) → Result X Cause) → ℕ → ℕ → List (List ℕ) → Result (Option X) Cause
words_outcome entry limit before [] = Ok None
words_outcome entry limit before (word ∷ words) =
    if nat_lt before limit then some_entry (entry (word ∷ words)) else Err TooManyLines

-- one line: it is too long, or its words decide
abbrev pub line_outcome : {X : Type 0} → (List (List ℕ) → Result X Cause) → ℕ → ℕ → List ℕ → Result (Option X) Cause
line_outcome entry limit before line =
    if nat_lt LINE_LIMIT (length line) then Err LineTooLong else words_outcome entry limit before (words_of line)

-- an entry in front of those of the lines that follow
abbrev pub entry_first : {X : Type 0} → X → Result (List X) Refusal → Result (List X) Refusal
entry_first entry (Ok entries) = Ok (entry ∷ entries)
entry_first entry (Err refusal) = Err refusal

-- the outcome from a line on, by what the line itself is: rest is the outcome of the lines that follow,
-- where so many lines with words stand before them
abbrev pub after_line : {X : Type 0} → ℕ → ℕ → Result (Option X) Cause → (ℕ → Result (List X) Refusal) → Result (List X) Refusal
after_line number before (Ok None) rest = rest before
after_line number before (Ok (Some entry)) rest = entry_first entry (rest (before + 1))
after_line number before (Err cause) rest = Err (record { line = number; cause = cause })

-- the lines from this number on, where so many lines with words stand before them: in order, and the
-- first at fault decides
abbrev pub lines_outcome : {X : Type 0} → (List (List ℕ) → Result X Cause) → ℕ → ℕ → ℕ → List (List ℕ) → Result (List X) Refusal
lines_outcome entry limit number before [] = Ok []
lines_outcome entry limit number before (line ∷ lines) =
    after_line number before (line_outcome entry limit before line) (λ n. lines_outcome entry limit (number + 1) n lines)

-- a file of at most so many bytes: too long, before its lines are looked at, or what its lines are, counted from 1
abbrev pub outcome_within : {X : Type 0} → ℕ → (List (List ℕ) → Result X Cause) → ℕ → List ℕ → Result (List X) Refusal
outcome_within most entry limit bytes =
    if nat_lt most (length bytes)
    then Err (record { line = 0; cause = FileTooLong })
    else lines_outcome entry limit 1 0 (lines_of bytes)

-- a command file or a schedule
abbrev pub file_outcome : {X : Type 0} → (List (List ℕ) → Result X Cause) → ℕ → List ℕ → Result (List X) Refusal
file_outcome entry limit bytes = outcome_within FILE_LIMIT entry limit bytes

-- what a reader answers is what the file is, unless memory ran out
abbrev pub ReadsAs : {X : Type 0} → Result (Vec X) ScriptFault → Result (List X) Refusal → Type 0
ReadsAs (Ok entries) outcome = outcome ≡ Ok entries.items
ReadsAs (Err (Refused refusal)) outcome = outcome ≡ Err refusal
ReadsAs (Err NoMemory) outcome = Unit {0}
