-- Schedules: which entries there are, and what a file of them is.
use Rattle.std.specs.Prelude.{ℕ, ◌≤◌, Bool, not, ◌&&◌, ◌||◌, nat_lt, nat_le, if◌then◌else◌, List, [], ◌∷◌, Option, Some, None, Result, Ok, Err, codes}
use Rattle.std.specs.Option.{ok_or}
use Rattle.std.specs.Str.{bytes_eq}
use Rattle.std.specs.Str.Parse.{digits_value}
use Rattle.script_reader.specs.declared.causes.Cause.{Cause}
use Rattle.script_reader.specs.declared.causes.Cause.TheVariants.{BadCommand, BadNumber, BadSeat}
use Rattle.script_reader.specs.declared.causes.Refusal.{Refusal}
use Rattle.script_reader.specs.declared.schedules.Span.{Span}
use Rattle.script_reader.specs.declared.schedules.Span.TheVariants.{Steps, ToEnd, ToExchange}
use Rattle.script_reader.specs.declared.schedules.ScheduleEntry.{ScheduleEntry}
use Rattle.script_reader.specs.Words.{is_number}
use Rattle.script_reader.specs.Outcomes.{file_outcome}

-- lines with words of a schedule
abbrev pub ENTRY_LIMIT : ℕ
ENTRY_LIMIT = 4096

-- the steps that one entry may give a seat
abbrev pub STEP_LIMIT : ℕ
STEP_LIMIT = 16384

-- `end`, `exchange` or digits alone
abbrev pub is_span : List ℕ → Bool
is_span word = bytes_eq word (codes "end") || bytes_eq word (codes "exchange") || is_number word

-- what digits give a seat: from one step to the limit
abbrev pub steps_of : ℕ → Option Span
steps_of steps = if nat_lt 0 steps && nat_le steps STEP_LIMIT then Some (Steps steps) else None

-- what callers know of each span: a number of steps is in range
abbrev pub IsSpanInRange : Span → Type 0
IsSpanInRange (Steps steps) = (1 ≤ steps) × (steps ≤ STEP_LIMIT)
IsSpanInRange ToEnd = Unit {0}
IsSpanInRange ToExchange = Unit {0}

-- the span that a span word names, where its number is in range
abbrev pub span_named : List ℕ → Option Span
span_named word =
    if bytes_eq word (codes "end") then Some ToEnd
    else (if bytes_eq word (codes "exchange") then Some ToExchange
    else steps_of (digits_value 10 word))

-- a span out of range is told before a seat that has no command file
abbrev pub entry_with : ℕ → ℕ → Option Span → Result ScheduleEntry Cause
entry_with seats seat None = Err BadNumber
entry_with seats seat (Some span) = if nat_lt seat seats then Ok (record { seat = seat; span = span }) else Err BadSeat

-- the rules for a seat word and a span word, in their order
abbrev pub entry_from : ℕ → List ℕ → List ℕ → Result ScheduleEntry Cause
entry_from seats seat span =
    if not (is_span span) then Err BadCommand
    else (if not (is_number seat) then Err BadNumber
    else entry_with seats (digits_value 10 seat) (span_named span))

-- each of the two words by itself; judged in this order they are the entry
abbrev pub span_of : List ℕ → Result Span Cause
span_of span = if not (is_span span) then Err BadCommand else ok_or (span_named span) BadNumber

abbrev pub seat_of : ℕ → List ℕ → Result ℕ Cause
seat_of seats seat =
    if not (is_number seat) then Err BadNumber
    else (if nat_lt (digits_value 10 seat) seats then Ok (digits_value 10 seat) else Err BadSeat)

-- the words of a line as an entry, where there are so many seats
abbrev pub entry_of : ℕ → List (List ℕ) → Result ScheduleEntry Cause
entry_of seats (seat ∷ span ∷ []) = entry_from seats seat span
entry_of seats _ = Err BadCommand

-- what a schedule is: the entries of its lines, or the line and cause for which it is refused
unfoldable pub schedule_outcome : ℕ → List ℕ → Result (List ScheduleEntry) Refusal
schedule_outcome seats bytes = file_outcome (entry_of seats) ENTRY_LIMIT bytes
