-- The head of a queue word, and what a helper makes of its record.
use Rattle.std.specs.Prelude.{ℕ, ◌==◌, not, if◌then◌else◌, Bool, false, List, [], ◌∷◌, Option, Some, None}
use Rattle.word_fields.specs.Records.{record_phase, record_number}
use Rattle.word_fields.specs.Seats.{queue_seats}
use Rattle.help_queue.specs.Gathers.{is_open}
use Rattle.help_queue.specs.Removes.{Removal, remove_new}

-- the first of these seats, if there is one
abbrev pub first_of : List ℕ → Option ℕ
first_of [] = None
first_of (seat ∷ seats) = Some seat

-- the head of a queue word
abbrev pub head_of : ℕ → Option ℕ
head_of word = first_of (queue_seats word)

-- a record is of another call than the known one
abbrev pub is_other : Option ℕ → ℕ → Bool
is_other None number = false
is_other (Some known) number = not (known == number)

-- the record of a seat was loaded: an open one is helped on, the call of any other is removed
abbrev pub record_met : {Next : Type 0} → (ℕ → Next) → (Removal → Next) → ℕ → ℕ → ℕ → Next
record_met opened closed word seat seats = if is_open (record_phase word) then opened word else closed (remove_new seat (record_number word) seats)
