-- The events of a step: a tick is drawn, which begins or ends a call; a seat enters the queue word, which publishes its call; or
-- a record closes, which completes one. The last two are read off the words before and after the step, whoever makes it.
use Rattle.std.specs.Prelude.{ℕ, ◌&&◌, not, if◌then◌else◌, Bool, true, false, List, [], ◌∷◌, ◌++◌, slice_index}
use Rattle.std.specs.Option.{option_to_list}
use Rattle.lin_report.specs.declared.events.Event.{Event}
use Rattle.lin_report.specs.declared.events.EventKind.{EventKind}
use Rattle.lin_report.specs.declared.events.EventKind.TheVariants as kind
use Rattle.word_fields.specs.Records.{record_phase, record_number}
use Rattle.word_fields.specs.Seats.{queue_seats}
use Rattle.node_arena.specs.declared.places.TheConstants.{QUEUE}
use Rattle.node_arena.specs.MemoryMap.{record_place}
use Rattle.help_queue.specs.Gathers.{holds, is_open}
use Rattle.overtaking_law.specs.Order.{publication, completion}
use Rattle.fast_slow_engine.specs.Mechs.{Mech}
use Rattle.fast_slow_engine.specs.PhaseTable.{mech_event}

-- the queue word, and the record words by their seats
abbrev pub queue_word : List ℕ → ℕ
queue_word words = slice_index words QUEUE

abbrev pub record_word_of : List ℕ → ℕ → ℕ
record_word_of words seat = slice_index words (record_place seat)

-- the publications of the seats that were not held before, by a test of that, in this order
abbrev pub published_by : (ℕ → Bool) → (ℕ → ℕ) → List ℕ → List Event
published_by held records [] = []
published_by held records (t ∷ seats) = if held t then published_by held records seats else publication t (record_number (records t)) ∷ published_by held records seats

-- the publications of the seats that a queue word has and an older one has not, in the order of the word
abbrev pub published : ℕ → (ℕ → ℕ) → List ℕ → List Event
published queue records seats = published_by (holds queue) records seats

-- the completions of the seats whose records were open and have closed
abbrev pub completed : (ℕ → ℕ) → (ℕ → ℕ) → List ℕ → List Event
completed records records' [] = []
completed records records' (t ∷ seats) =
    if is_open (record_phase (records t)) && not (is_open (record_phase (records' t))) then completion t (record_number (records t)) ∷ completed records records' seats
    else completed records records' seats

-- all seats that have a record word
abbrev pub eight_seats : List ℕ
eight_seats = 0 ∷ 1 ∷ 2 ∷ 3 ∷ 4 ∷ 5 ∷ 6 ∷ 7 ∷ []

-- the events of a step: first the calls that it completes, then the machine's own tick, then the calls that it publishes
abbrev pub step_events : {S W : Type 0} → Mech S W → List ℕ → List ℕ → List Event
step_events mech words words' =
    completed (record_word_of words) (record_word_of words') eight_seats ++ (option_to_list (mech_event mech) ++ published (queue_word words) (record_word_of words') (queue_seats (queue_word words')))

-- whether an event is the drawing of a tick, by its kind
abbrev pub is_tick : EventKind → Bool
is_tick kind.Begin = true
is_tick kind.Return = true
is_tick kind.Publish = false
is_tick kind.Complete = false
