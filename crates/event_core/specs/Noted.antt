-- What a step tells of published and completed calls, read off the word at its place before it and after it.
use Rattle.std.specs.Prelude.{ℕ, ◌+◌, ◌-◌, ◌==◌, ◌&&◌, nat_le, nat_lt, not, if◌then◌else◌, get_or, Bool, true, false, List, [], ◌++◌, slice_index, Option, Some, None}
use Rattle.std.specs.Option.{option_to_list}
use Rattle.lin_report.specs.declared.events.Event.{Event}
use Rattle.step_memory.specs.declared.steps.Request.{Request}
use Rattle.step_memory.specs.declared.steps.Request.TheVariants.{Load, Store, Exchange, Add}
use Rattle.word_fields.specs.Records.{record_phase, record_number}
use Rattle.word_fields.specs.Seats.{queue_seats}
use Rattle.node_arena.specs.declared.places.TheConstants.{QUEUE, RECORDS}
use Rattle.help_queue.specs.Gathers.{is_open}
use Rattle.event_core.specs.declared.watching.Mark.{Mark}
use Rattle.overtaking_law.specs.Order.{completion}
use Rattle.fast_slow_engine.specs.Events.{published, queue_word, record_word_of}

-- whether a request shows that its step tells no event: a load changes no word, and beyond the records nothing is published
-- or completed and no tick is drawn
abbrev pub tells_nothing : Request → Bool
tells_nothing (Load at) = true
tells_nothing (Store at value) = nat_le (RECORDS + 8) at
tells_nothing (Exchange at from to) = nat_le (RECORDS + 8) at
tells_nothing (Add at by) = nat_le (RECORDS + 8) at

-- whether a seat is one of the members of a queue word, as they are read off it
abbrev pub is_member : List Bool → ℕ → Bool
is_member members seat = get_or members seat false

-- the completion that a step at this place is, if a record word closed there
abbrev pub completed_at : ℕ → ℕ → ℕ → Option Event
completed_at place before after =
    if (nat_le RECORDS place && nat_lt place (RECORDS + 8)) && (is_open (record_phase before) && not (is_open (record_phase after))) then Some (completion (place - RECORDS) (record_number before)) else None

-- the publications that it is, if it was at the queue word
abbrev pub published_at : ℕ → ℕ → List ℕ → List Event
published_at place before words = if place == QUEUE then published before (record_word_of words) (queue_seats (queue_word words)) else []

-- all that it tells, with the tick that it draws, if it draws one
abbrev pub noted : Option Event → ℕ → ℕ → List ℕ → List Event
noted tick place before words = option_to_list (completed_at place before (slice_index words place)) ++ (option_to_list tick ++ published_at place before words)

-- what a step with this mark tells, where it draws no tick
abbrev pub marked : Mark → List ℕ → List Event
marked mark words = noted None mark.place mark.before words
