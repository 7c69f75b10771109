-- The overtaking count of a call: how many returns of other seats stand between its publication and its
-- completion.
use Rattle.std.specs.Prelude.{ℕ, ◌==◌, ◌&&◌, not, Bool, true, false, List, [], ◌∷◌, max, count_by}
use Rattle.std.specs.List.{before_first, after_first}
use Rattle.lin_report.specs.declared.events.Event.{Event}
use Rattle.lin_report.specs.declared.events.EventKind.{EventKind}
use Rattle.lin_report.specs.declared.events.EventKind.TheVariants.{Begin, Publish, Complete, Return}

abbrev pub is_publish : EventKind → Bool
is_publish Publish = true
is_publish Begin = false
is_publish Complete = false
is_publish Return = false

abbrev pub is_complete : EventKind → Bool
is_complete Complete = true
is_complete Begin = false
is_complete Publish = false
is_complete Return = false

abbrev pub is_return : EventKind → Bool
is_return Return = true
is_return Begin = false
is_return Publish = false
is_return Complete = false

-- the event is of this call
abbrev pub is_of : ℕ → ℕ → Event → Bool
is_of seat number event = event.seat == seat && event.number == number

-- the publication of a call, its completion, and a return of another seat
abbrev pub publishes : ℕ → ℕ → Event → Bool
publishes seat number event = is_publish event.kind && is_of seat number event

abbrev pub completes : ℕ → ℕ → Event → Bool
completes seat number event = is_complete event.kind && is_of seat number event

abbrev pub returns_elsewhere : ℕ → Event → Bool
returns_elsewhere seat event = is_return event.kind && not (event.seat == seat)

-- the events while a call waits: behind its publication, before its completion or to the end where it has
-- none. There are none where it isn't published
abbrev pub waiting_part : List Event → ℕ → ℕ → List Event
waiting_part events seat number = before_first (completes seat number) (after_first (publishes seat number) events)

-- the overtaking count of a call
unfoldable pub overtaken : List Event → ℕ → ℕ → ℕ
overtaken events seat number = count_by (returns_elsewhere seat) (waiting_part events seat number)

-- the greatest count of these events, 0 where there are none
abbrev pub greatest : (Event → ℕ) → List Event → ℕ
greatest count [] = 0
greatest count (event ∷ events) = max (count event) (greatest count events)

-- the greatest overtaking count of all calls
unfoldable pub greatest_overtaken : List Event → ℕ
greatest_overtaken events = greatest (λ event. overtaken events event.seat event.number) events
