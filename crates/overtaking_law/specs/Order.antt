-- The order in which the events of a run come, as far as overtaking counts rest on it.
use Rattle.std.specs.Prelude.{◌≡◌, ◌≢◌, ℕ, ◌<◌, List, ◌∷◌, ◌++◌, Contains}
use Rattle.lin_report.specs.declared.events.Event.{Event}
use Rattle.lin_report.specs.declared.events.EventKind.TheVariants.{Publish, Complete}

-- the publication and the completion of a call
abbrev pub publication : ℕ → ℕ → Event
publication seat number = record { kind = Publish; seat = seat; number = number }

abbrev pub completion : ℕ → ℕ → Event
completion seat number = record { kind = Complete; seat = seat; number = number }

-- the call was published and has not completed
pub record IsOpen (events : List Event) (seat number : ℕ) : Type 0 where
  pub published : Contains events (publication seat number)
  pub incomplete : ¬ Contains events (completion seat number)

-- an event that may come behind these: its seat is below 8, its call had no such event before, a call
-- completes only after it was published, and is published only where no other call of its seat is open
pub record MayFollow (before : List Event) (event : Event) : Type 0 where
  pub seat : event.seat < 8
  pub once : ¬ Contains before event
  pub published_first : event.kind ≡ Complete → Contains before (publication event.seat event.number)
  pub one_open : event.kind ≡ Publish → (other : ℕ) → other ≢ event.number → ¬ IsOpen before event.seat other

-- each event may come behind those before it
abbrev pub AreOrdered : List Event → Type 0
AreOrdered events = (before after : List Event) (event : Event) → events ≡ before ++ event ∷ after → MayFollow before event
