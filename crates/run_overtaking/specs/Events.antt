-- What is so of the events of every run: in which order they come, how many there are, and how often they say that a call is
-- overtaken.
use Rattle.std.specs.Prelude.{ℕ, ◌*◌, ◌≤◌, length, sum_by, List}
use Rattle.normal_traits.specs.NormalForm.{NormalForm}
use Rattle.fast_slow_engine.specs.declared.setup.Setup.{Setup}
use Rattle.fast_slow_engine.specs.Runs.{Move, AreMoves, run_of}
use Rattle.overtaking_law.specs.Order.{AreOrdered}
use Rattle.overtaking_law.specs.Overtaking.{overtaken, greatest_overtaken}
use Rattle.run_queue.specs.Premises.{KeepsQueue}
use Rattle.run_overtaking.specs.Accounts.{most_overtaken}

module _ {S W : Type 0} (form : NormalForm S W) where
  -- no call is overtaken more often than the bound says
  abbrev pub OvertakenBounded : Type 0
  OvertakenBounded = (setup : Setup) (moves : List Move) → AreMoves form setup moves → KeepsQueue form setup moves → (x number : ℕ) → overtaken (run_of form setup moves).events x number ≤ most_overtaken setup.seats

  -- nor is the greatest count of all calls above it
  abbrev pub GreatestBounded : Type 0
  GreatestBounded = (setup : Setup) (moves : List Move) → AreMoves form setup moves → KeepsQueue form setup moves → greatest_overtaken (run_of form setup moves).events ≤ most_overtaken setup.seats

  -- each event may come behind those before it
  abbrev pub EventsOrdered : Type 0
  EventsOrdered = (setup : Setup) (moves : List Move) → AreMoves form setup moves → KeepsQueue form setup moves → AreOrdered (run_of form setup moves).events

  -- there are at most four for each call that was begun
  abbrev pub EventsFit : Type 0
  EventsFit = (setup : Setup) (moves : List Move) → AreMoves form setup moves → KeepsQueue form setup moves → length (run_of form setup moves).events ≤ 4 * sum_by (λ mech. mech.number) (run_of form setup moves).mechs
