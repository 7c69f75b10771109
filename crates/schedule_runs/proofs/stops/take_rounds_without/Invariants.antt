use Rattle.std.proofs.Common.{◌≡◌}
use Rattle.schedule_runs.specs.Rounds.{after_order, repeated}
use Rattle.schedule_runs.specs.Stops.{round_without}
use Rattle.schedule_runs.proofs.stops.take_rounds_without.Given as goal

-- so many rounds were made
abbrev pub invariant-loop : goal.invariant-loop
invariant-loop g l = (l.core ≡ after_order g.C.Normalized.form l.fn.core (repeated (round_without l.fn.stopped l.fn.seats) l.counter)) × (l.core.files ≡ l.fn.core.files)
