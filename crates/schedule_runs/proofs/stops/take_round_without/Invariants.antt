use Rattle.std.proofs.Common.{◌≡◌, true}
use Rattle.schedule_runs.specs.Rounds.{after_order}
use Rattle.schedule_runs.specs.Stops.{round_without}
use Rattle.schedule_runs.proofs.stops.take_round_without.Given as goal

-- the seats so far made a step, but for the one that stopped
abbrev pub invariant-loop-seat : goal.invariant-loop-seat
invariant-loop-seat g l = (l.core ≡ after_order g.C.Normalized.form l.fn.core (round_without l.fn.stopped l.seat)) × (l.idle ≡ true → l.core ≡ l.fn.core) × (l.core.files ≡ l.fn.core.files)
