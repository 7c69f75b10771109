use Rattle.std.proofs.Common.{◌≡◌}
use Rattle.schedule_runs.specs.Rounds.{after_order, rounds}
use Rattle.schedule_runs.proofs.rounds.take_rounds.Given as goal

-- so many rounds were made
abbrev pub invariant-loop : goal.invariant-loop
invariant-loop g l = (l.core ≡ after_order g.C.Normalized.form l.fn.core (rounds l.fn.seats l.counter)) × (l.core.files ≡ l.fn.core.files)
