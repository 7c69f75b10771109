use Rattle.std.proofs.Common.{◌≡◌, true}
use Rattle.schedule_runs.specs.Rounds.{after_order, round}
use Rattle.schedule_runs.proofs.rounds.take_round.Given as goal

-- the seats so far made a step
abbrev pub invariant-loop-seat : goal.invariant-loop-seat
invariant-loop-seat g l = (l.core ≡ after_order g.C.Normalized.form l.fn.core (round l.seat)) × (l.idle ≡ true → l.core ≡ l.fn.core) × (l.core.files ≡ l.fn.core.files)
