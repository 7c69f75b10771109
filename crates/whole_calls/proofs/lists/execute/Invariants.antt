use Rattle.std.proofs.Common.{◌≡◌}
use Rattle.whole_calls.specs.Standings.{HasWon}
use Rattle.whole_calls.proofs.lists.execute.Given as goal

abbrev pub invariant-loop-won : goal.invariant-loop-won
invariant-loop-won g l = HasWon g.C.Normalized.form l.list.items l.won l.call (g.P.Steps.machine l.port) × (g.P.Steps.rest l.port ≡ g.P.Steps.rest l.fn.port)
