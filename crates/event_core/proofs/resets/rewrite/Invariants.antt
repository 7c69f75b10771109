use Rattle.event_core.proofs.Renewals.{Written}
use Rattle.event_core.proofs.resets.rewrite.Given as goal

-- the places so far are written
abbrev pub invariant-loop-at : goal.invariant-loop-at
invariant-loop-at l = Written l.words l.fn.cells l.at l.cells
