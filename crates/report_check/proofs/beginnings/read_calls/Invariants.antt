use Rattle.std.proofs.Common.{length}
use Rattle.report_check.proofs.CallsRead.Beginning.{Stands}
use Rattle.report_check.proofs.beginnings.read_calls.Given as goal

-- the calls so far are those with which the bytes begin, and what is kept is theirs
abbrev pub invariant-loop-call : goal.invariant-loop-call
invariant-loop-call l = Stands l.client l.bytes l.calls.items l.line l.last.items l.ticks.items l.rest

-- each line takes bytes
abbrev pub decreases-loop-call : goal.decreases-loop-call
decreases-loop-call l = length l.rest
