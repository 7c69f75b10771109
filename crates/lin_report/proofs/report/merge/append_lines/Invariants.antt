use Rattle.std.proofs.Common.{◌+◌, ◌-◌, length}
use Rattle.lin_report.proofs.Merging.{Progress}
use Rattle.lin_report.proofs.report.merge.append_lines.Given as goal

abbrev pub invariant-loop-answered : goal.invariant-loop-answered
invariant-loop-answered l = Progress l.fn.room l.room l.receipts l.pending l.answered l.waiting

abbrev pub decreases-loop-answered : goal.decreases-loop-answered
decreases-loop-answered l = (length l.receipts - l.answered) + (length l.pending - l.waiting)
