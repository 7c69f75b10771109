use Rattle.std.proofs.Common.{◌+◌, ◌*◌, ◌≤◌, vec_len, vec_capacity}
use Rattle.client_reports.proofs.SweepRuns.{Sweeping}
use Rattle.client_reports.proofs.sweeping.lines_of.Given as goal

-- so many lines are written
abbrev pub invariant-loop-steps : goal.invariant-loop-steps
invariant-loop-steps g l =
    Sweeping g.C.Normalized.form l.fn.commands.items l.setup l.core l.rounds l.steps l.text.items l.exhausted
    × (vec_len l.text ≤ 192 * l.steps)
    × (192 * (l.fn.most + 1) + 128 ≤ vec_capacity l.text)
