use Rattle.std.proofs.Common.{◌≡◌}
use Rattle.worked_runs.proofs.runs.make_steps.Given as goal

-- the files stay
abbrev pub invariant-loop : goal.invariant-loop
invariant-loop l = l.core.files ≡ l.fn.core.files
