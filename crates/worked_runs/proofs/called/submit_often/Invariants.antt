use Rattle.std.proofs.Common.{◌≡◌, length}
use Rattle.worked_runs.proofs.called.submit_often.Given as goal

-- there are as many files as there were
abbrev pub invariant-loop : goal.invariant-loop
invariant-loop l = length l.core.files ≡ length l.fn.core.files
