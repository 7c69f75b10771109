use Rattle.std.proofs.Common.{◌≡◌}
use Rattle.schedule_runs.specs.Spans.{ends_at}
use Rattle.schedule_runs.proofs.DriveLoops.{HasGone}
use Rattle.schedule_runs.proofs.driver.go_to_end.Given as goal

-- so many steps were made, and none was the last
abbrev pub invariant-loop : goal.invariant-loop
invariant-loop g l = HasGone g.C.Normalized.form (ends_at g.C.Normalized.form l.fn.seat l.fn.core) l.fn.seat l.fn.core l.counter l.core × (l.core.files ≡ l.fn.core.files)
