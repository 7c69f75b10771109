use Rattle.std.proofs.Common.{◌≡◌}
use Rattle.schedule_runs.specs.Spans.{after_steps}
use Rattle.schedule_runs.proofs.driver.make_steps.Given as goal

-- so many steps were made
abbrev pub invariant-loop : goal.invariant-loop
invariant-loop g l = (l.core ≡ after_steps g.C.Normalized.form l.fn.seat l.fn.core l.counter) × (l.core.files ≡ l.fn.core.files)
