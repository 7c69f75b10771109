use Rattle.std.proofs.Common.{◌≡◌, take}
use Rattle.schedule_runs.specs.Orders.{EntriesMade}
use Rattle.schedule_runs.proofs.driver.drive.Given as goal

-- the entries so far were made
abbrev pub invariant-loop-entry : goal.invariant-loop-entry
invariant-loop-entry g l = EntriesMade g.C.Normalized.form (take l.entry-index l.schedule) l.fn.core l.core × (l.core.files ≡ l.fn.core.files)
