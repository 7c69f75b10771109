use Rattle.std.proofs.Common.{rules}
use Rattle.schedule_runs.proofs.DriveLoops.{follows_next}
use Rattle.schedule_runs.proofs.driver.drive.Goals as goal

pub loop-entry-preserved : goal.loop-entry-preserved
loop-entry-preserved g c = (
  follows_next g.C.Normalized.form c.args.schedule.now c.loop-entry.entry-index _ c.args.core.now c.loop-entry.core c.follow.new.core c.loop-entry.invariant.0 (search rules) (search rules) c.follow.ensures.made,
  search rules,
)
