use Rattle.schedule_runs.proofs.RunsInOrder.{runs_in_order}
use Rattle.schedule_runs.proofs.laws.runs_in_order.Goals as goal

pub returns : goal.returns
returns g c = runs_in_order g.C.Normalized.form
