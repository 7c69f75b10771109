use Rattle.schedule_runs.proofs.RoundsTakeTurns.{steps_run_in_order}
use Rattle.schedule_runs.proofs.laws.steps_run_in_order.Goals as goal

pub returns : goal.returns
returns g c = steps_run_in_order g.C.Normalized.form
