use Rattle.schedule_runs.proofs.OneOrderNamed.{names_one_order}
use Rattle.schedule_runs.proofs.laws.names_one_order.Goals as goal

pub returns : goal.returns
returns g c = names_one_order g.C.Normalized.form
