use Rattle.move_orders.proofs.Gathered.{lines_gather}
use Rattle.move_orders.proofs.laws.lines_gather.Goals as goal

pub returns : goal.returns
returns g c = lines_gather g.C.Normalized.form
