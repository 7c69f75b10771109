use Rattle.move_orders.proofs.Told.{lines_tell}
use Rattle.move_orders.proofs.laws.lines_tell.Goals as goal

pub returns : goal.returns
returns g c = lines_tell g.C.Normalized.form
