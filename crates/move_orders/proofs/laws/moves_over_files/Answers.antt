use Rattle.move_orders.proofs.OverFiles.{moves_over_files}
use Rattle.move_orders.proofs.laws.moves_over_files.Goals as goal

pub returns : goal.returns
returns g c = moves_over_files g.C.Normalized.form
