use Rattle.run_world.proofs.Holding.CarriedLists.{carried_held}
use Rattle.run_world.proofs.lists.carried_held.Goals as goal

pub returns : goal.returns
returns g c = carried_held g.C.Normalized.form
