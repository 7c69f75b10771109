use Rattle.run_world.proofs.Holding.HeldLists.{lists_held}
use Rattle.run_world.proofs.lists.lists_held.Goals as goal

pub returns : goal.returns
returns g c = lists_held g.C.Normalized.form
