use Rattle.run_world.proofs.Names.Fresh.{carried_fresh}
use Rattle.run_world.proofs.identities.carried_fresh.Goals as goal

pub returns : goal.returns
returns g c = carried_fresh g.C.Normalized.form
