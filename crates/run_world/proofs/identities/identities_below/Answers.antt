use Rattle.run_world.proofs.Names.Kept.{identities_below}
use Rattle.run_world.proofs.identities.identities_below.Goals as goal

pub returns : goal.returns
returns g c = identities_below g.C.Normalized.form
