use Rattle.run_world.proofs.Names.Kept.{identities_differ}
use Rattle.run_world.proofs.identities.identities_differ.Goals as goal

pub returns : goal.returns
returns g c = identities_differ g.C.Normalized.form
