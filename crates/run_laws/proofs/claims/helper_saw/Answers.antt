use Rattle.run_laws.proofs.NoneLeftSeen.{helper_saw}
use Rattle.run_laws.proofs.claims.helper_saw.Goals as goal

pub returns : goal.returns
returns g c = helper_saw g.C.Normalized.form
