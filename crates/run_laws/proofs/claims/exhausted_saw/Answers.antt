use Rattle.run_laws.proofs.NoneLeftSeen.{exhausted_saw}
use Rattle.run_laws.proofs.claims.exhausted_saw.Goals as goal

pub returns : goal.returns
returns g c = exhausted_saw g.C.Normalized.form
