use Rattle.run_laws.proofs.BlocksClaimed.{claims_hold}
use Rattle.run_laws.proofs.claims.claims_hold.Goals as goal

pub returns : goal.returns
returns g c = claims_hold g.C.Normalized.form
