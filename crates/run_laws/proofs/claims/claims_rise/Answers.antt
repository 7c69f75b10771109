use Rattle.run_laws.proofs.BlocksClaimed.{claims_rise}
use Rattle.run_laws.proofs.claims.claims_rise.Goals as goal

pub returns : goal.returns
returns g c = claims_rise g.C.Normalized.form
