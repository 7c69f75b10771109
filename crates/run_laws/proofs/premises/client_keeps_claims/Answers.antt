use Rattle.run_laws.proofs.CountersLeft.{client_keeps_claims}
use Rattle.run_laws.proofs.premises.client_keeps_claims.Goals as goal

pub returns : goal.returns
returns g c = client_keeps_claims g.C.Normalized.form
