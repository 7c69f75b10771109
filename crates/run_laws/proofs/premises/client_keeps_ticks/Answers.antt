use Rattle.run_laws.proofs.CountersLeft.{client_keeps_ticks}
use Rattle.run_laws.proofs.premises.client_keeps_ticks.Goals as goal

pub returns : goal.returns
returns g c = client_keeps_ticks g.C.Normalized.form
