use Rattle.run_laws.proofs.ReceiptsAreReports.{ticks_once}
use Rattle.run_laws.proofs.ticks.ticks_once.Goals as goal

pub returns : goal.returns
returns g c = ticks_once g.C.Normalized.form
