use Rattle.run_reports.proofs.Placed.Moments.{history_grows}
use Rattle.run_reports.proofs.history_laws.history_grows.Goals as goal

pub returns : goal.returns
returns g c = history_grows g.C.Normalized.form
