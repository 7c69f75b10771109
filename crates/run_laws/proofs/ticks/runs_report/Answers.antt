use Rattle.run_laws.proofs.ReceiptsAreReports.{runs_report}
use Rattle.run_laws.proofs.ticks.runs_report.Goals as goal

pub returns : goal.returns
returns g c = runs_report g.C.Normalized.form
