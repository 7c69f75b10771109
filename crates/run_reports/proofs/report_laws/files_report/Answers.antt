use Rattle.run_exchanges.proofs.Kept.Induction.{runs_are_kept}
use Rattle.run_reports.proofs.Placed.Placeable.{files_report}
use Rattle.run_reports.proofs.report_laws.files_report.Goals as goal

pub returns : goal.returns
returns g c = files_report g.C.Normalized.form g.met.C.Normalized.laws (runs_are_kept g.C.Normalized.form g.met.C.Normalized.laws)
