use Rattle.run_exchanges.proofs.Kept.Induction.{runs_are_kept}
use Rattle.run_reports.proofs.Placed.Linearized.{files_linearizable}
use Rattle.run_reports.proofs.report_laws.files_linearizable.Goals as goal

pub returns : goal.returns
returns g c = files_linearizable g.C.Normalized.form g.met.C.Normalized.laws (runs_are_kept g.C.Normalized.form g.met.C.Normalized.laws)
