use Rattle.run_exchanges.proofs.Kept.Induction.{runs_are_kept}
use Rattle.run_reports.proofs.Placed.Linearized.{exhausted_only_where}
use Rattle.run_reports.proofs.report_laws.exhausted_only.Goals as goal

pub returns : goal.returns
returns g c = exhausted_only_where g.C.Normalized.form g.met.C.Normalized.laws (runs_are_kept g.C.Normalized.form g.met.C.Normalized.laws)
