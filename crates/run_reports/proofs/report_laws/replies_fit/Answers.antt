use Rattle.run_exchanges.proofs.Kept.Induction.{runs_are_kept}
use Rattle.run_reports.proofs.Placed.Linearized.{replies_all_fit}
use Rattle.run_reports.proofs.report_laws.replies_fit.Goals as goal

pub returns : goal.returns
returns g c = replies_all_fit g.C.Normalized.form g.met.C.Normalized.laws (runs_are_kept g.C.Normalized.form g.met.C.Normalized.laws)
