use Rattle.run_exchanges.proofs.Kept.Induction.{runs_are_kept}
use Rattle.run_reports.proofs.Placed.Moments.{calls_ended}
use Rattle.run_reports.proofs.history_laws.calls_ended.Goals as goal

pub returns : goal.returns
returns g c = calls_ended g.C.Normalized.form g.met.C.Normalized.laws (runs_are_kept g.C.Normalized.form g.met.C.Normalized.laws)
