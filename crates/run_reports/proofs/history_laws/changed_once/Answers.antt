use Rattle.run_exchanges.proofs.Kept.Induction.{runs_are_kept}
use Rattle.run_reports.proofs.Placed.Moments.{changed_once}
use Rattle.run_reports.proofs.history_laws.changed_once.Goals as goal

pub returns : goal.returns
returns g c = changed_once g.C.Normalized.form g.met.C.Normalized.laws (runs_are_kept g.C.Normalized.form g.met.C.Normalized.laws)
