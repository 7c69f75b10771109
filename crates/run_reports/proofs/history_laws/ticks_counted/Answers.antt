use Rattle.run_exchanges.proofs.Kept.Induction.{runs_are_kept}
use Rattle.run_reports.proofs.Placed.Moments.{ticks_counted}
use Rattle.run_reports.proofs.history_laws.ticks_counted.Goals as goal

pub returns : goal.returns
returns g c = ticks_counted g.C.Normalized.form g.met.C.Normalized.laws (runs_are_kept g.C.Normalized.form g.met.C.Normalized.laws)
