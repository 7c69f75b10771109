use Rattle.run_exchanges.proofs.Kept.Induction.{runs_are_kept}
use Rattle.run_reports.proofs.Placed.Moments.{ticks_drawn}
use Rattle.run_reports.proofs.history_laws.ticks_drawn.Goals as goal

pub returns : goal.returns
returns g c = ticks_drawn g.C.Normalized.form g.met.C.Normalized.laws (runs_are_kept g.C.Normalized.form g.met.C.Normalized.laws)
