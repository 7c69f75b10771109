use Rattle.run_invariant.proofs.Kept.Induction.{runs_are_kept}
use Rattle.run_invariant.proofs.Kept.EveryRun.{counters_kept}
use Rattle.run_invariant.proofs.runs.counters_kept.Goals as goal

pub returns : goal.returns
returns g c = counters_kept g.C.Normalized.form g.met.C.Normalized.laws (runs_are_kept g.C.Normalized.form g.met.C.Normalized.laws)
