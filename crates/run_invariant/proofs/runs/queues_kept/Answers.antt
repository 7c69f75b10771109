use Rattle.run_invariant.proofs.Kept.Induction.{runs_are_kept}
use Rattle.run_invariant.proofs.Kept.EveryRun.{queues_kept}
use Rattle.run_invariant.proofs.runs.queues_kept.Goals as goal

pub returns : goal.returns
returns g c = queues_kept g.C.Normalized.form g.met.C.Normalized.laws (runs_are_kept g.C.Normalized.form g.met.C.Normalized.laws)
