use Rattle.run_invariant.proofs.Kept.Induction.{runs_are_kept}
use Rattle.run_invariant.proofs.Kept.EveryRun.{moves_allowed}
use Rattle.run_invariant.proofs.runs.moves_allowed.Goals as goal

pub returns : goal.returns
returns g c = moves_allowed g.C.Normalized.form g.met.C.Normalized.laws (runs_are_kept g.C.Normalized.form g.met.C.Normalized.laws)
