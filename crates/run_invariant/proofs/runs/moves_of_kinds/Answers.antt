use Rattle.run_invariant.proofs.Kept.Induction.{runs_are_kept}
use Rattle.run_invariant.proofs.Kept.EveryRun.{moves_of_kinds}
use Rattle.run_invariant.proofs.runs.moves_of_kinds.Goals as goal

pub returns : goal.returns
returns g c = moves_of_kinds g.C.Normalized.form g.met.C.Normalized.laws (runs_are_kept g.C.Normalized.form g.met.C.Normalized.laws)
