use Rattle.run_invariant.proofs.Kept.Induction.{runs_are_kept}
use Rattle.run_invariant.proofs.runs.runs_are_kept.Goals as goal

pub returns : goal.returns
returns g c = runs_are_kept g.C.Normalized.form g.met.C.Normalized.laws
