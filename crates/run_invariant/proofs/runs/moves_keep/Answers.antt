use Rattle.run_invariant.proofs.Kept.Induction.{moves_keep}
use Rattle.run_invariant.proofs.runs.moves_keep.Goals as goal

pub returns : goal.returns
returns g c = moves_keep g.C.Normalized.form g.met.C.Normalized.laws
