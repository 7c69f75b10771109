use Rattle.run_invariant.proofs.Kept.Agreed.{blocks_agreed}
use Rattle.run_invariant.proofs.Kept.Induction.{runs_are_kept}
use Rattle.run_invariant.proofs.runs.blocks_agreed.Goals as goal

pub returns : goal.returns
returns g c = blocks_agreed g.C.Normalized.form g.met.C.Normalized.laws (runs_are_kept g.C.Normalized.form g.met.C.Normalized.laws)
