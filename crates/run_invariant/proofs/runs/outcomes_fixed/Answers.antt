use Rattle.run_invariant.proofs.Kept.Agreed.{outcomes_fixed}
use Rattle.run_invariant.proofs.Kept.Induction.{runs_are_kept}
use Rattle.run_invariant.proofs.runs.outcomes_fixed.Goals as goal

pub returns : goal.returns
returns g c = outcomes_fixed g.C.Normalized.form g.met.C.Normalized.laws (runs_are_kept g.C.Normalized.form g.met.C.Normalized.laws)
