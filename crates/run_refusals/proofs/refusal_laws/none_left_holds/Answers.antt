use Rattle.run_invariant.proofs.Kept.Induction.{runs_are_kept}
use Rattle.run_refusals.proofs.Exhausted.Kept.{none_left_holds}
use Rattle.run_refusals.proofs.refusal_laws.none_left_holds.Goals as goal

pub returns : goal.returns
returns g c = none_left_holds g.C.Normalized.form g.met.C.Normalized.laws (runs_are_kept g.C.Normalized.form g.met.C.Normalized.laws)
