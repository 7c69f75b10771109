use Rattle.step_knowledge.proofs.OfKinds.EachPhase.{steps_are_kinds}
use Rattle.step_knowledge.proofs.step_laws.steps_are_kinds.Goals as goal

pub returns : goal.returns
returns g c = steps_are_kinds g.C.Normalized.form g.met.C.Normalized.laws
