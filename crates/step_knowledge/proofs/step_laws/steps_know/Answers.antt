use Rattle.step_knowledge.proofs.Goes.EachPhase.{steps_know}
use Rattle.step_knowledge.proofs.step_laws.steps_know.Goals as goal

pub returns : goal.returns
returns g c = steps_know g.C.Normalized.form g.met.C.Normalized.laws
