use Rattle.run_knowledge.proofs.InRuns.MoveSteps.{moves_step}
use Rattle.run_knowledge.proofs.move_laws.moves_step.Goals as goal

pub returns : goal.returns
returns g c = moves_step g.C.Normalized.form
