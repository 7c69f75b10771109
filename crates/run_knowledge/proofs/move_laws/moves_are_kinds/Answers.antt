use Rattle.run_knowledge.proofs.InRuns.MovesKinds.{moves_are_kinds}
use Rattle.run_knowledge.proofs.move_laws.moves_are_kinds.Goals as goal

pub returns : goal.returns
returns g c = moves_are_kinds g.C.Normalized.form g.met.C.Normalized.laws
