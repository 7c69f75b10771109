use Rattle.helper_knowledge.proofs.LawsOfHelpers.{filled_holds}
use Rattle.helper_knowledge.proofs.knowledge_laws.filled_holds.Goals as goal

pub returns : goal.returns
returns g c = filled_holds g.C.Normalized.form g.met.C.Normalized.laws
