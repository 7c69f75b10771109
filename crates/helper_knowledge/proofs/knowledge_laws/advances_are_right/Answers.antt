use Rattle.helper_knowledge.proofs.LawsOfHelpers.{advances_are_right}
use Rattle.helper_knowledge.proofs.knowledge_laws.advances_are_right.Goals as goal

pub returns : goal.returns
returns g c = advances_are_right g.C.Normalized.form g.met.C.Normalized.laws
