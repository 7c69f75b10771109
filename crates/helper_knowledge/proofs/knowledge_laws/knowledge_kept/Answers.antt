use Rattle.helper_knowledge.proofs.LawsOfHelpers.{knowledge_kept}
use Rattle.helper_knowledge.proofs.knowledge_laws.knowledge_kept.Goals as goal

pub returns : goal.returns
returns g c = knowledge_kept g.C.Normalized.form g.met.C.Normalized.laws
