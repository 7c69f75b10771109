use Rattle.helper_knowledge.proofs.LawsOfHelpers.{named_kept}
use Rattle.helper_knowledge.proofs.knowledge_laws.named_kept.Goals as goal

pub returns : goal.returns
returns g c = named_kept g.C.Normalized.form g.met.C.Normalized.laws
