use Rattle.helper_knowledge.proofs.LawsOfHelpers.{work_is_kind}
use Rattle.helper_knowledge.proofs.knowledge_laws.work_is_kind.Goals as goal

pub returns : goal.returns
returns g c = work_is_kind g.C.Normalized.form g.met.C.Normalized.laws
