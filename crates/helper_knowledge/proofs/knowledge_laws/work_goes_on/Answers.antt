use Rattle.helper_knowledge.proofs.LawsOfHelpers.{work_goes_on}
use Rattle.helper_knowledge.proofs.knowledge_laws.work_goes_on.Goals as goal

pub returns : goal.returns
returns g c = work_goes_on g.C.Normalized.form g.met.C.Normalized.laws
