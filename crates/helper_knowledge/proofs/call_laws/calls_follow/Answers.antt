use Rattle.helper_knowledge.proofs.LawsOfHelpers.{calls_follow}
use Rattle.helper_knowledge.proofs.call_laws.calls_follow.Goals as goal

pub returns : goal.returns
returns g c = calls_follow g.C.Normalized.form g.met.C.Normalized.laws
