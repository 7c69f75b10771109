use Rattle.helper_knowledge.proofs.LawsOfHelpers.{wins_meet}
use Rattle.helper_knowledge.proofs.call_laws.wins_meet.Goals as goal

pub returns : goal.returns
returns g c = wins_meet g.C.Normalized.form g.met.C.Normalized.laws
