use Rattle.helper_knowledge.proofs.LawsOfHelpers.{numbers_below}
use Rattle.helper_knowledge.proofs.call_laws.numbers_below.Goals as goal

pub returns : goal.returns
returns g c = numbers_below g.C.Normalized.form g.met.C.Normalized.laws
