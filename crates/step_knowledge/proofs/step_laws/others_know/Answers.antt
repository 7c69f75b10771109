use Rattle.step_knowledge.proofs.Stays.OtherSeats.{others_know}
use Rattle.step_knowledge.proofs.step_laws.others_know.Goals as goal

pub returns : goal.returns
returns g c = others_know g.C.Normalized.form g.met.C.Normalized.laws
