use Rattle.kept_knowledge.proofs.PartLaws.{machines_know}
use Rattle.kept_knowledge.proofs.part_laws.machines_know.Goals as goal

pub returns : goal.returns
returns g c = machines_know g.C.Normalized.form g.met.C.Normalized.laws
