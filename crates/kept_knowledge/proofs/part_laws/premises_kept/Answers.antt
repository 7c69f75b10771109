use Rattle.kept_knowledge.proofs.PartLaws.{premises_kept}
use Rattle.kept_knowledge.proofs.part_laws.premises_kept.Goals as goal

pub returns : goal.returns
returns g c = premises_kept g.C.Normalized.form g.met.C.Normalized.laws
