use Rattle.kept_knowledge.proofs.PartLaws.{versions_kept}
use Rattle.kept_knowledge.proofs.part_laws.versions_kept.Goals as goal

pub returns : goal.returns
returns g c = versions_kept g.C.Normalized.form g.met.C.Normalized.laws
