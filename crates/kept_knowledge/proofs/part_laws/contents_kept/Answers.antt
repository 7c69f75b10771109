use Rattle.kept_knowledge.proofs.PartLaws.{contents_kept}
use Rattle.kept_knowledge.proofs.part_laws.contents_kept.Goals as goal

pub returns : goal.returns
returns g c = contents_kept g.C.Normalized.form g.met.C.Normalized.laws
