use Rattle.kept_knowledge.proofs.PartLaws.{openings_kept}
use Rattle.kept_knowledge.proofs.part_laws.openings_kept.Goals as goal

pub returns : goal.returns
returns g c = openings_kept g.C.Normalized.form g.met.C.Normalized.laws
