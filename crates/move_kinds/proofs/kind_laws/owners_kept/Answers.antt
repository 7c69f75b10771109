use Rattle.move_kinds.proofs.LawsOfKinds.{owners_kept}
use Rattle.move_kinds.proofs.kind_laws.owners_kept.Goals as goal

pub returns : goal.returns
returns g c = owners_kept g.C.Normalized.form g.met.C.Normalized.laws
