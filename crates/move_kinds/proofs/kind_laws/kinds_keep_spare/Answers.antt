use Rattle.move_kinds.proofs.LawsOfKinds.{kinds_keep_spare}
use Rattle.move_kinds.proofs.kind_laws.kinds_keep_spare.Goals as goal

pub returns : goal.returns
returns g c = kinds_keep_spare g.C.Normalized.form g.met.C.Normalized.laws
