use Rattle.move_kinds.proofs.LawsOfKinds.{kinds_keep_contents}
use Rattle.move_kinds.proofs.kind_laws.kinds_keep_contents.Goals as goal

pub returns : goal.returns
returns g c = kinds_keep_contents g.C.Normalized.form g.met.C.Normalized.laws
