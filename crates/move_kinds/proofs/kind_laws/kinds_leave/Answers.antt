use Rattle.move_kinds.proofs.LawsOfKinds.{kinds_leave}
use Rattle.move_kinds.proofs.kind_laws.kinds_leave.Goals as goal

pub returns : goal.returns
returns g c = kinds_leave g.C.Normalized.form g.met.C.Normalized.laws
