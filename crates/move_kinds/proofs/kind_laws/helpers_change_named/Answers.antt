use Rattle.move_kinds.proofs.LawsOfKinds.{helpers_change_named}
use Rattle.move_kinds.proofs.kind_laws.helpers_change_named.Goals as goal

pub returns : goal.returns
returns g c = helpers_change_named g.C.Normalized.form g.met.C.Normalized.laws
