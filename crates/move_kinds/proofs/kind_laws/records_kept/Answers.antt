use Rattle.move_kinds.proofs.LawsOfKinds.{records_kept}
use Rattle.move_kinds.proofs.kind_laws.records_kept.Goals as goal

pub returns : goal.returns
returns g c = records_kept g.C.Normalized.form g.met.C.Normalized.laws
