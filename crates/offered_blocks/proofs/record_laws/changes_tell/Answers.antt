use Rattle.offered_blocks.proofs.LawsOfBlocks.{changes_tell}
use Rattle.offered_blocks.proofs.record_laws.changes_tell.Goals as goal

pub returns : goal.returns
returns g c = changes_tell g.C.Normalized.form g.met.C.Normalized.laws
