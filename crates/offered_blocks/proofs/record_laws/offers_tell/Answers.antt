use Rattle.offered_blocks.proofs.LawsOfBlocks.{offers_tell}
use Rattle.offered_blocks.proofs.record_laws.offers_tell.Goals as goal

pub returns : goal.returns
returns g c = offers_tell g.C.Normalized.form g.met.C.Normalized.laws
