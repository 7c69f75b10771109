use Rattle.offered_blocks.proofs.LawsOfBlocks.{stores_keep}
use Rattle.offered_blocks.proofs.other_laws.stores_keep.Goals as goal

pub returns : goal.returns
returns g c = stores_keep g.C.Normalized.form g.met.C.Normalized.laws
