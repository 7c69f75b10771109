use Rattle.offered_blocks.proofs.LawsOfBlocks.{exchanges_keep}
use Rattle.offered_blocks.proofs.other_laws.exchanges_keep.Goals as goal

pub returns : goal.returns
returns g c = exchanges_keep g.C.Normalized.form g.met.C.Normalized.laws
