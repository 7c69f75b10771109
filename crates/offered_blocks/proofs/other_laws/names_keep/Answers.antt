use Rattle.offered_blocks.proofs.LawsOfBlocks.{names_keep}
use Rattle.offered_blocks.proofs.other_laws.names_keep.Goals as goal

pub returns : goal.returns
returns g c = names_keep g.C.Normalized.form g.met.C.Normalized.laws
