use Rattle.offered_blocks.proofs.LawsOfBlocks.{leaves_keep}
use Rattle.offered_blocks.proofs.other_laws.leaves_keep.Goals as goal

pub returns : goal.returns
returns g c = leaves_keep g.C.Normalized.form g.met.C.Normalized.laws
