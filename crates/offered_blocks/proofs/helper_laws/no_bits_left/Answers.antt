use Rattle.offered_blocks.proofs.LawsOfBlocks.{no_bits_left}
use Rattle.offered_blocks.proofs.helper_laws.no_bits_left.Goals as goal

pub returns : goal.returns
returns g c = no_bits_left g.C.Normalized.form g.met.C.Normalized.laws
