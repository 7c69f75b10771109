use Rattle.offered_blocks.proofs.LawsOfBlocks.{helpers_keep}
use Rattle.offered_blocks.proofs.helper_laws.helpers_keep.Goals as goal

pub returns : goal.returns
returns g c = helpers_keep g.C.Normalized.form g.met.C.Normalized.laws
