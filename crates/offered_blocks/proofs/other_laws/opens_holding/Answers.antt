use Rattle.offered_blocks.proofs.LawsOfBlocks.{opens_holding}
use Rattle.offered_blocks.proofs.other_laws.opens_holding.Goals as goal

pub returns : goal.returns
returns g c = opens_holding g.C.Normalized.form g.met.C.Normalized.laws
