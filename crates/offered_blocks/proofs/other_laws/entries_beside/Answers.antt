use Rattle.offered_blocks.proofs.LawsOfBlocks.{entries_beside}
use Rattle.offered_blocks.proofs.other_laws.entries_beside.Goals as goal

pub returns : goal.returns
returns g c = entries_beside g.C.Normalized.form g.met.C.Normalized.laws
