use Rattle.offered_blocks.proofs.LawsOfBlocks.{records_keep}
use Rattle.offered_blocks.proofs.other_laws.records_keep.Goals as goal

pub returns : goal.returns
returns g c = records_keep g.C.Normalized.form g.met.C.Normalized.laws
