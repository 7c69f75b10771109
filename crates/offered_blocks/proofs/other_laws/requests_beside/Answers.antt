use Rattle.offered_blocks.proofs.LawsOfBlocks.{requests_beside}
use Rattle.offered_blocks.proofs.other_laws.requests_beside.Goals as goal

pub returns : goal.returns
returns g c = requests_beside g.C.Normalized.form g.met.C.Normalized.laws
