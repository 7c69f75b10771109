use Rattle.offered_blocks.proofs.LawsOfBlocks.{stops_agree}
use Rattle.offered_blocks.proofs.helper_laws.stops_agree.Goals as goal

pub returns : goal.returns
returns g c = stops_agree g.C.Normalized.form g.met.C.Normalized.laws
