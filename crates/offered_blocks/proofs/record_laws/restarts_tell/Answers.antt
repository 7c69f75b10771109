use Rattle.offered_blocks.proofs.LawsOfBlocks.{restarts_tell}
use Rattle.offered_blocks.proofs.record_laws.restarts_tell.Goals as goal

pub returns : goal.returns
returns g c = restarts_tell g.C.Normalized.form g.met.C.Normalized.laws
