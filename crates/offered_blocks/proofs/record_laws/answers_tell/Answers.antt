use Rattle.offered_blocks.proofs.LawsOfBlocks.{answers_tell}
use Rattle.offered_blocks.proofs.record_laws.answers_tell.Goals as goal

pub returns : goal.returns
returns g c = answers_tell g.C.Normalized.form g.met.C.Normalized.laws
