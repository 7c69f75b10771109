use Rattle.offered_blocks.proofs.LawsOfBlocks.{shown_takes}
use Rattle.offered_blocks.proofs.helper_laws.shown_took.Goals as goal

pub returns : goal.returns
returns g c = shown_takes g.C.Normalized.form g.met.C.Normalized.laws
