use Rattle.offered_blocks.proofs.LawsOfBlocks.{late_wins_nothing}
use Rattle.offered_blocks.proofs.helper_laws.late_wins_nothing.Goals as goal

pub returns : goal.returns
returns g c = late_wins_nothing g.C.Normalized.form g.met.C.Normalized.laws
