use Rattle.offered_blocks.proofs.LawsOfBlocks.{runs_help}
use Rattle.offered_blocks.proofs.helper_laws.runs_help.Goals as goal

pub returns : goal.returns
returns g c = runs_help g.C.Normalized.form g.met.C.Normalized.laws
