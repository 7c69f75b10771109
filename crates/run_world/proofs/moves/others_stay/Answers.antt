use Rattle.run_world.proofs.Words.Grow.{others_stay}
use Rattle.run_world.proofs.moves.others_stay.Goals as goal

pub returns : goal.returns
returns g c = others_stay g.C.Normalized.form
