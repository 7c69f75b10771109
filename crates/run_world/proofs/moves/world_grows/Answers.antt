use Rattle.run_world.proofs.Words.Grow.{world_grows}
use Rattle.run_world.proofs.moves.world_grows.Goals as goal

pub returns : goal.returns
returns g c = world_grows g.C.Normalized.form
