use Rattle.run_world.proofs.Words.Opens.{world_opens}
use Rattle.run_world.proofs.moves.world_opens.Goals as goal

pub returns : goal.returns
returns g c = world_opens g.C.Normalized.form
