use Rattle.run_world.proofs.Words.WordsAfterMoves.{world_words}
use Rattle.run_world.proofs.moves.world_words.Goals as goal

pub returns : goal.returns
returns g c = world_words g.C.Normalized.form
