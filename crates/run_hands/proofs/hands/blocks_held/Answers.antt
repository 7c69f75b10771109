use Rattle.run_hands.proofs.Blocks.OwnBlocks.{blocks_held}
use Rattle.run_hands.proofs.hands.blocks_held.Goals as goal

pub returns : goal.returns
returns g c = blocks_held g.C.Normalized.form
