use Rattle.run_hands.proofs.Blocks.Spare.{hands_spare}
use Rattle.run_hands.proofs.hands.hands_spare.Goals as goal

pub returns : goal.returns
returns g c = hands_spare g.C.Normalized.form
