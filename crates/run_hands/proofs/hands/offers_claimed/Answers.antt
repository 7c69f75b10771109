use Rattle.run_hands.proofs.Blocks.Named.{offers_claimed}
use Rattle.run_hands.proofs.hands.offers_claimed.Goals as goal

pub returns : goal.returns
returns g c = offers_claimed g.C.Normalized.form
