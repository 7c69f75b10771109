use Rattle.run_hands.proofs.Blocks.Named.{offers_stay}
use Rattle.run_hands.proofs.hands.offers_stay.Goals as goal

pub returns : goal.returns
returns g c = offers_stay g.C.Normalized.form
