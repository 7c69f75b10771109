use Rattle.run_hands.proofs.Blocks.Used.{used_claimed}
use Rattle.run_hands.proofs.hands.used_claimed.Goals as goal

pub returns : goal.returns
returns g c = used_claimed g.C.Normalized.form
