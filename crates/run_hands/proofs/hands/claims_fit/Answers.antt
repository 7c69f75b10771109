use Rattle.run_hands.proofs.Blocks.Counts.{claims_fit}
use Rattle.run_hands.proofs.hands.claims_fit.Goals as goal

pub returns : goal.returns
returns g c = claims_fit g.C.Normalized.form
