use Rattle.run_hands.proofs.Blocks.Counts.{queue_kept}
use Rattle.run_hands.proofs.hands.queue_kept.Goals as goal

pub returns : goal.returns
returns g c = queue_kept g.C.Normalized.form
