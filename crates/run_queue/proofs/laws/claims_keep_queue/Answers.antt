use Rattle.run_queue.proofs.Blocks.HandLaws.{claims_keep_queue}
use Rattle.run_queue.proofs.laws.claims_keep_queue.Goals as goal

pub returns : goal.returns
returns g c = claims_keep_queue g.C.Normalized.form
