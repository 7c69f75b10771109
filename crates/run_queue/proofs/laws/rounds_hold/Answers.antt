use Rattle.run_queue.proofs.Blocks.RoundLaws.{rounds_hold}
use Rattle.run_queue.proofs.laws.rounds_hold.Goals as goal

pub returns : goal.returns
returns g c = rounds_hold g.C.Normalized.form
