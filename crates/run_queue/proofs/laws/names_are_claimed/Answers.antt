use Rattle.run_queue.proofs.Blocks.HandLaws.{names_are_claimed}
use Rattle.run_queue.proofs.laws.names_are_claimed.Goals as goal

pub returns : goal.returns
returns g c = names_are_claimed g.C.Normalized.form
