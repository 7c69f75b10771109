use Rattle.run_overtaking.proofs.OrderLaws.{events_ordered}
use Rattle.run_overtaking.proofs.counts.events_ordered.Goals as goal

pub returns : goal.returns
returns g c = events_ordered g.C.Normalized.form
