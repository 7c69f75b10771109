use Rattle.run_overtaking.proofs.EventLaws.{overtaken_bounded}
use Rattle.run_overtaking.proofs.counts.overtaken_bounded.Goals as goal

pub returns : goal.returns
returns g c = overtaken_bounded g.C.Normalized.form
