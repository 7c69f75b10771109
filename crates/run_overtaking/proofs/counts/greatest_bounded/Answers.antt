use Rattle.run_overtaking.proofs.EventLaws.{greatest_bounded}
use Rattle.run_overtaking.proofs.counts.greatest_bounded.Goals as goal

pub returns : goal.returns
returns g c = greatest_bounded g.C.Normalized.form
