use Rattle.run_overtaking.proofs.EventRoom.{events_fit}
use Rattle.run_overtaking.proofs.counts.events_fit.Goals as goal

pub returns : goal.returns
returns g c = events_fit g.C.Normalized.form
