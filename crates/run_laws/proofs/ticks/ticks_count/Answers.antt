use Rattle.run_laws.proofs.TicksCounted.{ticks_count}
use Rattle.run_laws.proofs.ticks.ticks_count.Goals as goal

pub returns : goal.returns
returns g c = ticks_count g.C.Normalized.form
