use Rattle.fast_slow_engine.proofs.LineOwners.{calls_end}
use Rattle.fast_slow_engine.proofs.lines.calls_end.Goals as goal

pub returns : goal.returns
returns g c = calls_end g.C.Normalized.form
