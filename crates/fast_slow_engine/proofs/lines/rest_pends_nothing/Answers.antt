use Rattle.fast_slow_engine.proofs.LineOwners.{rest_pends_nothing}
use Rattle.fast_slow_engine.proofs.lines.rest_pends_nothing.Goals as goal

pub returns : goal.returns
returns g c = rest_pends_nothing
