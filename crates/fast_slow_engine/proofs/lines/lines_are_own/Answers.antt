use Rattle.fast_slow_engine.proofs.LineOwners.{lines_are_own}
use Rattle.fast_slow_engine.proofs.lines.lines_are_own.Goals as goal

pub returns : goal.returns
returns g c = lines_are_own
