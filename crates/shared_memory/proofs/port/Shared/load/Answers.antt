use Rattle.std.proofs.Common.{ap}
use Rattle.shared_memory.proofs.port.Shared.load.Goals as goal

pub returns-clause-machine : goal.returns-clause-machine
returns-clause-machine g c = (c.step_as.result.won, ap (λ v. v.machine) c.step_as.ensures.view)
