use Rattle.cas_executor_laws.proofs.LawsOfWorlds.{failed_never}
use Rattle.cas_executor_laws.proofs.laws.failed_never.Goals as goal

pub returns : goal.returns
returns c = failed_never
