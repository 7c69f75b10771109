use Rattle.cas_executor_laws.proofs.LawsOfWorlds.{succeeded_took}
use Rattle.cas_executor_laws.proofs.laws.succeeded_took.Goals as goal

pub returns : goal.returns
returns c = succeeded_took
