use Rattle.cas_executor_laws.proofs.LawsOfWorlds.{failure_is_seen}
use Rattle.cas_executor_laws.proofs.laws.failure_is_seen.Goals as goal

pub returns : goal.returns
returns c = failure_is_seen
