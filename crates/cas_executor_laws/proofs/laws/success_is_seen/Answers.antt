use Rattle.cas_executor_laws.proofs.LawsOfWorlds.{success_is_seen}
use Rattle.cas_executor_laws.proofs.laws.success_is_seen.Goals as goal

pub returns : goal.returns
returns c = success_is_seen
