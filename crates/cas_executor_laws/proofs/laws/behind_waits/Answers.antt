use Rattle.cas_executor_laws.proofs.LawsOfWorlds.{behind_waits}
use Rattle.cas_executor_laws.proofs.laws.behind_waits.Goals as goal

pub returns : goal.returns
returns c = behind_waits
