use Rattle.cas_executor_laws.proofs.LawsOfWorlds.{earlier_done}
use Rattle.cas_executor_laws.proofs.laws.earlier_done.Goals as goal

pub returns : goal.returns
returns c = earlier_done
