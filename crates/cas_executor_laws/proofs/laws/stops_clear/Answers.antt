use Rattle.cas_executor_laws.proofs.LawsOfWorlds.{stops_clear}
use Rattle.cas_executor_laws.proofs.laws.stops_clear.Goals as goal

pub returns : goal.returns
returns c = stops_clear
