use Rattle.cas_executor_laws.proofs.LawsOfWorlds.{stops_agree}
use Rattle.cas_executor_laws.proofs.laws.stops_agree.Goals as goal

pub returns : goal.returns
returns c = stops_agree
