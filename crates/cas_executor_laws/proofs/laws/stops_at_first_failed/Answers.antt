use Rattle.cas_executor_laws.proofs.LawsOfWorlds.{stops_at_first_failed}
use Rattle.cas_executor_laws.proofs.laws.stops_at_first_failed.Goals as goal

pub returns : goal.returns
returns c = stops_at_first_failed
