use Rattle.cas_executor_laws.proofs.LawsOfWorlds.{wins_once}
use Rattle.cas_executor_laws.proofs.laws.wins_once.Goals as goal

pub returns : goal.returns
returns c = wins_once
