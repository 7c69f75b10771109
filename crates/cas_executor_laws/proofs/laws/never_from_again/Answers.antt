use Rattle.cas_executor_laws.proofs.LawsOfWorlds.{never_from_again}
use Rattle.cas_executor_laws.proofs.laws.never_from_again.Goals as goal

pub returns : goal.returns
returns c = never_from_again
