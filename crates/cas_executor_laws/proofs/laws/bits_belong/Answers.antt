use Rattle.cas_executor_laws.proofs.LawsOfWorlds.{bits_belong}
use Rattle.cas_executor_laws.proofs.laws.bits_belong.Goals as goal

pub returns : goal.returns
returns c = bits_belong
