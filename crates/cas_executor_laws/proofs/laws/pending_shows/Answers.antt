use Rattle.cas_executor_laws.proofs.LawsOfWorlds.{pending_shows}
use Rattle.cas_executor_laws.proofs.laws.pending_shows.Goals as goal

pub returns : goal.returns
returns c = pending_shows
