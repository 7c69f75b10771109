use Rattle.run_knowledge.proofs.InRuns.Unannounced.{movers_before}
use Rattle.run_knowledge.proofs.move_laws.movers_before.Goals as goal

pub returns : goal.returns
returns g c = movers_before g.C.Normalized.form
