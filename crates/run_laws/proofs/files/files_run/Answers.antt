use Rattle.run_laws.proofs.CommandsMade.{files_run}
use Rattle.run_laws.proofs.files.files_run.Goals as goal

pub returns : goal.returns
returns g c = files_run g.C.Normalized.form
