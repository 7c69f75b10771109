use Rattle.refuted_reports.proofs.Leaving.{another}
use Rattle.refuted_reports.proofs.another_command.Goals as goal

pub returns : goal.returns
returns c = another
