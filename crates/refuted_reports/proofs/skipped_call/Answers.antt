use Rattle.refuted_reports.proofs.Leaving.{skipped}
use Rattle.refuted_reports.proofs.skipped_call.Goals as goal

pub returns : goal.returns
returns c = skipped
