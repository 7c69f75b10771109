use Rattle.refuted_reports.proofs.Shown.{empty_before}
use Rattle.refuted_reports.proofs.empty_before_the_end.Goals as goal

pub returns : goal.returns
returns c = empty_before
