use Rattle.refuted_reports.proofs.Shown.{value_after}
use Rattle.refuted_reports.proofs.value_after_the_begin.Goals as goal

pub returns : goal.returns
returns c = value_after
