use Rattle.refuted_reports.proofs.Orders.{empty_after}
use Rattle.refuted_reports.proofs.empty_after_put.Goals as goal

pub returns : goal.returns
returns c = empty_after
