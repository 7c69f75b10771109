use Rattle.refuted_reports.proofs.Orders.{value_before}
use Rattle.refuted_reports.proofs.value_before_put.Goals as goal

pub returns : goal.returns
returns c = value_before
