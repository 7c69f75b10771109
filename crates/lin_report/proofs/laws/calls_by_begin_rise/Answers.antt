use Rattle.lin_report.proofs.Sorted.{by_begin_sorts}
use Rattle.lin_report.proofs.laws.calls_by_begin_rise.Goals as goal

pub returns : goal.returns
returns c = by_begin_sorts
