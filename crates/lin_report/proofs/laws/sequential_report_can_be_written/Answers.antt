use Rattle.lin_report.proofs.Written.{can_be_written}
use Rattle.lin_report.proofs.laws.sequential_report_can_be_written.Goals as goal

pub returns : goal.returns
returns c = can_be_written
