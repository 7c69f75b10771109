use Rattle.lin_report.specs.Object.{object_of}
use Rattle.lin_report.proofs.Sequences.{object_answers}
use Rattle.lin_report.proofs.Alone.{alone_is_report}
use Rattle.lin_report.proofs.laws.sequential_report_is_report.Goals as goal

pub returns : goal.returns
returns c client ops = alone_is_report (object_of client) (object_answers client) ops
