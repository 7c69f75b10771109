use Rattle.report_check.proofs.LineTexts.CallsOnLines.{tells}
use Rattle.report_check.proofs.call_lines.read_call_line.Goals as goal

pub returns : goal.returns
returns c = tells c.args.client c.args.line.now c.call_at.result c.call_at.ensures
