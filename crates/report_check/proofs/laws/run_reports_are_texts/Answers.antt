use Rattle.report_check.proofs.CallsRead.RunReports as run
use Rattle.report_check.proofs.laws.run_reports_are_texts.Goals as goal

pub returns : goal.returns
returns c = run.run_reports_are_texts
