use Rattle.lin_report.specs.Text.{report_text}
use Rattle.lin_report.proofs.Rooms.{Appends-trans}
use Rattle.lin_report.proofs.report.write_report.Goals as goal

-- the lines of the calls, and then the summary line
pub returns-clause-text : goal.returns-clause-text
unfolding report_text
returns-clause-text c = (Appends-trans c.append_lines.ensures.text c.append_summary.ensures).items
