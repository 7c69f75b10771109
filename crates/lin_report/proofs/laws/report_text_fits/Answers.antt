use Rattle.lin_report.proofs.TextsFit.{report_text_fits}
use Rattle.lin_report.proofs.laws.report_text_fits.Goals as goal

pub returns : goal.returns
returns c = report_text_fits
