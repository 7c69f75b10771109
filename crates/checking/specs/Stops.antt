-- Why a check ends without a verdict, and what it says then.
use Rattle.std.specs.Prelude.{ℕ, List}
use Rattle.script_reader.specs.declared.causes.Cause.TheVariants.{FileTooLong}
use Rattle.script_reader.specs.declared.causes.ScriptFault.{ScriptFault}
use Rattle.script_reader.specs.declared.causes.ScriptFault.TheVariants as script
use Rattle.script_reader.specs.Outcomes.{cause_number}
use Rattle.command_line.specs.Lines.{NO_MEMORY_LINE, USAGE_LINE, refused_line, unread_line}
use Rattle.report_check.specs.declared.reports.ReportFault.{ReportFault}
use Rattle.report_check.specs.declared.reports.ReportFault.TheVariants as report
use Rattle.checking.specs.declared.checked.CheckedFile.{CheckedFile}
use Rattle.checking.specs.declared.checked.CheckedFile.TheVariants as file
use Rattle.checking.specs.declared.checked.NotAccepted.{NotAccepted}
use Rattle.checking.specs.declared.checked.NotAccepted.TheVariants.{LongReport, ReportLine, Order}
use Rattle.checking.specs.declared.stops.Stop.{Stop}
use Rattle.checking.specs.declared.stops.Stop.TheVariants.{Usage, Refused, ReadFault, NoMemory}

-- the number by which messages name a file
abbrev pub file_number : CheckedFile → ℕ
file_number file.Report = 0
file_number file.Order = 1

-- which file is not accepted, at which line, and with which cause: the length of a file is told of line 0 with the
-- cause of a script that is too long, and a line of a report has the one cause 7
abbrev pub file_of : NotAccepted → CheckedFile
file_of LongReport = file.Report
file_of (ReportLine line) = file.Report
file_of (Order refusal) = file.Order

abbrev pub line_of : NotAccepted → ℕ
line_of LongReport = 0
line_of (ReportLine line) = line
line_of (Order refusal) = refusal.line

abbrev pub cause_of : NotAccepted → ℕ
cause_of LongReport = cause_number FileTooLong
cause_of (ReportLine line) = 7
cause_of (Order refusal) = cause_number refusal.cause

-- why a check stops at a report that is at fault, and at an order that is refused
abbrev pub stop_for_report : ReportFault → Stop
stop_for_report report.TooLong = Refused LongReport
stop_for_report (report.AtFault line) = Refused (ReportLine line)
stop_for_report report.NoMemory = NoMemory

abbrev pub stop_for_order : ScriptFault → Stop
stop_for_order (script.Refused refusal) = Refused (Order refusal)
stop_for_order script.NoMemory = NoMemory

-- the status of a stop
abbrev pub status_of : Stop → ℕ
status_of Usage = 2
status_of (Refused why) = 3
status_of (ReadFault file) = 4
status_of NoMemory = 6

-- the line that is written for each
abbrev pub refused_message : NotAccepted → List ℕ
refused_message why = refused_line (file_number (file_of why)) (line_of why) (cause_of why)

abbrev pub unread_message : CheckedFile → List ℕ
unread_message file = unread_line (file_number file)

abbrev pub message_of : Stop → List ℕ
message_of Usage = USAGE_LINE
message_of (Refused why) = refused_message why
message_of (ReadFault file) = unread_message file
message_of NoMemory = NO_MEMORY_LINE
