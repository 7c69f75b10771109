-- Why a top call ends without a report, and what it says then.
use Rattle.std.specs.Prelude.{ℕ, List}
use Rattle.script_reader.specs.declared.causes.Refusal.{Refusal}
use Rattle.script_reader.specs.Outcomes.{cause_number}
use Rattle.command_line.specs.Lines.{NO_MEMORY_LINE, USAGE_LINE, refused_line, unread_line}
use Rattle.client_reports.specs.declared.no_report.NoReport.{NoReport}
use Rattle.client_reports.specs.declared.no_report.NoReport.TheVariants as no
use Rattle.nwf_run.specs.declared.stops.Stop.{Stop}
use Rattle.nwf_run.specs.declared.stops.Stop.TheVariants.{Usage, Refused, ReadFault, NoMemory}

-- a top call stops where bytes have no report
abbrev pub stop_for : NoReport → Stop
stop_for (no.Refused file refusal) = Refused file refusal
stop_for no.NoMemory = NoMemory

-- the status of a stop
abbrev pub status_of : Stop → ℕ
status_of Usage = 2
status_of (Refused file refusal) = 3
status_of (ReadFault file) = 4
status_of NoMemory = 6

-- the line that is written for each
abbrev pub refused_message : ℕ → Refusal → List ℕ
refused_message file refusal = refused_line file refusal.line (cause_number refusal.cause)

abbrev pub message_of : Stop → List ℕ
message_of Usage = USAGE_LINE
message_of (Refused file refusal) = refused_message file refusal
message_of (ReadFault file) = unread_line file
message_of NoMemory = NO_MEMORY_LINE
