-- Reports as they are read: the lines of calls in order, and behind them the summary line of these calls.
use Rattle.std.specs.Prelude.{◌≡◌, ◌⊎◌, ℕ, ◌+◌, ◌<◌, ◌≤◌, ◌==◌, Bool, true, false, if◌then◌else◌, nat_lt, Option, Some, None, List, [], ◌∷◌, ◌++◌, length, take, drop, slice_index_or, codes, IfSome, MatchOption, All, Result, Ok, Err}
use Rattle.std.specs.List.{list_any, filter_map}
use Rattle.std.specs.Str.{bytes_eq}
use Rattle.lin_report.specs.declared.calls.Client.{Client}
use Rattle.lin_report.specs.declared.calls.Op.{Op}
use Rattle.lin_report.specs.declared.calls.Reply.{Reply}
use Rattle.lin_report.specs.declared.calls.Receipt.{Receipt}
use Rattle.lin_report.specs.declared.calls.PendingCall.{PendingCall}
use Rattle.lin_report.specs.Calls.{Call, Report, report_of, calls_of}
use Rattle.lin_report.specs.CommandFiles.{IsCommandFile}
use Rattle.lin_report.specs.Report.{IsReport}
use Rattle.lin_report.specs.Text.{by_begin, summary_text, report_text}
use Rattle.lin_report.specs.Writing.{CanWrite}
use Rattle.lin_report.specs.Object.{object_of}
use Rattle.report_check.specs.declared.parting.ReadReport.{ReadReport}
use Rattle.report_check.specs.declared.reports.ReportFault.{ReportFault}
use Rattle.report_check.specs.declared.reports.ReportFault.TheVariants.{TooLong, AtFault, NoMemory}
use Rattle.report_check.specs.CallLines.{◌>>=◌, line_at, plain_number}
use Rattle.report_check.specs.Beginnings.{has_tick, AreInOrder, BeginsWith}

-- bytes of a report
abbrev pub REPORT_LIMIT : ℕ
REPORT_LIMIT = 33554048

-- how often eight seats can overtake one call
abbrev pub MOST_OVERTAKEN : ℕ
MOST_OVERTAKEN = 56

-- the receipt of a call with this answer
abbrev pub receipt_with : Call → Option (Reply × ℕ) → Option Receipt
receipt_with c None = None
receipt_with c (Some answer) = Some (record { seat = c.seat; number = c.number; op = c.op; reply = answer.0; begin = c.begin; end = answer.1; path = c.path })

-- the receipt of a call, if it was answered
abbrev pub receipt_in : Call → Option Receipt
receipt_in c = receipt_with c c.answer

-- a call with this answer, as one that waits for one
abbrev pub waiting_with : Call → Option (Reply × ℕ) → Option PendingCall
waiting_with c None = Some (record { seat = c.seat; number = c.number; op = c.op; begin = c.begin; path = c.path })
waiting_with c (Some answer) = None

-- a call that is pending
abbrev pub waiting_in : Call → Option PendingCall
waiting_in c = waiting_with c c.answer

-- the report of the calls on these lines
abbrev pub report_from : List Call → Report
report_from calls = report_of (filter_map receipt_in calls) (filter_map waiting_in calls)

-- a tick for each begin, and one for each end
abbrev pub ticks_drawn : List Call → ℕ
ticks_drawn calls = length calls + length (filter_map receipt_in calls)

-- no tick is left out: of calls in order each has its own ones, so they draw the numbers below their count, each once
abbrev pub AreWhole : List Call → Type 0
AreWhole calls = (tick : ℕ) → tick < ticks_drawn calls → list_any (has_tick tick) calls ≡ true

-- the overtaking count of a summary, if it tells one
abbrev pub MayTell : Option ℕ → Type 0
MayTell overtaken = IfSome overtaken (λ most. most ≤ MOST_OVERTAKEN)

-- the bytes begin with the summary line of these calls, and this stands behind it
pub record HasSummary (calls : List Call) (bytes : List ℕ) (overtaken : Option ℕ) (rest : List ℕ) : Type 0 where
  pub whole : AreWhole calls
  pub few : MayTell overtaken
  pub text : bytes ≡ summary_text (report_from calls) overtaken ++ rest

-- what is told and what stands behind it; or no summary line of these calls is there
abbrev pub TellsSummary : List Call → List ℕ → Option (Option ℕ × List ℕ) → Type 0
TellsSummary calls bytes found = MatchOption found ((overtaken : Option ℕ) (rest : List ℕ) → ¬ HasSummary calls bytes overtaken rest) (λ s. HasSummary calls bytes s.0 s.1)

-- what a reader of the summary is told of the calls on the lines: their report, which ticks they drew, and how many
pub record KnowsCalls (calls : List Call) (report : Report) (ticks : List Bool) (count : ℕ) : Type 0 where
  pub parted : report ≡ report_from calls
  pub drawn : (tick : ℕ) → slice_index_or ticks tick false ≡ list_any (has_tick tick) calls
  pub counted : count ≡ ticks_drawn calls

-- the bytes are the text of this report of calls of the client
pub record IsReportText (client : Client) (bytes : List ℕ) (report : Report) (overtaken : Option ℕ) : Type 0 where
  pub short : length bytes ≤ REPORT_LIMIT
  pub text : bytes ≡ report_text report overtaken
  pub can : CanWrite report overtaken
  pub few : MayTell overtaken
  pub in_order : AreInOrder client [] (by_begin (calls_of report))
  pub whole : AreWhole (by_begin (calls_of report))

-- the same, whatever overtaking count they tell
pub record IsTextOf (client : Client) (bytes : List ℕ) (report : Report) : Type 0 where
  pub overtaken : Option ℕ
  pub is : IsReportText client bytes report overtaken

-- what a run writes is such a text: that of a report over command files of the client that can be written, with a
-- count that a summary may tell, and with no more calls than the files of eight seats may have
abbrev pub RunReportsAreTexts : Type 0
RunReportsAreTexts =
    (client : Client) (files : List (List Op)) (report : Report) (overtaken : Option ℕ) → All (IsCommandFile (object_of client)) files → IsReport files report → CanWrite report overtaken → MayTell overtaken
    → length (calls_of report) ≤ 524280 → IsReportText client (report_text report overtaken) report overtaken

-- behind the summary line stands more
pub record HasMore (calls : List Call) (bytes : List ℕ) : Type 0 where
  pub overtaken : Option ℕ
  pub rest : List ℕ
  pub summary : HasSummary calls bytes overtaken rest
  pub more : 0 < length rest

-- the line behind those of these calls is the first at fault, being neither that of a call that may stand there nor the
-- summary line; or the line behind the summary line is, since none may stand there
abbrev pub IsFaultBehind : List Call → List ℕ → ℕ → Type 0
IsFaultBehind calls rest number =
    ((number ≡ length calls + 1) × ((overtaken : Option ℕ) (after : List ℕ) → ¬ HasSummary calls rest overtaken after))
    ⊎ ((number ≡ length calls + 2) × HasMore calls rest)

-- the first line at fault, counted from 1
pub record IsFirstAtFault (client : Client) (bytes : List ℕ) (number : ℕ) : Type 0 where
  pub short : length bytes ≤ REPORT_LIMIT
  pub calls : List Call
  pub rest : List ℕ
  pub begins : BeginsWith client bytes calls rest
  pub fault : IsFaultBehind calls rest number

-- why the bytes are no report
abbrev pub IsNoReport : Client → List ℕ → ReportFault → Type 0
IsNoReport client bytes TooLong = REPORT_LIMIT < length bytes
IsNoReport client bytes (AtFault number) = IsFirstAtFault client bytes number
IsNoReport client bytes NoMemory = Unit {0}

-- the answer of a reader is this report, unless memory ran out
abbrev pub IsReadAs : Result ReadReport ReportFault → Report → Type 0
IsReadAs (Ok read) report = (read.receipts.items ≡ report.receipts) × (read.pending.items ≡ report.pending)
IsReadAs (Err fault) report = fault ≡ NoMemory

-- what stands behind the text with which the bytes begin
abbrev pub behind : List ℕ → List ℕ → Option (List ℕ)
behind text bytes =
    if nat_lt (length bytes) (length text) then None
    else (if bytes_eq (take (length text) bytes) text then Some (drop (length text) bytes)
    else None)

-- an overtaking count to the end of the line, and what stands behind that
abbrev pub count_at : List ℕ → Option (Option ℕ × List ℕ)
count_at bytes = do
  told ← behind (codes " overtaken ") bytes
  line ← line_at told
  most ← plain_number MOST_OVERTAKEN line.0
  Some (Some most, line.1)

-- the end of a summary line, with an overtaking count or without
abbrev pub end_at : List ℕ → Option (Option ℕ × List ℕ)
end_at [] = None
end_at (byte ∷ bytes) = if byte == 10 then Some (None, bytes) else count_at (byte ∷ bytes)

-- a summary line that begins with this front, and what stands behind it
abbrev pub summary_at : List ℕ → List ℕ → Option (Option ℕ × List ℕ)
summary_at front bytes = behind front bytes >>= end_at
