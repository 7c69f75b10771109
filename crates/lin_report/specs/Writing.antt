-- What the writers of the report ask of the calls that they are given, so that the line of each call has
-- at most 64 bytes and the summary line at most 128.
use Rattle.std.specs.Prelude.{◌≢◌, ℕ, ◌+◌, ◌*◌, ◌<◌, ◌≤◌, length, Option, IfSome, AllPairs, All, IsTrue}
use Rattle.std.specs.List.Sorted.{IsNonDecreasingBy}
use Rattle.lin_report.specs.declared.calls.Op.{Op}
use Rattle.lin_report.specs.declared.calls.Reply.{Reply}
use Rattle.lin_report.specs.declared.calls.Receipt.{Receipt}
use Rattle.lin_report.specs.declared.calls.PendingCall.{PendingCall}
use Rattle.lin_report.specs.Commands.{is_some_command, IsReplyTo, VALUE_LIMIT}
use Rattle.lin_report.specs.Calls.{Call, Report, calls_of}
use Rattle.lin_report.specs.Text.{report_text, summary_text}

-- ticks are below this: eight seats make at most 65,535 calls each, of two ticks
abbrev pub TICK_LIMIT : ℕ
TICK_LIMIT = 1048576

-- the answer is one that the operation may be given, at a tick in range
pub record IsPrintableAnswer (op : Op) (answer : Reply × ℕ) : Type 0 where
  pub reply : IsReplyTo op answer.0
  pub end : answer.1 < TICK_LIMIT

-- a command of some client, so with its key in range, by one of eight seats, with the rest in range too
pub record IsPrintable (c : Call) : Type 0 where
  pub seat : c.seat < 8
  pub counted : 0 < c.number
  pub number : c.number ≤ 65535
  pub command : IsTrue (is_some_command c.op)
  pub value : c.op.value < VALUE_LIMIT
  pub begin : c.begin < TICK_LIMIT
  pub answer : IfSome c.answer (IsPrintableAnswer c.op)

-- a report whose calls can be written, the answered ones and the pending ones each in rising order of
-- begin, with this overtaking count
pub record CanWrite (report : Report) (count : Option ℕ) : Type 0 where
  pub receipts_in_order : IsNonDecreasingBy (λ (r : Receipt). r.begin) report.receipts
  pub pending_in_order : IsNonDecreasingBy (λ (p : PendingCall). p.begin) report.pending
  pub apart : AllPairs (λ c d. c.begin ≢ d.begin) (calls_of report)
  pub printable : All IsPrintable (calls_of report)
  pub overtaken : IfSome count (λ most. most ≤ 524280)

-- what is written fits the room that is asked for: 64 bytes for each call, and 128 for the summary line
abbrev pub ReportTextFits : Type 0
ReportTextFits =
    (report : Report) (count : Option ℕ) → CanWrite report count
    → (length (report_text report count) ≤ 64 * length (calls_of report) + 128) × (length (summary_text report count) ≤ 128)
