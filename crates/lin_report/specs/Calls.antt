-- The calls of a report, answered or pending, seen alike.
use Rattle.std.specs.Prelude.{◌≡◌, ℕ, ◌<◌, Option, Some, None, List, ◌++◌, map, IsSomeAnd}
use Rattle.lin_report.specs.declared.calls.Op.{Op}
use Rattle.lin_report.specs.declared.calls.Reply.{Reply}
use Rattle.lin_report.specs.declared.calls.Path.{Path}
use Rattle.lin_report.specs.declared.calls.Receipt.{Receipt}
use Rattle.lin_report.specs.declared.calls.PendingCall.{PendingCall}

-- a call; its answer is its reply and its end tick, and a pending call has none
pub record Call : Type 0 where
  pub seat : ℕ
  pub number : ℕ
  pub op : Op
  pub answer : Option (Reply × ℕ)
  pub begin : ℕ
  pub path : Path

-- an answered call, by its receipt
abbrev pub answered_call : Receipt → Call
answered_call r = record { seat = r.seat; number = r.number; op = r.op; answer = Some (r.reply, r.end); begin = r.begin; path = r.path }

-- a call without an answer
abbrev pub pending_call : PendingCall → Call
pending_call p = record { seat = p.seat; number = p.number; op = p.op; answer = None; begin = p.begin; path = p.path }

-- a report: the answered calls and the pending ones
pub record Report : Type 0 where
  pub receipts : List Receipt
  pub pending : List PendingCall

-- the report of two slices, as the writers of the report are given it
abbrev pub report_of : List Receipt → List PendingCall → Report
report_of receipts pending = record { receipts = receipts; pending = pending }

-- all its calls, the answered ones first
abbrev pub calls_of : Report → List Call
calls_of report = map answered_call report.receipts ++ map pending_call report.pending

-- both are the same call of the same seat
pub record IsSameCall (c d : Call) : Type 0 where
  pub seat : c.seat ≡ d.seat
  pub number : c.number ≡ d.number

-- c had ended before d began
abbrev pub EndedBefore : Call → Call → Type 0
EndedBefore c d = IsSomeAnd c.answer (λ answer. answer.1 < d.begin)
