-- Reports that are none, or are not linearizable, beside those that are.
use Rattle.std.specs.Prelude.{◌≡◌, ◌≢◌, ℕ, ◌+◌, ◌-◌, ◌<◌, ◌≤◌, List, [], ◌∷◌, slice_get, Some, All, Contains}
use Rattle.lin_report.specs.declared.calls.Client.TheVariants as client
use Rattle.lin_report.specs.declared.calls.Op.{Op}
use Rattle.lin_report.specs.declared.calls.Path.TheVariants.{Fast}
use Rattle.lin_report.specs.declared.calls.Receipt.{Receipt}
use Rattle.lin_report.specs.declared.calls.Reply.{Reply}
use Rattle.lin_report.specs.declared.calls.Reply.TheVariants.{Done, Value, Empty}
use Rattle.lin_report.specs.declared.calls.TheConstants.{PUT, TAKE}
use Rattle.lin_report.specs.Object.{object_of}
use Rattle.lin_report.specs.Calls.{Call, Report, calls_of, report_of}
use Rattle.lin_report.specs.Report.{IsReport, file_of}
use Rattle.lin_report.specs.Linearizable.{IsLinearizable}

-- ---- two calls of a queue

-- seat 0 put 7 between two ticks
abbrev pub the_put : ℕ → ℕ → Receipt
the_put begin end = record { seat = 0; number = 1; op = record { code = PUT; key = 0; value = 7 }; reply = Done; begin = begin; end = end; path = Fast }

-- seat 1 took between two ticks, and was told this
abbrev pub the_take : Reply → ℕ → ℕ → Receipt
the_take reply begin end = record { seat = 1; number = 1; op = record { code = TAKE; key = 0; value = 0 }; reply = reply; begin = begin; end = end; path = Fast }

-- no other call was made
abbrev pub two_calls : Receipt → Receipt → Report
two_calls put take = report_of (put ∷ take ∷ []) []

-- the put had ended when the take began, and yet the take found the queue empty
abbrev pub EmptyAfterPut : Type 0
EmptyAfterPut = (put_begin put_end take_begin take_end : ℕ) → put_end < take_begin → ¬ IsLinearizable (object_of client.Queue) (two_calls (the_put put_begin put_end) (the_take Empty take_begin take_end))

-- the take had ended when the put began, and yet it took the value
abbrev pub ValueBeforePut : Type 0
ValueBeforePut = (put_begin put_end take_begin take_end : ℕ) → take_end < put_begin → ¬ IsLinearizable (object_of client.Queue) (two_calls (the_put put_begin put_end) (the_take (Value 7) take_begin take_end))

-- and the other way round: where the ticks leave it open, either answer will do
abbrev pub EmptyBeforeEnd : Type 0
EmptyBeforeEnd = (put_begin put_end take_begin take_end : ℕ) → take_begin ≤ put_end → IsLinearizable (object_of client.Queue) (two_calls (the_put put_begin put_end) (the_take Empty take_begin take_end))

abbrev pub ValueAfterBegin : Type 0
ValueAfterBegin = (put_begin put_end take_begin take_end : ℕ) → put_begin ≤ take_end → IsLinearizable (object_of client.Queue) (two_calls (the_put put_begin put_end) (the_take (Value 7) take_begin take_end))

-- ---- calls left out

-- the call before c of the same seat
abbrev pub IsBefore : Call → Receipt → Type 0
IsBefore c before = (before.seat ≡ c.seat) × (before.number + 1 ≡ c.number)

-- a call is there, and the one before it of its seat has no line
abbrev pub SkippedCall : Type 0
SkippedCall =
    (files : List (List Op)) (report : Report) (c : Call) → Contains (calls_of report) c → 1 < c.number → All (λ before. ¬ IsBefore c before) report.receipts
    → ¬ IsReport files report

-- a call is there whose number is that of another command of its seat's file, or of none
abbrev pub AnotherCommand : Type 0
AnotherCommand =
    (files : List (List Op)) (report : Report) (c : Call) → Contains (calls_of report) c → slice_get (file_of files c.seat) (c.number - 1) ≢ Some c.op
    → ¬ IsReport files report
