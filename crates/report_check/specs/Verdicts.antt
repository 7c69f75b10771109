-- What an order of calls is worth, told entry by entry: the first one at fault, and the first reason that applies to it.
use Rattle.std.specs.Prelude.{ℕ, ◌+◌, ◌==◌, ◌&&◌, not, nat_lt, Bool, true, false, if◌then◌else◌, Option, Some, None, List, [], ◌∷◌, ◌++◌, map, length}
use Rattle.std.specs.List.{list_any, filter_map}
use Rattle.lin_report.specs.declared.calls.Receipt.{Receipt}
use Rattle.lin_report.specs.declared.calls.Reply.{Reply}
use Rattle.lin_report.specs.declared.calls.Reply.TheVariants.{Yes, No, Done, Value, Empty, Absent, Exhausted}
use Rattle.lin_report.specs.Object.{Object, held_after}
use Rattle.lin_report.specs.Calls.{Call, Report, answered_call, calls_of}
use Rattle.lin_report.specs.Text.{reply_is_exhausted, answer_is_exhausted}
use Rattle.report_check.specs.declared.orders.Named.{Named}
use Rattle.report_check.specs.declared.verdicts.Reason.{Reason}
use Rattle.report_check.specs.declared.verdicts.Reason.TheVariants.{NoSuchCall, NamedTwice, AgainstTicks, AnotherReply, LeftOut}
use Rattle.report_check.specs.declared.verdicts.Verdict.{Verdict}
use Rattle.report_check.specs.declared.verdicts.Verdict.TheVariants.{Legal, NotLegal}

-- the number of a reason in messages
abbrev pub reason_number : Reason → ℕ
reason_number NoSuchCall = 1
reason_number NamedTwice = 2
reason_number AgainstTicks = 3
reason_number AnotherReply = 4
reason_number LeftOut = 5

-- what names a call
abbrev pub name_of : Call → Named
name_of c = record { seat = c.seat; number = c.number }

abbrev pub same_name : Named → Named → Bool
same_name a b = a.seat == b.seat && a.number == b.number

-- the call of these that has the name
abbrev pub call_named : List Call → Named → Option Call
call_named [] name = None
call_named (c ∷ calls) name = if same_name name (name_of c) then Some c else call_named calls name

-- the calls that names name, in the order of the names
abbrev pub calls_named : List Call → List Named → List Call
calls_named calls names = filter_map (call_named calls) names

abbrev pub same_reply : Reply → Reply → Bool
same_reply Yes Yes = true
same_reply No No = true
same_reply Done Done = true
same_reply (Value a) (Value b) = a == b
same_reply Empty Empty = true
same_reply Absent Absent = true
same_reply Exhausted Exhausted = true
same_reply _ _ = false

-- whether a call with this answer may have been given the reply: a pending call may have been given any
abbrev pub may_be : Option (Reply × ℕ) → Reply → Bool
may_be None reply = true
may_be (Some answer) reply = same_reply answer.0 reply

-- whether a call with this answer had ended before d began
abbrev pub ended_before : Option (Reply × ℕ) → Call → Bool
ended_before None d = false
ended_before (Some answer) d = nat_lt answer.1 d.begin

-- the first reason that applies to an entry that names a call with this answer: whether an entry before it names the
-- call too, whether the call had ended before the begin of one that an entry before it names, and the object's reply
abbrev pub reason_of : Option (Reply × ℕ) → Bool → Bool → Reply → Option Reason
reason_of answer named late reply =
    if answer_is_exhausted answer then Some NoSuchCall
    else (if named then Some NamedTwice
    else (if late then Some AgainstTicks
    else (if may_be answer reply then None
    else Some AnotherReply)))

-- what the object holds after these calls
abbrev pub held_by : (object : Object) → List Call → object.Held
held_by object calls = held_after object object.empty (map (λ c. c.op) calls)

-- the first reason that applies to an entry, by the call that it names and the names of the entries before it
abbrev pub reason_with : Object → List Call → List Named → Named → Option Call → Option Reason
reason_with object before passed name None = Some NoSuchCall
reason_with object before passed name (Some c) =
    reason_of c.answer (list_any (same_name name) passed) (list_any (ended_before c.answer) before) (object.apply c.op (held_by object before)).1

abbrev pub reason_at : Object → Report → List Named → Named → Option Reason
reason_at object report passed name =
    let calls = calls_of report in reason_with object (calls_named calls passed) passed name (call_named calls name)

-- a call that was answered, and not exhausted, and that none of these names
abbrev pub is_left_out : List Named → Receipt → Bool
is_left_out names r = not (reply_is_exhausted r.reply) && not (list_any (same_name (name_of (answered_call r))) names)

-- an entry at fault decides, else what follows it
abbrev pub by_reason : ℕ → Option Reason → Verdict → Verdict
by_reason place (Some reason) rest = NotLegal (record { place = place; reason = reason })
by_reason place None rest = rest

-- behind the last entry
abbrev pub by_receipts : ℕ → Bool → Verdict
by_receipts place left_out = if left_out then NotLegal (record { place = place; reason = LeftOut }) else Legal

-- the verdict on these entries, behind those that were passed
abbrev pub verdict_from : Object → Report → List Named → List Named → Verdict
verdict_from object report passed [] = by_receipts (length passed + 1) (list_any (is_left_out passed) report.receipts)
verdict_from object report passed (name ∷ names) =
    by_reason (length passed + 1) (reason_at object report passed name) (verdict_from object report (passed ++ name ∷ []) names)

-- the verdict on an order of a report
abbrev pub verdict : Object → Report → List Named → Verdict
verdict object report names = verdict_from object report [] names
