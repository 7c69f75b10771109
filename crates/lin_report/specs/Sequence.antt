-- Operations made one after another: what they reply, and the report of one seat that makes them alone.
use Rattle.std.specs.Prelude.{ℕ, ◌+◌, ◌-◌, ◌*◌, ◌≤◌, List, [], ◌∷◌, length, All, Option, IfSome}
use Rattle.lin_report.specs.declared.calls.Client.{Client}
use Rattle.lin_report.specs.declared.calls.Op.{Op}
use Rattle.lin_report.specs.declared.calls.Path.TheVariants.{Fast}
use Rattle.lin_report.specs.declared.calls.Receipt.{Receipt}
use Rattle.lin_report.specs.Object.{Object, IsCommandOf, object_of}
use Rattle.lin_report.specs.Calls.{Report, report_of}
use Rattle.lin_report.specs.Report.{IsReport}
use Rattle.lin_report.specs.Linearizable.{IsLinearizable}
use Rattle.lin_report.specs.Writing.{CanWrite}

-- the receipts of the operations, the first one having this number: each reply is the object's in turn,
-- and call k takes the ticks 2k - 2 and 2k - 1
abbrev pub sequential_receipts : (object : Object) → ℕ → object.Held → List Op → List Receipt
sequential_receipts object number held [] = []
sequential_receipts object number held (op ∷ ops) =
    record { seat = 0; number = number; op = op; reply = (object.apply op held).1; begin = 2 * number - 2; end = 2 * number - 1; path = Fast }
    ∷ sequential_receipts object (number + 1) (object.apply op held).0 ops

-- no call is pending
abbrev pub sequential_report : Object → List Op → Report
sequential_report object ops = report_of (sequential_receipts object 1 object.empty ops) []

-- it is a report over the one file of these operations, whatever the client
abbrev pub SequentialReportIsReport : Type 0
SequentialReportIsReport = (client : Client) (ops : List Op) → IsReport (ops ∷ []) (sequential_report (object_of client) ops)

-- it is linearizable, whatever the client
abbrev pub SequentialReportIsLinearizable : Type 0
SequentialReportIsLinearizable = (client : Client) (ops : List Op) → IsLinearizable (object_of client) (sequential_report (object_of client) ops)

-- the writers of the report take it, where the operations are commands and no more than a file may have
abbrev pub SequentialReportCanBeWritten : Type 0
SequentialReportCanBeWritten =
    (client : Client) (ops : List Op) (overtaken : Option ℕ) → All (IsCommandOf (object_of client)) ops → length ops ≤ 65535 → IfSome overtaken (λ most. most ≤ 524280)
    → CanWrite (sequential_report (object_of client) ops) overtaken
