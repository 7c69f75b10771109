-- Which reports a judge is given, and what a verdict means.
use Rattle.std.specs.Prelude.{◌≡◌, ◌↔◌, List, map, All, AllPairs, IsTrue}
use Rattle.lin_report.specs.Object.{Object}
use Rattle.lin_report.specs.Calls.{Call, Report, calls_of, IsSameCall}
use Rattle.lin_report.specs.Linearizable.{IsLinearization}
use Rattle.report_check.specs.declared.orders.Named.{Named}
use Rattle.report_check.specs.declared.verdicts.Verdict.{Verdict}
use Rattle.report_check.specs.declared.verdicts.Verdict.TheVariants.{Legal}
use Rattle.report_check.specs.Orders.{IsName}
use Rattle.report_check.specs.Verdicts.{name_of}

-- a report of operations that the object serves, each call with a name of its own
pub record CanJudge (object : Object) (report : Report) : Type 0 where
  pub names : All (λ c. IsName (name_of c)) (calls_of report)
  pub served : All (λ c. IsTrue (object.serves c.op)) (calls_of report)
  pub once : AllPairs (λ c d. ¬ IsSameCall c d) (calls_of report)

-- the names name calls of the report, and these in this order show that it is linearizable
pub record ShowsLinearizable (object : Object) (report : Report) (names : List Named) : Type 0 where
  pub order : List Call
  pub named : map name_of order ≡ names
  pub linearization : IsLinearization object report order

-- the verdict is that the order is legal exactly where it shows that the report is linearizable
abbrev pub IsFair : Object → Report → List Named → Verdict → Type 0
IsFair object report names verdict = (verdict ≡ Legal) ↔ ShowsLinearizable object report names
