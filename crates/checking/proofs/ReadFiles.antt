-- What was read of the two files of a check says what they are.
use Rattle.std.proofs.Common.{◌≡◌, ℕ, Bool, List, take, Option, IsTrue, IsSomeAnd, Ok, Err}
use Rattle.lin_report.specs.Calls.{Report}
use Rattle.script_reader.specs.declared.causes.ScriptFault.{ScriptFault}
use Rattle.script_reader.specs.declared.causes.ScriptFault.TheVariants as script
use Rattle.script_reader.specs.Outcomes.{ReadsAs}
use Rattle.report_check.specs.declared.orders.Named.{Named}
use Rattle.report_check.specs.declared.reports.ReportFault.{ReportFault}
use Rattle.report_check.specs.declared.reports.ReportFault.TheVariants.{TooLong, AtFault, NoMemory as NoRoom}
use Rattle.report_check.specs.Orders.{order_outcome}
use Rattle.report_check.specs.Reports.{IsFirstAtFault, IsNoReport, IsTextOf}
use Rattle.checking.specs.Reading.{AreNamesThere, IsReportThere, StopsAtOrder, StopsAtReport}
use Rattle.checking.specs.Stops.{stop_for_order, stop_for_report}
use Rattle.checking.specs.Words.{Check}
use Rattle.checking.proofs.CutFiles.{judged_order, long, whole}

module _ (tells : Bool) (held : List ℕ → Option (List ℕ)) (check : Check) (bytes : List ℕ) where
  -- the bytes are those of the report, up to the one after its limit
  abbrev OfReport : Type 0
  OfReport = IsTrue tells → IsSomeAnd (held check.report) (λ all. bytes ≡ take 33554049 all)

  pub report_there : (report : Report) → OfReport → IsTextOf check.client bytes report → IsReportThere tells held check report
  report_there report read text t = whole (λ b. IsTextOf check.client b report) 33554048 (held check.report) bytes (read t) text.is.short text

  pub report_stops : (fault : ReportFault) → OfReport → IsNoReport check.client bytes fault → StopsAtReport tells held check (stop_for_report fault)
  report_stops TooLong read at_fault = λ t. long 33554048 (held check.report) bytes (read t) at_fault
  report_stops (AtFault number) read at_fault = λ t. whole (λ b. IsFirstAtFault check.client b number) 33554048 (held check.report) bytes (read t) at_fault.short at_fault
  report_stops NoRoom read at_fault = tt

  -- the bytes are those of the order, up to the one after its limit
  abbrev OfOrder : Type 0
  OfOrder = IsTrue tells → IsSomeAnd (held check.order) (λ all. bytes ≡ take 4194305 all)

  pub names_there : (names : List Named) → OfOrder → order_outcome bytes ≡ Ok names → AreNamesThere tells held check names
  names_there names read is t = judged_order (held check.order) bytes (Ok names) (read t) is

  pub order_stops : (fault : ScriptFault) → OfOrder → ReadsAs {X = Named} (Err fault) (order_outcome bytes) → StopsAtOrder tells held check (stop_for_order fault)
  order_stops (script.Refused refusal) read is = λ t. judged_order (held check.order) bytes (Err refusal) (read t) is
  order_stops script.NoMemory read is = tt
