-- The verdict of a check, and how the call ends.
use Rattle.std.specs.Prelude.{◌≡◌, ℕ, Bool, List, Option, Some, None, Result, Ok, Err}
use Rattle.std.specs.Io.KnownBytes.{Appends}
use Rattle.lin_report.specs.Object.{object_of}
use Rattle.lin_report.specs.Calls.{Report}
use Rattle.whole_files.specs.Outside.{Opening, Rose, AppendsPrefix, WritesMessage}
use Rattle.report_check.specs.declared.orders.Named.{Named}
use Rattle.report_check.specs.declared.verdicts.Verdict.{Verdict}
use Rattle.report_check.specs.declared.verdicts.Verdict.TheVariants.{Legal, NotLegal}
use Rattle.report_check.specs.Judging.{IsFair}
use Rattle.report_check.specs.Sayings.{verdict_text}
use Rattle.report_check.specs.Verdicts.{verdict}
use Rattle.checking.specs.declared.stops.Stop.{Stop}
use Rattle.checking.specs.declared.stops.Stop.TheVariants.{Usage}
use Rattle.checking.specs.Reading.{IsReportThere, AreNamesThere, OpensUntil, StopsReading}
use Rattle.checking.specs.Stops.{status_of, message_of}
use Rattle.checking.specs.Words.{Check}

-- the verdict is that on the names of the order, of the report; and it is legal exactly where they show that the report is
-- linearizable. Where bytes are told, both files are there, and these are what they say
pub record IsVerdictOn (tells : Bool) (held : List ℕ → Option (List ℕ)) (check : Check) (it : Verdict) : Type 0 where
  pub report : Report
  pub names : List Named
  pub report_is : IsReportThere tells held check report
  pub names_are : AreNamesThere tells held check names
  pub is : it ≡ verdict (object_of check.client) report names
  pub fair : IsFair (object_of check.client) report names it

-- the status of a verdict
abbrev pub verdict_status : Verdict → ℕ
verdict_status Legal = 0
verdict_status (NotLegal objection) = 8

-- why a call stops: its words ask for nothing that is served, or reading stopped at a file, or there was no memory
abbrev pub StopsFor : Bool → (List ℕ → Option (List ℕ)) → Option Check → Stop → Type 0
StopsFor tells held None stop = stop ≡ Usage
StopsFor tells held (Some check) stop = StopsReading tells held check stop

-- which files were opened for what is asked
abbrev pub OpensFor : {X : Type 0} → Option Check → ℕ → List Opening → List Opening → Result X Stop → Type 0
OpensFor None faults before now result = now ≡ before
OpensFor (Some check) faults before now result = OpensUntil check faults before now result

-- a verdict was written whole, or the first bytes of it until the sink had a fault
pub data Tells (written written' : Option (List ℕ)) (faults faults' status : ℕ) (it : Verdict) : Type 0 where
  wrote : status ≡ verdict_status it → Appends written written' (verdict_text it) → faults' ≡ faults → Tells written written' faults faults' status it
  failed : status ≡ 5 → AppendsPrefix written written' (verdict_text it) → Rose faults faults' → Tells written written' faults faults' status it

-- how a call ends that has a verdict to write, or a reason to stop
abbrev pub Ends : Option (List ℕ) → Option (List ℕ) → ℕ → ℕ → ℕ → Result Verdict Stop → Type 0
Ends written written' faults faults' status (Ok it) = Tells written written' faults faults' status it
Ends written written' faults faults' status (Err stop) = (status ≡ status_of stop) × WritesMessage written written' faults faults' (message_of stop)
