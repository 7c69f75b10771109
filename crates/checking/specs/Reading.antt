-- What was read of the two files of a check, why reading stopped, and which of them were opened.
use Rattle.std.specs.Prelude.{◌≡◌, ℕ, ◌<◌, Bool, IsTrue, List, ◌∷◌, length, Option, IsSomeAnd, Result, Ok, Err}
use Rattle.lin_report.specs.Calls.{Report}
use Rattle.whole_files.specs.Outside.{Opening, Rose}
use Rattle.report_check.specs.declared.orders.Named.{Named}
use Rattle.report_check.specs.Orders.{order_outcome}
use Rattle.report_check.specs.Reports.{REPORT_LIMIT, IsTextOf, IsFirstAtFault}
use Rattle.checking.specs.declared.checked.CheckedFile.{CheckedFile}
use Rattle.checking.specs.declared.checked.CheckedFile.TheVariants as file
use Rattle.checking.specs.declared.checked.NotAccepted.{NotAccepted}
use Rattle.checking.specs.declared.checked.NotAccepted.TheVariants.{LongReport, ReportLine, Order}
use Rattle.checking.specs.declared.stops.Stop.{Stop}
use Rattle.checking.specs.declared.stops.Stop.TheVariants.{Usage, Refused, ReadFault, NoMemory}
use Rattle.checking.specs.Stops.{file_of}
use Rattle.checking.specs.Words.{Check}

-- the two files, where these bytes are held under names; nothing is said of files that don't tell their bytes
module _ (tells : Bool) (held : List ℕ → Option (List ℕ)) (check : Check) where
  -- the report is there, and its bytes are the text of this one
  abbrev pub IsReportThere : Report → Type 0
  IsReportThere report = IsTrue tells → IsSomeAnd (held check.report) (λ bytes. IsTextOf check.client bytes report)

  -- the order is there, and its bytes are these names
  abbrev pub AreNamesThere : List Named → Type 0
  AreNamesThere names = IsTrue tells → IsSomeAnd (held check.order) (λ bytes. order_outcome bytes ≡ Ok names)

  -- the report is there and accepted
  abbrev pub AcceptsReport : Type 0
  AcceptsReport = (report : Report) × IsReportThere report

  -- why reading stopped at the report: it is not accepted, or it couldn't be read
  abbrev pub StopsAtReport : Stop → Type 0
  StopsAtReport (Refused LongReport) = IsTrue tells → IsSomeAnd (held check.report) (λ bytes. REPORT_LIMIT < length bytes)
  StopsAtReport (Refused (ReportLine line)) = IsTrue tells → IsSomeAnd (held check.report) (λ bytes. IsFirstAtFault check.client bytes line)
  StopsAtReport (Refused (Order refusal)) = ⊥
  StopsAtReport (ReadFault file.Report) = Unit {0}
  StopsAtReport (ReadFault file.Order) = ⊥
  StopsAtReport Usage = ⊥
  StopsAtReport NoMemory = Unit {0}

  -- why reading stopped at the order: it is not accepted, or it couldn't be read
  abbrev pub StopsAtOrder : Stop → Type 0
  StopsAtOrder (Refused (Order refusal)) = IsTrue tells → IsSomeAnd (held check.order) (λ bytes. order_outcome bytes ≡ Err refusal)
  StopsAtOrder (Refused LongReport) = ⊥
  StopsAtOrder (Refused (ReportLine line)) = ⊥
  StopsAtOrder (ReadFault file.Order) = Unit {0}
  StopsAtOrder (ReadFault file.Report) = ⊥
  StopsAtOrder Usage = ⊥
  StopsAtOrder NoMemory = Unit {0}

  -- a file is there and not accepted, and what is read before it is there and accepted
  abbrev pub Refuses : NotAccepted → Type 0
  Refuses LongReport = StopsAtReport (Refused LongReport)
  Refuses (ReportLine line) = StopsAtReport (Refused (ReportLine line))
  Refuses (Order refusal) = AcceptsReport × StopsAtOrder (Refused (Order refusal))

  -- a file is reached: what is read before it is there and accepted
  abbrev pub Reaches : CheckedFile → Type 0
  Reaches file.Report = Unit {0}
  Reaches file.Order = AcceptsReport

  -- why reading stopped
  abbrev pub StopsReading : Stop → Type 0
  StopsReading Usage = ⊥
  StopsReading (Refused why) = Refuses why
  StopsReading (ReadFault file) = Reaches file
  StopsReading NoMemory = Unit {0}

-- the files up to this one were opened, in order and once, and there was no fault before the last of them was
abbrev pub Opens : Check → CheckedFile → ℕ → List Opening → List Opening → Type 0
Opens check file.Report faults before now = now ≡ (check.report, faults) ∷ before
Opens check file.Order faults before now = now ≡ (check.order, faults) ∷ (check.report, faults) ∷ before

-- which files were opened when reading ended: the one at which it stopped is the last of them
abbrev pub OpensUntil : {X : Type 0} → Check → ℕ → List Opening → List Opening → Result X Stop → Type 0
OpensUntil check faults before now (Ok x) = Opens check file.Order faults before now
OpensUntil check faults before now (Err Usage) = ⊥
OpensUntil check faults before now (Err (Refused why)) = Opens check (file_of why) faults before now
OpensUntil check faults before now (Err (ReadFault file)) = Opens check file faults before now
OpensUntil check faults before now (Err NoMemory) = (file : CheckedFile) × Opens check file faults before now

-- the count of faults rose where a file couldn't be read, and is as it was where it did not
abbrev pub FaultsAsTold : {X : Type 0} → ℕ → ℕ → Result X Stop → Type 0
FaultsAsTold before now (Ok x) = now ≡ before
FaultsAsTold before now (Err Usage) = now ≡ before
FaultsAsTold before now (Err (Refused why)) = now ≡ before
FaultsAsTold before now (Err (ReadFault file)) = Rose before now
FaultsAsTold before now (Err NoMemory) = now ≡ before
