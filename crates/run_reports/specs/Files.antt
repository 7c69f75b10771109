-- The report of a run over command files.
use Rattle.std.specs.Prelude.{ℕ, List}
use Rattle.lin_report.specs.declared.calls.Op.{Op}
use Rattle.lin_report.specs.Report.{IsReport}
use Rattle.normal_traits.specs.NormalForm.{NormalForm}
use Rattle.fast_slow_engine.specs.declared.setup.Setup.{Setup}
use Rattle.fast_slow_engine.specs.Reports.{report_of_run}
use Rattle.fast_slow_engine.specs.Runs.{moves_over, run_of}
use Rattle.run_laws.specs.Files.{FilesFit}

module _ {S W : Type 0} (form : NormalForm S W) where
  -- in any order of the seats, the receipts with the calls that run are a report over the command files
  abbrev pub FilesReport : Type 0
  FilesReport = (setup : Setup) (files : List (List Op)) (order : List ℕ) → FilesFit form.object setup files → IsReport files (report_of_run (run_of form setup (moves_over form setup files order)))
