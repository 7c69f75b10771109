-- The report of a run over command files.
use Rattle.std.specs.Prelude.{ℕ, List}
use Rattle.lin_report.specs.declared.calls.Op.{Op}
use Rattle.lin_report.specs.Report.{IsReport}
use Rattle.normal_traits.specs.NormalForm.{NormalForm}
use Rattle.fast_slow_engine.specs.declared.setup.Setup.{Setup}
use Rattle.fast_slow_engine.specs.Runs.{moves_over, run_of}
use Rattle.run_laws.specs.Files.{FilesFit}
use Rattle.fast_slow_engine.specs.Reports.{report_of_run}
use Rattle.run_laws.specs.Ticks.{KeepsTicks}

module _ {S W : Type 0} (form : NormalForm S W) where
  -- every order of the seats makes a report over the files; linearizability is a property of such a report
  abbrev pub RunsReport : Type 0
  RunsReport =
      (setup : Setup) (files : List (List Op)) (order : List ℕ) → FilesFit form.object setup files → KeepsTicks form setup (moves_over form setup files order)
      → IsReport files (report_of_run (run_of form setup (moves_over form setup files order)))
