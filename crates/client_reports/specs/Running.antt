-- What a run with threads is, and its report.
use Rattle.std.specs.Prelude.{◌≡◌, ℕ, Bool, List, [], length, sum_by, None}
use Rattle.lin_report.specs.declared.calls.Op.{Op}
use Rattle.lin_report.specs.Text.{report_text}
use Rattle.normal_traits.specs.NormalForm.{NormalForm}
use Rattle.run_reports.specs.Headline.{MeetsHeadline}
use Rattle.client_reports.specs.Runs.{FilesRun, IsRun, IsTextOf}

-- the run is that of its commands, in the order in which the threads came to make its steps, of which nothing else is
-- known; each command was made and answered
pub record IsThreadRun {S W : Type 0} (form : NormalForm S W) (cap limit : ℕ) (run : FilesRun) : Type 0 where
  pub runs : IsRun form cap limit run
  pub whole : length run.report.receipts ≡ sum_by length run.commands
  pub over : run.report.pending ≡ []

-- the text is that of the report of a run of these commands, and the run meets the headline
pub record IsThreaded {S W : Type 0} (form : NormalForm S W) (cap limit : ℕ) (commands : List (List Op)) (text : List ℕ) (exhausted : Bool) : Type 0 where
  pub run : FilesRun
  pub of_commands : run.commands ≡ commands
  pub is : IsThreadRun form cap limit run
  pub headline : MeetsHeadline form run.setup run.commands run.order
  pub text_is : IsTextOf run.report (report_text run.report None) text exhausted
