-- The run that a load makes.
use Rattle.std.specs.Prelude.{◌≡◌, ℕ, ◌*◌, Bool, List, Some}
use Rattle.lin_report.specs.Text.{summary_text}
use Rattle.normal_traits.specs.NormalForm.{NormalForm}
use Rattle.run_reports.specs.Headline.{MeetsHeadline}
use Rattle.generated_files.specs.Generated.{generated_files}
use Rattle.schedule_runs.specs.Rounds.{rounds}
use Rattle.client_reports.specs.declared.loading.Load.{Load}
use Rattle.client_reports.specs.Forms.{form_of}
use Rattle.client_reports.specs.Runs.{FilesRun, IsRun, IsTextOf}

-- how many rounds there are at most for each call of a seat
abbrev pub ROUNDS_OF_A_CALL : ℕ
ROUNDS_OF_A_CALL = 16384

-- the run is that of a load: each of its seats makes the calls that are generated for it, and they take turns, in as
-- many rounds as there may be
pub record IsLoadOf (load : Load) (run : FilesRun) : Type 0 where
  pub generated : run.commands ≡ generated_files load.client load.seed load.threads load.calls
  pub in_rounds : run.order ≡ rounds load.threads (load.calls * ROUNDS_OF_A_CALL)
  pub runs : IsRun (form_of load.client) load.cap load.limit run

-- the text is the summary of the run of a load of this structure, which meets the headline
pub record IsLoaded {S W : Type 0} (form : NormalForm S W) (load : Load) (text : List ℕ) (exhausted : Bool) : Type 0 where
  pub run : FilesRun
  pub generated : run.commands ≡ generated_files load.client load.seed load.threads load.calls
  pub in_rounds : run.order ≡ rounds load.threads (load.calls * ROUNDS_OF_A_CALL)
  pub is : IsRun form load.cap load.limit run
  pub headline : MeetsHeadline form run.setup run.commands run.order
  pub text_is : IsTextOf run.report (summary_text run.report (Some run.overtaken)) text exhausted
