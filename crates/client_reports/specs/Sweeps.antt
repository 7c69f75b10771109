-- The runs that a sweep makes, and their lines.
use Rattle.std.specs.Prelude.{◌≡◌, ℕ, ◌+◌, ◌*◌, max, Bool, true, ◌↔◌, List, [], ◌∷◌, ◌++◌, length, map, Some, All, Any, codes, decimal}
use Rattle.std.specs.List.{range_with_len}
use Rattle.lin_report.specs.declared.calls.Op.{Op}
use Rattle.lin_report.specs.Text.{summary_text}
use Rattle.normal_traits.specs.NormalForm.{NormalForm}
use Rattle.fast_slow_engine.specs.declared.setup.Setup.{Setup}
use Rattle.fast_slow_engine.specs.Runs.{moves_over, run_of}
use Rattle.fast_slow_engine.specs.Reports.{report_of_run}
use Rattle.overtaking_law.specs.Overtaking.{greatest_overtaken}
use Rattle.run_reports.specs.Headline.{MeetsHeadline}
use Rattle.schedule_runs.specs.Stops.{stop_order}
use Rattle.client_reports.specs.Loads.{ROUNDS_OF_A_CALL}
use Rattle.client_reports.specs.Runs.{Exhausts, FilesRun}

-- how many commands the longest file has
abbrev pub longest : List (List Op) → ℕ
longest [] = 0
longest (file ∷ files) = max (length file) (longest files)

module _ {S W : Type 0} (form : NormalForm S W) (setup : Setup) (commands : List (List Op)) where
  -- the run in which the first seat stops after so many steps, and the others take so many rounds
  abbrev pub stop_run : (rounds steps : ℕ) → FilesRun
  stop_run rounds steps =
      let order = stop_order setup.seats 0 steps rounds in
      let state = run_of form setup (moves_over form setup commands order) in
      record { setup = setup; commands = commands; order = order; report = report_of_run state; overtaken = greatest_overtaken state.events }

  -- the first so many of these runs: of the first one the seat makes no step
  abbrev pub stop_runs : (rounds count : ℕ) → List FilesRun
  stop_runs rounds count = map (stop_run rounds) (range_with_len 0 count)

-- how the line of a stop begins
abbrev pub stop_start : ℕ → List ℕ
stop_start steps = codes "stop " ++ decimal steps ++ codes " "

-- the line of a run in which the first seat stopped after so many steps
abbrev pub stop_line : ℕ → FilesRun → List ℕ
stop_line steps run = stop_start steps ++ summary_text run.report (Some run.overtaken)

-- the lines of runs, of which the first stopped after so many steps, and each one a step later
abbrev pub stop_lines : ℕ → List FilesRun → List ℕ
stop_lines steps [] = []
stop_lines steps (run ∷ runs) = stop_line steps run ++ stop_lines (steps + 1) runs

-- the runs are those of a sweep over these commands: for each number of steps from 0 on to the most
pub record AreSwept {S W : Type 0} (form : NormalForm S W) (cap limit most : ℕ) (commands : List (List Op)) (runs : List FilesRun) : Type 0 where
  pub setup : Setup
  pub has_seats : setup.seats ≡ length commands
  pub has_cap : setup.cap ≡ cap
  pub has_limit : setup.limit ≡ limit
  pub runs_are : runs ≡ stop_runs form setup commands (longest commands * ROUNDS_OF_A_CALL) (most + 1)

-- a call of one of these runs was answered that it found no block left
abbrev pub SomeExhausts : List FilesRun → Type 0
SomeExhausts runs = Any (λ run. Exhausts run.report) runs

-- the text has the lines of the runs of a sweep of this structure, each of which meets the headline
pub record IsSwept {S W : Type 0} (form : NormalForm S W) (cap limit most : ℕ) (commands : List (List Op)) (text : List ℕ) (exhausted : Bool) : Type 0 where
  pub runs : List FilesRun
  pub are : AreSwept form cap limit most commands runs
  pub headline : All (λ run. MeetsHeadline form run.setup run.commands run.order) runs
  pub written : text ≡ stop_lines 0 runs
  pub marked : (exhausted ≡ true) ↔ SomeExhausts runs
