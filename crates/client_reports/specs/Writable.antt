-- What the writer of a report asks of it, of every run.
use Rattle.std.specs.Prelude.{ℕ, ◌+◌, ◌≤◌, ◌==◌, List, length, sum_by, count_by, All}
use Rattle.lin_report.specs.declared.calls.Op.{Op}
use Rattle.lin_report.specs.Calls.{calls_of}
use Rattle.lin_report.specs.Writing.{IsPrintable}
use Rattle.normal_traits.specs.NormalForm.{NormalForm}
use Rattle.fast_slow_engine.specs.declared.setup.Setup.{Setup}
use Rattle.fast_slow_engine.specs.Runs.{RunState, moves_over, pending_of, run_of}
use Rattle.run_laws.specs.Files.{FilesFit}
use Rattle.fast_slow_engine.specs.Reports.{report_of_run}

-- the report of a run can be written into room for so many calls: each call has a line, no two began at one
-- tick, and there are no more
pub record CanBeWritten {S W : Type 0} (state : RunState S W) (calls : ℕ) : Type 0 where
  pub printable : All IsPrintable (calls_of (report_of_run state))
  pub apart : (t : ℕ) → count_by (λ c. c.begin == t) (calls_of (report_of_run state)) ≤ 1
  pub few : length state.receipts + length (pending_of state.mechs) ≤ calls

-- every run over command files can be written, in any order of the seats, with a line for
-- each command
abbrev pub RunsCanBeWritten : {S W : Type 0} → NormalForm S W → Type 0
RunsCanBeWritten form =
    (setup : Setup) (files : List (List Op)) (order : List ℕ) → FilesFit form.object setup files → CanBeWritten (run_of form setup (moves_over form setup files order)) (sum_by length files)
