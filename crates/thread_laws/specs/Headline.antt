-- What holds of every run of command files with threads: that of a run of these files in some order of the seats, of
-- which nothing else is known, since nothing is known of how threads are scheduled.
use Rattle.std.specs.Prelude.{◌≡◌, ℕ, List, [], length, slice_index, IsPermutation}
use Rattle.lin_report.specs.declared.calls.Op.{Op}
use Rattle.lin_report.specs.declared.calls.Receipt.{Receipt}
use Rattle.node_arena.specs.declared.places.TheConstants.{TICKS, CLAIMS}
use Rattle.normal_traits.specs.NormalForm.{NormalForm}
use Rattle.fast_slow_engine.specs.declared.setup.Setup.{Setup}
use Rattle.fast_slow_engine.specs.Runs.{moves_over, pending_of, run_of}
use Rattle.run_reports.specs.Headline.{MeetsHeadline}
use Rattle.thread_runs.specs.Whole.{IsRun}

-- the run of these files in some order of the seats has these lines and counters and no call that runs, and it
-- meets what every run of command files does
pub record MeetsInSomeOrder {S W : Type 0} (form : NormalForm S W) (setup : Setup) (files : List (List Op)) (lines : List Receipt) (ticks claimed : ℕ) : Type 0 where
  pub order : List ℕ
  pub over : pending_of (run_of form setup (moves_over form setup files order)).mechs ≡ []
  pub made : IsPermutation (run_of form setup (moves_over form setup files order)).receipts lines
  pub drawn : slice_index (run_of form setup (moves_over form setup files order)).words TICKS ≡ ticks
  pub asked : slice_index (run_of form setup (moves_over form setup files order)).words CLAIMS ≡ claimed
  pub meets : MeetsHeadline form setup files order

-- every run with threads does
abbrev pub ThreadsMeetHeadline : {S W : Type 0} → NormalForm S W → Type 0
ThreadsMeetHeadline form =
    (setup : Setup) (files : List (List Op)) (lines : List Receipt) (ticks claimed : ℕ) → length files ≡ setup.seats → IsRun form setup files lines ticks claimed
    → MeetsInSomeOrder form setup files lines ticks claimed
