-- The reports of runs are linearizable, and what their calls are told.
use Rattle.std.specs.Prelude.{◌≡◌, ℕ, List, All}
use Rattle.lin_report.specs.declared.calls.Op.{Op}
use Rattle.lin_report.specs.declared.calls.Receipt.{Receipt}
use Rattle.lin_report.specs.declared.calls.Reply.TheVariants.{Exhausted}
use Rattle.lin_report.specs.Commands.{IsReplyTo}
use Rattle.lin_report.specs.Linearizable.{IsLinearizable}
use Rattle.normal_traits.specs.AtOnce.{ChangesAtOnce}
use Rattle.normal_traits.specs.NormalForm.{NormalForm}
use Rattle.fast_slow_engine.specs.declared.setup.Setup.{Setup}
use Rattle.fast_slow_engine.specs.Runs.{Move, AreMoves, run_of, moves_over}
use Rattle.fast_slow_engine.specs.Reports.{report_of_run}
use Rattle.run_laws.specs.Files.{FilesFit}
use Rattle.run_reports.specs.Endings.{WasRefused, WonNone}

module _ {S W : Type 0} (form : NormalForm S W) where
  -- in any order of the seats, the report over the command files is linearizable
  abbrev pub FilesLinearizable : Type 0
  FilesLinearizable =
      (setup : Setup) (files : List (List Op)) (order : List ℕ) → FilesFit form.object setup files
      → IsLinearizable form.object (report_of_run (run_of form setup (moves_over form setup files order)))

  -- and each reply is one that its command may be given, with its value in range
  abbrev pub RepliesFit : Type 0
  RepliesFit =
      (setup : Setup) (files : List (List Op)) (order : List ℕ) → FilesFit form.object setup files
      → All (λ (r : Receipt). IsReplyTo r.op r.reply) (run_of form setup (moves_over form setup files order)).receipts

  -- a call is told that it found no block only where none was left before it ended, and it changed nothing
  abbrev pub ExhaustedOnlyWhere : Type 0
  ExhaustedOnlyWhere =
      (setup : Setup) (moves : List Move) → AreMoves form setup moves
      → All (λ (r : Receipt). r.reply ≡ Exhausted → WasRefused form setup moves r) (run_of form setup moves).receipts

  -- and where the first entry of each list makes its change, no list of the call won an exchange
  abbrev pub ExhaustedWonNone : Type 0
  ExhaustedWonNone =
      ChangesAtOnce form → (setup : Setup) (moves : List Move) → AreMoves form setup moves
      → All (λ (r : Receipt). r.reply ≡ Exhausted → WonNone form setup moves r) (run_of form setup moves).receipts
