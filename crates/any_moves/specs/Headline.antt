-- What any moves that can follow each other come to: all that a run of command files comes to, where no files are fixed
-- before. What the moves themselves began stands in the place of the files, so that calls which come from anywhere, one
-- after the other as somebody makes them, are told by it too.
use Rattle.std.specs.Prelude.{◌≡◌, ℕ, ◌≤◌, List, All}
use Rattle.lin_report.specs.declared.calls.Receipt.{Receipt}
use Rattle.lin_report.specs.declared.calls.Reply.TheVariants.{Exhausted}
use Rattle.lin_report.specs.Linearizable.{IsLinearizable}
use Rattle.lin_report.specs.Report.{IsReport}
use Rattle.normal_traits.specs.AtOnce.{ChangesAtOnce}
use Rattle.normal_traits.specs.NormalForm.{NormalForm}
use Rattle.fast_slow_engine.specs.declared.setup.Setup.{Setup}
use Rattle.fast_slow_engine.specs.Runs.{Move, AreMoves, run_of}
use Rattle.fast_slow_engine.specs.Reports.{report_of_run}
use Rattle.overtaking_law.specs.Overtaking.{overtaken}
use Rattle.run_overtaking.specs.Accounts.{most_overtaken}
use Rattle.run_exchanges.specs.RunGhosts.{world_of}
use Rattle.run_exchanges.specs.Exchanges.{AreAtMostOnce, TellsExchanges, won_exchanges}
use Rattle.run_exchanges.specs.Journals.{JournalLaws}
use Rattle.run_reports.specs.Endings.{WasRefused, WonNone}
use Rattle.run_reports.specs.History.{HasHistory}
use Rattle.move_orders.specs.Orders.{begun_files}
use Rattle.any_moves.specs.Whole.{HasEachCommand}

-- of the run of these moves: its lines with the calls that run are a report over the commands that the moves began,
-- which has a call for each of these commands, and is linearizable; each call made one change while it ran, or observed
-- while it ran, or was left no block before it ended, and the last two changed nothing; where the first entry of each
-- list makes its change, no list of a call that was left no block won an exchange; each exchange was won at most once,
-- and the journal tells the exchanges that were won, with a cause of its own for each; and no call, completed or not,
-- was overtaken more often than the bound says
pub record MovesMeetHeadline {S W : Type 0} (form : NormalForm S W) (setup : Setup) (moves : List Move) : Type 0 where
  pub complete : IsReport (begun_files setup moves) (report_of_run (run_of form setup moves))
  pub whole : HasEachCommand (begun_files setup moves) (report_of_run (run_of form setup moves))
  pub linearizable : IsLinearizable form.object (report_of_run (run_of form setup moves))
  pub history : HasHistory form setup moves
  pub none_left : All (λ (r : Receipt). r.reply ≡ Exhausted → WasRefused form setup moves r) (run_of form setup moves).receipts
  pub none_won : ChangesAtOnce form → All (λ (r : Receipt). r.reply ≡ Exhausted → WonNone form setup moves r) (run_of form setup moves).receipts
  pub exchanges : TellsExchanges form setup moves
  pub once : AreAtMostOnce setup.cap (won_exchanges form setup moves)
  pub journal : JournalLaws setup.cap (world_of form setup moves).journal
  pub overtaking : (seat number : ℕ) → overtaken (run_of form setup moves).events seat number ≤ most_overtaken setup.seats

-- every run of moves that can follow each other does; a setup has its ranges with it
abbrev pub AnyMovesMeetHeadline : {S W : Type 0} → NormalForm S W → Type 0
AnyMovesMeetHeadline form = (setup : Setup) (moves : List Move) → AreMoves form setup moves → MovesMeetHeadline form setup moves
