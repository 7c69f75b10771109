-- What every run of command files comes to, in any order of the seats: what a report tells of it, and what is
-- known of the exchanges behind it. No schedule is named, so that a replay, a load that is generated and a run
-- of threads are each told by it once their order is known.
use Rattle.std.specs.Prelude.{◌≡◌, ℕ, ◌≤◌, List, All}
use Rattle.lin_report.specs.declared.calls.Op.{Op}
use Rattle.lin_report.specs.declared.calls.Receipt.{Receipt}
use Rattle.lin_report.specs.declared.calls.Reply.TheVariants.{Exhausted}
use Rattle.lin_report.specs.Linearizable.{IsLinearizable}
use Rattle.lin_report.specs.Report.{IsReport}
use Rattle.normal_traits.specs.AtOnce.{ChangesAtOnce}
use Rattle.normal_traits.specs.NormalForm.{NormalForm}
use Rattle.fast_slow_engine.specs.declared.setup.Setup.{Setup}
use Rattle.fast_slow_engine.specs.Runs.{moves_over, run_of}
use Rattle.fast_slow_engine.specs.Reports.{report_of_run}
use Rattle.overtaking_law.specs.Overtaking.{overtaken}
use Rattle.run_laws.specs.Files.{FilesFit}
use Rattle.run_overtaking.specs.Accounts.{most_overtaken}
use Rattle.run_exchanges.specs.RunGhosts.{world_of}
use Rattle.run_exchanges.specs.Exchanges.{AreAtMostOnce, TellsExchanges, won_exchanges}
use Rattle.run_exchanges.specs.Journals.{JournalLaws}
use Rattle.run_reports.specs.Endings.{WasRefused, WonNone}
use Rattle.run_reports.specs.History.{HasHistory}

-- of the run of these files in this order: its lines with the calls that run are a report over the files, which
-- is linearizable; each call made one change while it ran, or observed while it ran, or was left no block before it
-- ended, and the last two changed nothing; where the first entry of each list makes its change, no list of a call
-- that was left no block won an exchange; each exchange was won at most once, and the journal tells the exchanges
-- that were won, with a cause of its own for each; and no call, completed or not, was overtaken more often than the bound says
pub record MeetsHeadline {S W : Type 0} (form : NormalForm S W) (setup : Setup) (files : List (List Op)) (order : List ℕ) : Type 0 where
  pub complete : IsReport files (report_of_run (run_of form setup (moves_over form setup files order)))
  pub linearizable : IsLinearizable form.object (report_of_run (run_of form setup (moves_over form setup files order)))
  pub history : HasHistory form setup (moves_over form setup files order)
  pub none_left : All (λ (r : Receipt). r.reply ≡ Exhausted → WasRefused form setup (moves_over form setup files order) r) (run_of form setup (moves_over form setup files order)).receipts
  pub none_won : ChangesAtOnce form → All (λ (r : Receipt). r.reply ≡ Exhausted → WonNone form setup (moves_over form setup files order) r) (run_of form setup (moves_over form setup files order)).receipts
  pub exchanges : TellsExchanges form setup (moves_over form setup files order)
  pub once : AreAtMostOnce setup.cap (won_exchanges form setup (moves_over form setup files order))
  pub journal : JournalLaws setup.cap (world_of form setup (moves_over form setup files order)).journal
  pub overtaking : (seat number : ℕ) → overtaken (run_of form setup (moves_over form setup files order)).events seat number ≤ most_overtaken setup.seats

-- every run of files that fit does
abbrev pub FilesMeetHeadline : {S W : Type 0} → NormalForm S W → Type 0
FilesMeetHeadline form =
    (setup : Setup) (files : List (List Op)) (order : List ℕ) → FilesFit form.object setup files → MeetsHeadline form setup files order
