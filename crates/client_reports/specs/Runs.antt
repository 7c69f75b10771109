-- Runs of command files and their reports, and what every such run meets.
use Rattle.std.specs.Prelude.{◌≡◌, ℕ, ◌↔◌, Bool, true, List, length, Some, Any}
use Rattle.lin_report.specs.declared.calls.Client.{Client}
use Rattle.lin_report.specs.declared.calls.Op.{Op}
use Rattle.lin_report.specs.declared.calls.Receipt.{Receipt}
use Rattle.lin_report.specs.declared.calls.Reply.TheVariants.{Exhausted}
use Rattle.lin_report.specs.Calls.{Report}
use Rattle.lin_report.specs.Text.{report_text}
use Rattle.script_reader.specs.declared.schedules.ScheduleEntry.{ScheduleEntry}
use Rattle.normal_traits.specs.NormalForm.{NormalForm}
use Rattle.fast_slow_engine.specs.declared.setup.Setup.{Setup}
use Rattle.fast_slow_engine.specs.Runs.{moves_over, run_of}
use Rattle.fast_slow_engine.specs.Reports.{report_of_run}
use Rattle.overtaking_law.specs.Overtaking.{greatest_overtaken}
use Rattle.run_reports.specs.Headline.{MeetsHeadline}
use Rattle.schedule_runs.specs.Orders.{IsOrderOf}
use Rattle.client_reports.specs.Forms.{AtOnceButTheTree, form_of}
use Rattle.client_reports.specs.Judging.{Accepts, files_of_bytes}

-- a run of command files, and its report
pub record FilesRun : Type 0 where
  pub setup : Setup
  -- the commands of each seat
  pub commands : List (List Op)
  -- the seats of the steps, the newest first
  pub order : List ℕ
  pub report : Report
  -- the greatest overtaking count of its calls
  pub overtaken : ℕ

-- the run is that of its commands in its order, with a seat for each list of them, so many blocks and this limit, and the
-- report and the count are those of this run
pub record IsRun {S W : Type 0} (form : NormalForm S W) (cap limit : ℕ) (run : FilesRun) : Type 0 where
  pub has_seats : run.setup.seats ≡ length run.commands
  pub has_cap : run.setup.cap ≡ cap
  pub has_limit : run.setup.limit ≡ limit
  pub made : run.report ≡ report_of_run (run_of form run.setup (moves_over form run.setup run.commands run.order))
  pub counted : run.overtaken ≡ greatest_overtaken (run_of form run.setup (moves_over form run.setup run.commands run.order)).events

-- what the laws of every run give for this one: its report is complete and linearizable, and more; and for which clients
-- the first entry of each list makes its change, which is the premise of one part of it: of the queue, the list and the
-- buckets it is told too that a call that was left no block won nothing, and of the tree all else
abbrev pub RunMeetsHeadline : Client → FilesRun → Type 0
RunMeetsHeadline client run = MeetsHeadline (form_of client) run.setup run.commands run.order × AtOnceButTheTree client

-- a call was answered that it found no block left
abbrev pub Exhausts : Report → Type 0
Exhausts report = Any (λ (r : Receipt). r.reply ≡ Exhausted) report.receipts

-- the text is this one, and the mark says whether a call of the report found no block left
pub record IsTextOf (report : Report) (whole text : List ℕ) (exhausted : Bool) : Type 0 where
  pub written : text ≡ whole
  pub marked : (exhausted ≡ true) ↔ Exhausts report

-- the text is that of the report of the run of these commands by these entries, and the run meets the headline
pub record IsDriven {S W : Type 0} (form : NormalForm S W) (cap limit : ℕ) (entries : List ScheduleEntry) (commands : List (List Op)) (text : List ℕ) (exhausted : Bool) : Type 0 where
  pub run : FilesRun
  pub of_commands : run.commands ≡ commands
  pub named : IsOrderOf form run.setup run.commands entries run.order
  pub is : IsRun form cap limit run
  pub headline : MeetsHeadline form run.setup run.commands run.order
  pub text_is : IsTextOf run.report (report_text run.report (Some run.overtaken)) text exhausted

-- the run is that of a replay of these bytes: of the commands of its files, in the order that its schedule names, where
-- all of them are accepted
pub record IsReplayOfBytes (client : Client) (cap limit : ℕ) (schedule : List ℕ) (files : List (List ℕ)) (run : FilesRun) : Type 0 where
  pub entries : List ScheduleEntry
  pub accepted : Accepts client (length files) (files_of_bytes schedule files) entries run.commands
  pub named : IsOrderOf (form_of client) run.setup run.commands entries run.order
  pub runs : IsRun (form_of client) cap limit run

-- the text is that of the report of the run of a replay of these bytes, which meets the headline
pub record MakesReplayOfBytes (client : Client) (cap limit : ℕ) (schedule : List ℕ) (files : List (List ℕ)) (text : List ℕ) (exhausted : Bool) : Type 0 where
  pub run : FilesRun
  pub is : IsReplayOfBytes client cap limit schedule files run
  pub headline : RunMeetsHeadline client run
  pub text_is : IsTextOf run.report (report_text run.report (Some run.overtaken)) text exhausted
