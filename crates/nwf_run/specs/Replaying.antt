-- What is made of what the words ask for, and how the call ends.
use Rattle.std.specs.Prelude.{◌≡◌, ◌↔◌, ℕ, ◌+◌, ◌≤◌, Bool, true, IsTrue, if◌then◌else◌, List, [], ◌∷◌, length, All, Option, Some, None, Result, Ok, Err}
use Rattle.std.specs.Io.KnownBytes.{Appends}
use Rattle.std.specs.List.{flat_map}
use Rattle.lin_report.specs.declared.calls.Client.{Client}
use Rattle.lin_report.specs.declared.calls.Op.{Op}
use Rattle.lin_report.specs.Calls.{Report}
use Rattle.lin_report.specs.Text.{report_text, summary_text}
use Rattle.script_reader.specs.declared.schedules.ScheduleEntry.{ScheduleEntry}
use Rattle.schedule_runs.specs.Orders.{IsOrderOf}
use Rattle.client_reports.specs.declared.running.Replayed.{Replayed}
use Rattle.nwf_run.specs.declared.stops.Stop.{Stop}
use Rattle.nwf_run.specs.declared.stops.Stop.TheVariants.{Usage, NoMemory}
use Rattle.client_reports.specs.Forms.{form_of}
use Rattle.client_reports.specs.Judging.{Accepts, SayFirst}
use Rattle.client_reports.specs.Loads.{IsLoadOf}
use Rattle.whole_files.specs.Outside.{Opening, Rose, AppendsPrefix, WritesMessage}
use Rattle.nwf_run.specs.Reading.{files_by_name, Opens, OpensUntil, StopsReading}
use Rattle.client_reports.specs.Running.{IsThreadRun}
use Rattle.client_reports.specs.Runs.{FilesRun, IsRun, RunMeetsHeadline}
use Rattle.nwf_run.specs.Stops.{status_of, message_of}
use Rattle.client_reports.specs.Sweeps.{AreSwept, SomeExhausts, stop_lines}
use Rattle.nwf_run.specs.CommandLine.{Asked, Replay, Sweep, client_asked}
use Rattle.nwf_run.specs.CommandLine.Asked.{a_replay, a_sweep, a_load, a_run}

-- the run is that of the replay: of the commands of its files, in the order that its schedule names; where bytes are
-- told, the files are all there and accepted
pub record IsReplayOf (tells : Bool) (held : List ℕ → Option (List ℕ)) (replay : Replay) (run : FilesRun) : Type 0 where
  pub entries : List ScheduleEntry
  pub accepted : IsTrue tells → Accepts replay.client (length replay.files) (files_by_name held replay) entries run.commands
  pub seats : length run.commands ≡ length replay.files
  pub named : IsOrderOf (form_of replay.client) run.setup run.commands entries run.order
  pub runs : IsRun (form_of replay.client) replay.cap replay.limit run

-- the run is one of named command files, which are all there and accepted where bytes are told
pub record IsRunOfFiles (tells : Bool) (held : List ℕ → Option (List ℕ)) (words : Replay) (run : FilesRun) : Type 0 where
  pub accepted : IsTrue tells → SayFirst words.client (length words.files) (files_by_name held words) run.commands
  pub seats : length run.commands ≡ length words.files
  pub runs : IsThreadRun (form_of words.client) words.cap words.limit run

-- the runs are those of a sweep over named command files, which are all there and accepted where bytes are told
pub record AreSweepOf (tells : Bool) (held : List ℕ → Option (List ℕ)) (sweep : Sweep) (runs : List FilesRun) : Type 0 where
  pub commands : List (List Op)
  pub accepted : IsTrue tells → SayFirst sweep.of_files.client (length sweep.of_files.files) (files_by_name held sweep.of_files) commands
  pub seats : length commands ≡ length sweep.of_files.files
  pub swept : AreSwept (form_of sweep.of_files.client) sweep.of_files.cap sweep.of_files.limit sweep.most commands runs

-- there is one run, and this holds of it
abbrev pub OfOne : (FilesRun → Type 0) → List FilesRun → Type 0
OfOne Is (run ∷ []) = Is run
OfOne Is _ = ⊥

-- the runs are those that are asked for: one, or those of a sweep
abbrev pub AreRunsFor : Bool → (List ℕ → Option (List ℕ)) → Asked → List FilesRun → Type 0
AreRunsFor tells held (a_replay r) runs = OfOne (IsReplayOf tells held r) runs
AreRunsFor tells held (a_sweep s) runs = AreSweepOf tells held s runs
AreRunsFor tells held (a_load l) runs = OfOne (IsLoadOf l) runs
AreRunsFor tells held (a_run r) runs = OfOne (IsRunOfFiles tells held r) runs

-- what is written of their reports: all of it for a replay, for a sweep a line of each, for a load the summary alone, and
-- for a run with threads all of it without a count of overtaking
abbrev pub text_for : Asked → List FilesRun → List ℕ
text_for (a_replay r) runs = flat_map (λ run. report_text run.report (Some run.overtaken)) runs
text_for (a_sweep s) runs = stop_lines 0 runs
text_for (a_load l) runs = flat_map (λ run. summary_text run.report (Some run.overtaken)) runs
text_for (a_run r) runs = flat_map (λ run. report_text run.report None) runs

-- each of the runs meets the headline
abbrev pub RunsMeetHeadline : Client → List FilesRun → Type 0
RunsMeetHeadline client runs = All (RunMeetsHeadline client) runs

-- the text is that of the runs that are asked for, which meet the headline
pub record Makes (tells : Bool) (held : List ℕ → Option (List ℕ)) (asked : Asked) (text : List ℕ) (exhausted : Bool) : Type 0 where
  pub runs : List FilesRun
  pub are : AreRunsFor tells held asked runs
  pub headline : RunsMeetHeadline (client_asked asked) runs
  pub written : text ≡ text_for asked runs
  pub marked : (exhausted ≡ true) ↔ SomeExhausts runs

-- why a call stops: its words ask for nothing that is served, or reading stopped at a file, or a load had no memory
abbrev pub StopsFor : Bool → (List ℕ → Option (List ℕ)) → Option Asked → Stop → Type 0
StopsFor tells held None stop = stop ≡ Usage
StopsFor tells held (Some (a_replay r)) stop = StopsReading tells held r stop
StopsFor tells held (Some (a_sweep s)) stop = StopsReading tells held s.of_files stop
StopsFor tells held (Some (a_load l)) stop = stop ≡ NoMemory
StopsFor tells held (Some (a_run r)) stop = StopsReading tells held r stop

-- which files were opened for what is asked: for a load none
abbrev pub OpensFor : {X : Type 0} → Option Asked → ℕ → List Opening → List Opening → Result X Stop → Type 0
OpensFor None faults before now result = now ≡ before
OpensFor (Some (a_replay r)) faults before now result = OpensUntil r faults before now result
OpensFor (Some (a_sweep s)) faults before now result = OpensUntil s.of_files faults before now result
OpensFor (Some (a_load l)) faults before now result = now ≡ before
OpensFor (Some (a_run r)) faults before now result = OpensUntil r faults before now result

-- all of its files were opened
abbrev pub OpensAll : Asked → ℕ → List Opening → List Opening → Type 0
OpensAll (a_replay r) faults before now = Opens r (length r.files + 1) faults before now
OpensAll (a_sweep s) faults before now = Opens s.of_files (length s.of_files.files + 1) faults before now
OpensAll (a_load l) faults before now = now ≡ before
OpensAll (a_run r) faults before now = Opens r (length r.files + 1) faults before now

-- the first of its files were opened, some or none
abbrev pub OpensSome : Asked → ℕ → List Opening → List Opening → Type 0
OpensSome (a_replay r) faults before now = (count : ℕ) × (count ≤ length r.files + 1) × Opens r count faults before now
OpensSome (a_sweep s) faults before now = (count : ℕ) × (count ≤ length s.of_files.files + 1) × Opens s.of_files count faults before now
OpensSome (a_load l) faults before now = now ≡ before
OpensSome (a_run r) faults before now = (count : ℕ) × (count ≤ length r.files + 1) × Opens r count faults before now

-- a report was written whole, or the first bytes of it until the sink had a fault
pub data Reports (written written' : Option (List ℕ)) (faults faults' status : ℕ) (text : List ℕ) (exhausted : Bool) : Type 0 where
  wrote : status ≡ (if exhausted then 7 else 0) → Appends written written' text → faults' ≡ faults → Reports written written' faults faults' status text exhausted
  failed : status ≡ 5 → AppendsPrefix written written' text → Rose faults faults' → Reports written written' faults faults' status text exhausted

-- how a call ends that has a report to write, or a reason to stop
abbrev pub Ends : Option (List ℕ) → Option (List ℕ) → ℕ → ℕ → ℕ → Result Replayed Stop → Type 0
Ends written written' faults faults' status (Ok made) = Reports written written' faults faults' status made.text.items made.exhausted
Ends written written' faults faults' status (Err stop) = (status ≡ status_of stop) × WritesMessage written written' faults faults' (message_of stop)
