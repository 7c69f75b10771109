-- The runs that were made are those that were asked for.
use Rattle.std.proofs.Common.{◌≡◌, ℕ, ◌∙◌, Bool, IsTrue, List, length, Option, Some, refl, sym, ap, subst}
use Rattle.lin_report.specs.declared.calls.Client.{Client}
use Rattle.lin_report.specs.declared.calls.Op.{Op}
use Rattle.lin_report.specs.Text.{report_text, summary_text}
use Rattle.script_reader.specs.declared.schedules.ScheduleEntry.{ScheduleEntry}
use Rattle.client_reports.specs.declared.loading.Load.{Load}
use Rattle.client_reports.specs.Forms.{form_of}
use Rattle.nwf_run.specs.CommandLine.{Replay, Sweep}
use Rattle.nwf_run.specs.CommandLine.Asked.{a_replay, a_load, a_sweep}
use Rattle.client_reports.specs.Judging.{Accepts, SayFirst}
use Rattle.nwf_run.specs.Reading.{files_by_name}
use Rattle.client_reports.specs.Runs.{IsDriven}
use Rattle.nwf_run.specs.Replaying.{Makes}
use Rattle.client_reports.specs.Loads.{IsLoaded}
use Rattle.client_reports.specs.Sweeps.{IsSwept}
use Rattle.client_reports.proofs.BytesRun.{accepted_too}
use Rattle.nwf_run.proofs.OneRun.{one_made}
use Rattle.client_reports.proofs.FormsOfClients.{at_once_but_the_tree}

pub replay_made : (tells : Bool) (held : List ℕ → Option (List ℕ)) (replay : Replay) (entries : List ScheduleEntry) (commands : List (List Op)) (text : List ℕ) (exhausted : Bool)
    → (IsTrue tells → Accepts replay.client (length replay.files) (files_by_name held replay) entries commands) → length commands ≡ length replay.files
    → IsDriven (form_of replay.client) replay.cap replay.limit entries commands text exhausted → Makes tells held (a_replay replay) text exhausted
replay_made tells held replay entries commands text exhausted accepts count m =
    one_made tells held (a_replay replay) m.run (report_text m.run.report (Some m.run.overtaken)) text exhausted
    (record {
      entries = entries;
      accepted = λ t. accepted_too replay.client (length replay.files) (files_by_name held replay) entries commands m.run.commands m.of_commands (accepts t);
      seats = ap length m.of_commands ∙ count;
      named = m.named;
      runs = m.is;
    })
    (m.headline, at_once_but_the_tree replay.client) refl m.text_is

-- the run of a load
pub load_made : (tells : Bool) (held : List ℕ → Option (List ℕ)) (load : Load) (text : List ℕ) (exhausted : Bool) → IsLoaded (form_of load.client) load text exhausted → Makes tells held (a_load load) text exhausted
load_made tells held load text exhausted m =
    one_made tells held (a_load load) m.run (summary_text m.run.report (Some m.run.overtaken)) text exhausted
    (record {
      generated = m.generated;
      in_rounds = m.in_rounds;
      runs = m.is;
    })
    (m.headline, at_once_but_the_tree load.client) refl m.text_is

-- the runs of a sweep
pub sweep_made : (tells : Bool) (held : List ℕ → Option (List ℕ)) (sweep : Sweep) (commands : List (List Op)) (text : List ℕ) (exhausted : Bool)
    → (IsTrue tells → SayFirst sweep.of_files.client (length sweep.of_files.files) (files_by_name held sweep.of_files) commands) → length commands ≡ length sweep.of_files.files
    → IsSwept (form_of sweep.of_files.client) sweep.of_files.cap sweep.of_files.limit sweep.most commands text exhausted → Makes tells held (a_sweep sweep) text exhausted
sweep_made tells held sweep commands text exhausted says count m =
    record {
      runs = m.runs;
      are = record { commands = commands; accepted = says; seats = count; swept = m.are };
      headline = λ k d within. (m.headline k d within, at_once_but_the_tree sweep.of_files.client);
      written = m.written;
      marked = m.marked;
    }
