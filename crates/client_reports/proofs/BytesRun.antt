-- The run of accepted bytes is that of a replay of these bytes.
use Rattle.std.proofs.Common.{◌≡◌, ℕ, Bool, List, length, Option, sym, subst}
use Rattle.lin_report.specs.declared.calls.Client.{Client}
use Rattle.lin_report.specs.declared.calls.Op.{Op}
use Rattle.script_reader.specs.declared.schedules.ScheduleEntry.{ScheduleEntry}
use Rattle.client_reports.specs.Forms.{form_of}
use Rattle.client_reports.specs.Judging.{Accepts, files_of_bytes}
use Rattle.client_reports.specs.Runs.{IsDriven, MakesReplayOfBytes}
use Rattle.client_reports.proofs.FormsOfClients.{at_once_but_the_tree}

-- the commands of a run are the accepted ones
pub accepted_too : (client : Client) (seats : ℕ) (files : ℕ → Option (List ℕ)) (entries : List ScheduleEntry) (commands run_commands : List (List Op)) → run_commands ≡ commands
    → Accepts client seats files entries commands → Accepts client seats files entries run_commands
accepted_too client seats files entries commands run_commands c all = subst (λ r. Accepts client seats files entries r) (sym c) all

pub bytes_made : (client : Client) (cap limit : ℕ) (schedule : List ℕ) (files : List (List ℕ)) (entries : List ScheduleEntry) (commands : List (List Op)) (text : List ℕ) (exhausted : Bool)
    → Accepts client (length files) (files_of_bytes schedule files) entries commands → IsDriven (form_of client) cap limit entries commands text exhausted
    → MakesReplayOfBytes client cap limit schedule files text exhausted
bytes_made client cap limit schedule files entries commands text exhausted accepts m =
    record {
      run = m.run;
      is = record {
        entries = entries;
        accepted = accepted_too client (length files) (files_of_bytes schedule files) entries commands m.run.commands m.of_commands accepts;
        named = m.named;
        runs = m.is;
      };
      headline = (m.headline, at_once_but_the_tree client);
      text_is = m.text_is;
    }
