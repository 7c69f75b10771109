-- The run that threads made of what the command files say is the one that was asked for.
use Rattle.std.proofs.Common.{◌≡◌, ℕ, Bool, IsTrue, List, length, Option, None, refl, ap, ◌∙◌, subst, sym}
use Rattle.lin_report.specs.declared.calls.Op.{Op}
use Rattle.lin_report.specs.Text.{report_text}
use Rattle.client_reports.specs.Forms.{form_of}
use Rattle.client_reports.specs.Judging.{SayFirst}
use Rattle.nwf_run.specs.Reading.{files_by_name}
use Rattle.nwf_run.specs.Replaying.{Makes}
use Rattle.client_reports.specs.Running.{IsThreaded}
use Rattle.nwf_run.specs.CommandLine.{Replay}
use Rattle.nwf_run.specs.CommandLine.Asked.{a_run}
use Rattle.nwf_run.proofs.OneRun.{one_made}
use Rattle.client_reports.proofs.FormsOfClients.{at_once_but_the_tree}

pub run_made : (tells : Bool) (held : List ℕ → Option (List ℕ)) (words : Replay) (commands : List (List Op)) (text : List ℕ) (exhausted : Bool)
    → (IsTrue tells → SayFirst words.client (length words.files) (files_by_name held words) commands) → length commands ≡ length words.files
    → IsThreaded (form_of words.client) words.cap words.limit commands text exhausted → Makes tells held (a_run words) text exhausted
run_made tells held words commands text exhausted says count m =
    one_made tells held (a_run words) m.run (report_text m.run.report None) text exhausted
    (record {
      accepted = λ t. subst (SayFirst words.client (length words.files) (files_by_name held words)) (sym m.of_commands) (says t);
      seats = ap length m.of_commands ∙ count;
      runs = m.is;
    })
    (m.headline, at_once_but_the_tree words.client) refl m.text_is
