-- Generated files can be run, and their run in rounds is told by its order.
use Rattle.std.proofs.Common.{◌≡◌, ℕ, ◌≤◌, List, Vec, All, length, get_or, sym, ap, ◌∙◌, subst, arith, IsTrue}
use Rattle.std.specs.Global.{Global}
use Rattle.std.proofs.lemmas.List.{get_or-map, length-map}
use Rattle.std.proofs.lemmas.List.FromFn.{get_or-map-range_with_len, length-map-range_with_len}
use Rattle.lin_report.specs.declared.calls.Client.{Client}
use Rattle.lin_report.specs.declared.calls.Op.{Op}
use Rattle.lin_report.specs.CommandFiles.{IsCommandFile}
use Rattle.lin_report.specs.Object.{Object, object_of, is_command}
use Rattle.normal_traits.specs.NormalForm.{NormalForm}
use Rattle.fast_slow_engine.specs.declared.setup.Setup.{Setup}
use Rattle.event_core.specs.Cores.{CoreView, core_new}
use Rattle.generated_files.specs.Generated.{EachRuns, generated_file, generated_files}
use Rattle.schedule_runs.specs.Orders.{core_in}
use Rattle.schedule_runs.specs.Rounds.{StepsRunInOrder, after_order}
use Rattle.client_reports.proofs.RunReports.{files_of}

-- a command file of a client is one of each object that serves its commands
file_for : (client : Client) (file : List Op) (object : Object) → ((op : Op) → object.serves op ≡ is_command client op) → IsCommandFile (object_of client) file → IsCommandFile object file
file_for client file object serves is = record {
  few = is.few;
  commands = λ k d within. (let can = is.commands k d within in record { command = subst IsTrue (sym (serves _)) can.command; value = can.value });
}

module _ (commands : List (Vec Op Global)) (client : Client) (seed seats calls : ℕ) (are : files_of commands ≡ generated_files client seed seats calls) where
  pub as_many : length commands ≡ seats
  as_many = sym (length-map commands (λ (ops : Vec Op Global). ops.items)) ∙ ap length are ∙ length-map-range_with_len (generated_file client seed calls) 0 seats

  -- for an object that serves the client's commands
  pub each_is_file : (object : Object) → ((op : Op) → object.serves op ≡ is_command client op) → EachRuns → calls ≤ 65535 → All (λ (ops : Vec Op Global). IsCommandFile object ops.items) commands
  each_is_file object serves runs few k d within =
      let at : (get_or commands k d).items ≡ generated_file client seed calls k =
      sym (get_or-map (λ (ops : Vec Op Global). ops.items) commands k d d.items within)
      ∙ ap (λ (l : List (List Op)). get_or l k d.items) are
      ∙ get_or-map-range_with_len (generated_file client seed calls) 0 seats k k d.items (omega (arith, within, as_many)) (omega arith) in
      subst (IsCommandFile object) (sym at) (file_for client (generated_file client seed calls k) object serves (runs client seed calls k few))

-- a core that opened over the commands and made steps of these seats
pub in_order_of : {S W : Type 0} (form : NormalForm S W) (setup : Setup) (commands : List (Vec Op Global)) (order : List ℕ) (new core : CoreView S W) → StepsRunInOrder form → new ≡ core_new form setup (files_of commands)
    → core ≡ after_order form new order → core ≡ core_in form setup (files_of commands) order
in_order_of form setup commands order new core run is steps = steps ∙ ap (λ v. after_order form v order) is ∙ run setup (files_of commands) order
