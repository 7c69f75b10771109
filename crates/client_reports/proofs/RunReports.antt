-- The report of a run, written from its lines put in order.
use Rattle.std.proofs.Common.{◌≡◌, ℕ, zero, suc, ◌+◌, ◌≤◌, ◌↔◌, Bool, true, List, length, map, Option, Vec, All, IsPermutation, refl, sym, ap, ◌∙◌, subst, arith, rules}
use Rattle.std.specs.List.{Any, list_any}
use Rattle.std.specs.Prelude.{sum_by, IfSome}
use Rattle.std.specs.Global.{Global}
use Rattle.std.proofs.lemmas.List.{length-map}
use Rattle.std.proofs.lemmas.List.Elements.{All-map}
use Rattle.std.specs.List.Sorted.{IsNonDecreasingBy}
use Rattle.std.proofs.lemmas.List.Folds.{Any-from_list_any, list_any-from_Any}
use Rattle.std.proofs.lemmas.List.Sorted.{All-permutation, length_permutation, list_any-IsPermutation}
use Rattle.lin_report.specs.declared.calls.Receipt.{Receipt}
use Rattle.lin_report.specs.declared.calls.PendingCall.{PendingCall}
use Rattle.lin_report.specs.declared.calls.Reply.{Reply}
use Rattle.lin_report.specs.declared.calls.Reply.TheVariants.{Yes, No, Done, Value, Empty, Absent, Exhausted}
use Rattle.lin_report.specs.Calls.{Call, calls_of, report_of}
use Rattle.lin_report.specs.Text.{reply_is_exhausted, report_text, summary_text}
use Rattle.lin_report.specs.Writing.{CanWrite, IsPrintable}
use Rattle.lin_report.specs.declared.calls.Op.{Op}
use Rattle.lin_report.specs.CommandFiles.{IsCommandFile}
use Rattle.lin_report.specs.Object.{Object}
use Rattle.script_reader.specs.declared.schedules.ScheduleEntry.{ScheduleEntry}
use Rattle.normal_traits.specs.NormalForm.{NormalForm}
use Rattle.fast_slow_engine.specs.declared.setup.Setup.{Setup}
use Rattle.fast_slow_engine.specs.Runs.{RunState, pending_of}
use Rattle.run_laws.specs.Files.{FilesFit}
use Rattle.fast_slow_engine.specs.Reports.{report_of_run}
use Rattle.event_core.specs.Cores.{CoreView, core_new, with_receipts}
use Rattle.overtaking_law.specs.Overtaking.{greatest_overtaken}
use Rattle.run_overtaking.specs.Accounts.{most_overtaken}
use Rattle.schedule_runs.specs.Orders.{EntriesMade, core_in}
use Rattle.client_reports.specs.Writable.{CanBeWritten, RunsCanBeWritten}
use Rattle.client_reports.proofs.SameOrder.{apart_moved, apart_pairs, calls_moved, same_summary, same_text}

-- a reply is exhausted where the test says so
pub exhausted_is : (reply : Reply) → reply_is_exhausted reply ≡ true → reply ≡ Exhausted
exhausted_is Yes h = absurd (search rules)
exhausted_is No h = absurd (search rules)
exhausted_is Done h = absurd (search rules)
exhausted_is (Value value) h = absurd (search rules)
exhausted_is Empty h = absurd (search rules)
exhausted_is Absent h = absurd (search rules)
exhausted_is Exhausted h = refl

module _ {S W : Type 0} (state : RunState S W) (receipts : List Receipt) (pending : List PendingCall) (lines : IsPermutation state.receipts receipts) (calls : IsPermutation (pending_of state.mechs) pending) where
  pub can_write : (count : Option ℕ) → IfSome count (λ most. most ≤ 524280) → (most : ℕ) → IsNonDecreasingBy (λ (r : Receipt). r.begin) receipts → IsNonDecreasingBy (λ (p : PendingCall). p.begin) pending → CanBeWritten state most → CanWrite (report_of receipts pending) count
  can_write count few most order opened can =
      let moved = calls_moved (report_of_run state) (report_of receipts pending) lines calls in
      record {
        receipts_in_order = order;
        pending_in_order = opened;
        apart = apart_pairs (λ (c : Call). c.begin) (calls_of (report_of receipts pending)) (apart_moved (λ (c : Call). c.begin) (calls_of (report_of_run state)) (calls_of (report_of receipts pending)) moved can.apart);
        printable = All-permutation IsPrintable (calls_of (report_of_run state)) (calls_of (report_of receipts pending)) moved can.printable;
        overtaken = few;
      }

  pub few_lines : (most : ℕ) → CanBeWritten state most → length receipts + length pending ≤ most
  few_lines most can = omega (arith, can.few, length_permutation state.receipts receipts lines, length_permutation (pending_of state.mechs) pending calls)

  pub text_is : (count : Option ℕ) (most : ℕ) → CanBeWritten state most → report_text (report_of receipts pending) count ≡ report_text (report_of_run state) count
  text_is count most can = sym (same_text (report_of_run state) (report_of receipts pending) count lines calls can.apart)

  pub summary_is : (count : Option ℕ) → summary_text (report_of receipts pending) count ≡ summary_text (report_of_run state) count
  summary_is count = sym (same_summary (report_of_run state) (report_of receipts pending) count lines calls)

  pub marked : (mark : Bool) → mark ≡ list_any (λ (r : Receipt). reply_is_exhausted r.reply) receipts → (mark ≡ true) ↔ Any (λ (r : Receipt). r.reply ≡ Exhausted) state.receipts
  marked mark is =
      let test : Receipt → Bool = λ r. reply_is_exhausted r.reply in
      let same : mark ≡ list_any test state.receipts = is ∙ sym (list_any-IsPermutation test state.receipts receipts lines) in (
        λ yes. let (k, r, within, at, h) = Any-from_list_any test state.receipts (sym same ∙ yes) in (k, r, within, at, exhausted_is r.reply h),
        λ (k, r, within, at, h). same ∙ list_any-from_Any test state.receipts (k, r, within, at, ap reply_is_exhausted h),
      )

-- ---- overtaking

-- the greatest count fits its room
pub few_overtaken : (seats count : ℕ) → seats ≤ 8 → count ≤ most_overtaken seats → count ≤ 524280
few_overtaken zero count few most = (let n = most in omega (arith, n))
few_overtaken (suc zero) count few most = (let n = most in omega (arith, n))
few_overtaken (suc (suc zero)) count few most = (let n = most in omega (arith, n))
few_overtaken (suc (suc (suc zero))) count few most = (let n = most in omega (arith, n))
few_overtaken (suc (suc (suc (suc zero)))) count few most = (let n = most in omega (arith, n))
few_overtaken (suc (suc (suc (suc (suc zero))))) count few most = (let n = most in omega (arith, n))
few_overtaken (suc (suc (suc (suc (suc (suc zero)))))) count few most = (let n = most in omega (arith, n))
few_overtaken (suc (suc (suc (suc (suc (suc (suc zero))))))) count few most = (let n = most in omega (arith, n))
few_overtaken (suc (suc (suc (suc (suc (suc (suc (suc zero)))))))) count few most = (let n = most in omega (arith, n))
few_overtaken (suc (suc (suc (suc (suc (suc (suc (suc (suc n))))))))) count few most = absurd (omega (arith, few))

-- the count of a core whose lines are in order is that of its run
pub count_is : {S W : Type 0} (core after : CoreView S W) (count : ℕ) → after ≡ with_receipts after.state.receipts core → count ≡ greatest_overtaken after.state.events → count ≡ greatest_overtaken core.state.events
count_is core after count kept is = is ∙ ap (λ (v : CoreView _ _). greatest_overtaken v.state.events) kept

-- ---- what the code has of a run

-- the commands of files as the code keeps them
abbrev pub files_of : List (Vec Op Global) → List (List Op)
files_of commands = map (λ (ops : Vec Op Global). ops.items) commands

pub files_fit : (object : Object) (setup : Setup) (commands : List (Vec Op Global)) → length commands ≡ setup.seats → All (λ (ops : Vec Op Global). IsCommandFile object ops.items) commands → FilesFit object setup (files_of commands)
files_fit object setup commands count each = record {
  count = omega (arith, count, length-map commands (λ (ops : Vec Op Global). ops.items));
  runnable = All-map (IsCommandFile object) (λ (ops : Vec Op Global). ops.items) commands each;
}

module _ {S W : Type 0} where
  -- lines and pending calls, put in order
  pub record InOrder (state : RunState S W) (receipts : List Receipt) (pending : List PendingCall) : Type 0 where
    pub lines : IsPermutation state.receipts receipts
    pub calls : IsPermutation (pending_of state.mechs) pending
    pub order : IsNonDecreasingBy (λ (r : Receipt). r.begin) receipts
    pub opened : IsNonDecreasingBy (λ (p : PendingCall). p.begin) pending

  pub in_order : (core after : CoreView S W) (receipts : List Receipt) (calls pending : List PendingCall)
      → IsPermutation core.state.receipts after.state.receipts → IsNonDecreasingBy (λ (r : Receipt). r.begin) after.state.receipts → after ≡ with_receipts after.state.receipts core
      → IsPermutation (pending_of after.state.mechs) calls → IsNonDecreasingBy (λ (p : PendingCall). p.begin) calls
      → receipts ≡ after.state.receipts → pending ≡ calls → InOrder core.state receipts pending
  in_order core after receipts calls pending same order kept moved opened is_lines is_calls =
      let mechs : after.state.mechs ≡ core.state.mechs = ap (λ (v : CoreView S W). v.state.mechs) kept in
      record {
        lines = subst (IsPermutation core.state.receipts) (sym is_lines) same;
        calls = subst (λ ms. IsPermutation (pending_of ms) pending) mechs (subst (IsPermutation (pending_of after.state.mechs)) (sym is_calls) moved);
        order = subst (IsNonDecreasingBy (λ (r : Receipt). r.begin)) (sym is_lines) order;
        opened = subst (IsNonDecreasingBy (λ (p : PendingCall). p.begin)) (sym is_calls) opened;
      }

  module _ (form : NormalForm S W) where
    -- a core that opened over the commands and was driven
    pub driven : (setup : Setup) (commands : List (Vec Op Global)) (entries schedule : List ScheduleEntry) (new core : CoreView S W) → new ≡ core_new form setup (files_of commands) → schedule ≡ entries → EntriesMade form schedule new core
        → EntriesMade form entries (core_new form setup (files_of commands)) core
    driven setup commands entries schedule new core is same follows =
        subst (λ s. EntriesMade form s (core_new form setup (files_of commands)) core) same (subst (λ v. EntriesMade form schedule v core) is follows)

    -- a core that is the run of the commands in an order
    pub can_be_written : (setup : Setup) (commands : List (Vec Op Global)) (order : List ℕ) (core : CoreView S W) → RunsCanBeWritten form → length commands ≡ setup.seats → All (λ (ops : Vec Op Global). IsCommandFile form.object ops.items) commands
        → core ≡ core_in form setup (files_of commands) order → CanBeWritten core.state (sum_by length (files_of commands))
    can_be_written setup commands order core writable count each is =
        subst (λ (v : CoreView S W). CanBeWritten v.state (sum_by length (files_of commands))) (sym is) (writable setup (files_of commands) order (files_fit form.object setup commands count each))
