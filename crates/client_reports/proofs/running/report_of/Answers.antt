use Rattle.std.proofs.Common.{rules, ◌≡◌, ◌++◌, List, length, Some, Vec, refl, sym, ap, ◌∙◌, arith}
use Rattle.std.specs.Prelude.{sum_by}
use Rattle.std.specs.List.{list_any}
use Rattle.std.specs.Global.{Global}
use Rattle.std.proofs.lemmas.List.{length-map}
use Rattle.lin_report.specs.declared.calls.Op.{Op}
use Rattle.lin_report.specs.declared.calls.Receipt.{Receipt}
use Rattle.lin_report.specs.Calls.{report_of}
use Rattle.lin_report.specs.Text.{reply_is_exhausted, report_text}
use Rattle.fast_slow_engine.specs.Reports.{report_of_run}
use Rattle.event_core.specs.Cores.{CoreView}
use Rattle.overtaking_law.specs.Overtaking.{greatest_overtaken}
use Rattle.client_reports.proofs.RunReports.{can_be_written, can_write, count_is, driven, few_lines, few_overtaken, files_fit, files_of, in_order, marked, text_is}
use Rattle.client_reports.proofs.running.report_of.Goals as goal

pub write_report-requires-clause-room : goal.write_report-requires-clause-room
write_report-requires-clause-room g c =
    let commands : List (Vec Op Global) = c.args.scripts.commands.items in
    let core = c.drive.new.core in
    let follows = driven g.C.Normalized.form _ commands c.args.scripts.schedule.items c.deref-2.result.now c.in_ok-core.core core c.in_ok-core.ensures.core c.deref-2.ensures.value c.drive.ensures.follows in
    let ordered = c.runs_in_order.ensures _ (files_of commands) c.args.scripts.schedule.items core follows in
    let can = can_be_written g.C.Normalized.form _ commands ordered.0 core c.runs_can_be_written.ensures (search rules) c.requires.commands ordered.2 in
    let sorted = in_order core c.sort_by_begin.new.self c.receipts.result.now c.pending-pending.result.items c.as_slice.result.now c.sort_by_begin.ensures.same c.sort_by_begin.ensures.order c.sort_by_begin.ensures.kept c.pending-pending.ensures.calls c.pending-pending.ensures.order c.receipts.ensures c.as_slice.ensures.value in
    let count : c.commands_of.result ≡ sum_by length (files_of commands) = c.commands_of.ensures.count ∙ ap (λ (l : List (Vec Op Global)). sum_by length (files_of l)) c.deref.ensures.value in
    omega (arith, few_lines core.state c.receipts.result.now c.as_slice.result.now sorted.lines sorted.calls _ can, count, c.in_ok-text.ensures.room)

pub write_report-requires-clause-report : goal.write_report-requires-clause-report
write_report-requires-clause-report g c =
    let commands : List (Vec Op Global) = c.args.scripts.commands.items in
    let core = c.drive.new.core in
    let follows = driven g.C.Normalized.form _ commands c.args.scripts.schedule.items c.deref-2.result.now c.in_ok-core.core core c.in_ok-core.ensures.core c.deref-2.ensures.value c.drive.ensures.follows in
    let ordered = c.runs_in_order.ensures _ (files_of commands) c.args.scripts.schedule.items core follows in
    let can = can_be_written g.C.Normalized.form _ commands ordered.0 core c.runs_can_be_written.ensures (search rules) c.requires.commands ordered.2 in
    let sorted = in_order core c.sort_by_begin.new.self c.receipts.result.now c.pending-pending.result.items c.as_slice.result.now c.sort_by_begin.ensures.same c.sort_by_begin.ensures.order c.sort_by_begin.ensures.kept c.pending-pending.ensures.calls c.pending-pending.ensures.order c.receipts.ensures c.as_slice.ensures.value in
    can_write core.state c.receipts.result.now c.as_slice.result.now sorted.lines sorted.calls (Some c.greatest_overtaken-overtaken.result) (few_overtaken _ _ (c.sort_by_begin.new.self.setup.few_seats) c.greatest_overtaken-overtaken.ensures.most) _ sorted.order sorted.opened can

pub returns : goal.returns
returns g c =
    let commands : List (Vec Op Global) = c.args.scripts.commands.items in
    let core = c.drive.new.core in
    let follows = driven g.C.Normalized.form _ commands c.args.scripts.schedule.items c.deref-2.result.now c.in_ok-core.core core c.in_ok-core.ensures.core c.deref-2.ensures.value c.drive.ensures.follows in
    let ordered = c.runs_in_order.ensures _ (files_of commands) c.args.scripts.schedule.items core follows in
    let can = can_be_written g.C.Normalized.form _ commands ordered.0 core c.runs_can_be_written.ensures (search rules) c.requires.commands ordered.2 in
    let sorted = in_order core c.sort_by_begin.new.self c.receipts.result.now c.pending-pending.result.items c.as_slice.result.now c.sort_by_begin.ensures.same c.sort_by_begin.ensures.order c.sort_by_begin.ensures.kept c.pending-pending.ensures.calls c.pending-pending.ensures.order c.receipts.ensures c.as_slice.ensures.value in
    let mark = c.any_exhausted-exhausted.ensures ∙ ap (list_any (λ (r : Receipt). reply_is_exhausted r.reply)) (c.receipts-2.ensures ∙ sym c.receipts.ensures) in
    let written = text_is core.state c.receipts.result.now c.as_slice.result.now sorted.lines sorted.calls (Some c.greatest_overtaken-overtaken.result) _ can in
    record {
      run = record { setup = _; commands = files_of commands; order = ordered.0; report = report_of_run core.state; overtaken = c.greatest_overtaken-overtaken.result };
      of_commands = refl;
      named = ordered.1;
      is = record {
        has_seats = omega (arith, c.len.ensures, c.args.scripts.commands.ok.0, length-map commands (λ (ops : Vec Op Global). ops.items));
        has_cap = refl;
        has_limit = refl;
        made = ap (λ (v : CoreView _ _). report_of_run v.state) ordered.2;
        counted = count_is core c.sort_by_begin.new.self _ c.sort_by_begin.ensures.kept c.greatest_overtaken-overtaken.ensures.count ∙ ap (λ (v : CoreView _ _). greatest_overtaken v.state.events) ordered.2;
      };
      headline = c.files_meet_headline.ensures _ (files_of commands) ordered.0 (files_fit g.C.Normalized.form.object _ commands (search rules) c.requires.commands);
      text_is = record {
        written = c.write_report.ensures.text ∙ ap (λ l. l ++ report_text (report_of c.receipts.result.now c.as_slice.result.now) (Some c.greatest_overtaken-overtaken.result)) c.in_ok-text.ensures.empty ∙ written;
        marked = marked core.state c.receipts.result.now c.as_slice.result.now sorted.lines sorted.calls c.any_exhausted-exhausted.result mark;
      };
    }
