use Rattle.std.proofs.Common.{arith, ◌∙◌, ◌++◌, Some, sym, ap, length, length-append, append_assoc}
use Rattle.std.specs.List.{list_any}
use Rattle.std.proofs.lemmas.List.Sorted.{list_any-IsPermutation}
use Rattle.lin_report.specs.declared.calls.Receipt.{Receipt}
use Rattle.lin_report.specs.Calls.{report_of}
use Rattle.lin_report.specs.Text.{reply_is_exhausted, summary_text}
use Rattle.fast_slow_engine.specs.Reports.{report_of_run}
use Rattle.overtaking_law.specs.Overtaking.{greatest_overtaken}
use Rattle.event_core.specs.Cores.{CoreView}
use Rattle.client_reports.specs.Sweeps.{stop_start}
use Rattle.client_reports.proofs.RunReports.{can_write, count_is, few_overtaken, in_order, summary_is}
use Rattle.client_reports.proofs.SweepRuns.{stop_can, stop_ran}
use Rattle.client_reports.proofs.sweeping.add_stop.Goals as goal

pub write_summary-requires-clause-report : goal.write_summary-requires-clause-report
write_summary-requires-clause-report g c =
    let form = g.C.Normalized.form in
    let old = c.args.core.now in
    let core = c.run_past_stop.new.core in
    let can = stop_can form old.setup old.files c.args.seats c.args.steps c.args.rounds c.requires.seats c.reset.new.self core c.reset.ensures.core c.run_past_stop.ensures.steps c.steps_run_in_order.ensures c.runs_can_be_written.ensures c.requires.files in
    let sorted = in_order core c.sort_by_begin.new.self c.receipts.result.now c.pending-pending.result.items c.as_slice.result.now c.sort_by_begin.ensures.same c.sort_by_begin.ensures.order c.sort_by_begin.ensures.kept c.pending-pending.ensures.calls c.pending-pending.ensures.order c.receipts.ensures c.as_slice.ensures.value in
    can_write core.state c.receipts.result.now c.as_slice.result.now sorted.lines sorted.calls (Some c.greatest_overtaken-overtaken.result) (few_overtaken _ _ (c.sort_by_begin.new.self.setup.few_seats) c.greatest_overtaken-overtaken.ensures.most) _ sorted.order sorted.opened can

pub returns : goal.returns
returns g c =
    let form = g.C.Normalized.form in
    let old = c.args.core.now in
    let core = c.run_past_stop.new.core in
    let ran = stop_ran form old.setup old.files c.args.seats c.args.steps c.args.rounds c.requires.seats c.reset.new.self core c.reset.ensures.core c.run_past_stop.ensures.steps c.steps_run_in_order.ensures in
    let can = stop_can form old.setup old.files c.args.seats c.args.steps c.args.rounds c.requires.seats c.reset.new.self core c.reset.ensures.core c.run_past_stop.ensures.steps c.steps_run_in_order.ensures c.runs_can_be_written.ensures c.requires.files in
    let sorted = in_order core c.sort_by_begin.new.self c.receipts.result.now c.pending-pending.result.items c.as_slice.result.now c.sort_by_begin.ensures.same c.sort_by_begin.ensures.order c.sort_by_begin.ensures.kept c.pending-pending.ensures.calls c.pending-pending.ensures.order c.receipts.ensures c.as_slice.ensures.value in
    let count = c.greatest_overtaken-overtaken.result in
    let summary = summary_text (report_of c.receipts.result.now c.as_slice.result.now) (Some count) in
    let writes = can_write core.state c.receipts.result.now c.as_slice.result.now sorted.lines sorted.calls (Some count) (few_overtaken _ _ (c.sort_by_begin.new.self.setup.few_seats) c.greatest_overtaken-overtaken.ensures.most) _ sorted.order sorted.opened can in
    let short = (c.report_text_fits.ensures (report_of c.receipts.result.now c.as_slice.result.now) (Some count) writes).1 in
    let long = ap length c.write_summary.ensures.text ∙ length-append c.start_line.new.text.items summary in
    let counted = count_is core c.sort_by_begin.new.self count c.sort_by_begin.ensures.kept c.greatest_overtaken-overtaken.ensures.count in
    let test : Receipt → _ = λ r. reply_is_exhausted r.reply in
    record {
      setup = ap (λ (v : CoreView _ _). v.setup) c.sort_by_begin.ensures.kept ∙ ap (λ (v : CoreView _ _). v.setup) ran;
      files = ap (λ (v : CoreView _ _). v.files) c.sort_by_begin.ensures.kept ∙ ap (λ (v : CoreView _ _). v.files) ran;
      text = c.write_summary.ensures.text ∙ ap (λ l. l ++ summary) c.start_line.ensures.items ∙ append_assoc c.args.text.now.items (stop_start c.args.steps) summary
          ∙ ap (λ t. c.args.text.now.items ++ (stop_start c.args.steps ++ t)) (summary_is core.state c.receipts.result.now c.as_slice.result.now sorted.lines sorted.calls (Some count) ∙ ap (λ n. summary_text (report_of_run core.state) (Some n)) counted ∙ ap (λ (v : CoreView _ _). summary_text (report_of_run v.state) (Some (greatest_overtaken v.state.events))) ran);
      len = omega (arith, c.write_summary.new.room.ok.0, long, short, c.start_line.new.text.ok.0, c.start_line.ensures.len);
      capacity = c.write_summary.ensures.capacity ∙ c.start_line.ensures.capacity;
      exhausted = c.any_exhausted.ensures ∙ ap (list_any test) (c.receipts-2.ensures ∙ sym c.receipts.ensures) ∙ sym (list_any-IsPermutation test core.state.receipts c.receipts.result.now sorted.lines) ∙ ap (λ (v : CoreView _ _). list_any test v.state.receipts) ran;
    }
