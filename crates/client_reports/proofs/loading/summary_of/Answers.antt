use Rattle.std.proofs.Common.{◌*◌, ◌++◌, List, Vec, Some, refl, sym, ap, ◌∙◌, arith}
use Rattle.std.specs.List.{list_any}
use Rattle.std.specs.Global.{Global}
use Rattle.std.proofs.lemmas.List.{length-map}
use Rattle.lin_report.specs.declared.calls.Op.{Op}
use Rattle.lin_report.specs.declared.calls.Receipt.{Receipt}
use Rattle.lin_report.specs.Calls.{report_of}
use Rattle.lin_report.specs.Text.{reply_is_exhausted, summary_text}
use Rattle.fast_slow_engine.specs.Reports.{report_of_run}
use Rattle.event_core.specs.Cores.{CoreView}
use Rattle.schedule_runs.specs.Rounds.{rounds}
use Rattle.client_reports.proofs.LoadRuns.{as_many, each_is_file, in_order_of}
use Rattle.overtaking_law.specs.Overtaking.{greatest_overtaken}
use Rattle.client_reports.proofs.RunReports.{can_be_written, can_write, count_is, few_overtaken, files_fit, files_of, in_order, marked, summary_is}
use Rattle.client_reports.proofs.loading.summary_of.Goals as goal

pub new-requires-clause-seats : goal.new-requires-clause-seats
new-requires-clause-seats g c κs within =
    let files : List (Vec Op Global) = c.in_ok-files.files.items in
    let load = c.args.load in
    let are = c.in_ok-files.ensures.files in
    as_many files load.client load.seed load.threads load.calls are

pub new-requires-clause-files : goal.new-requires-clause-files
new-requires-clause-files g c κs within =
    let files : List (Vec Op Global) = c.in_ok-files.files.items in
    let load = c.args.load in
    let are = c.in_ok-files.ensures.files in
    each_is_file files load.client load.seed load.threads load.calls are g.C.Normalized.form.object c.requires.serves c.each_runs.ensures c.requires.calls

pub write_summary-requires-clause-report : goal.write_summary-requires-clause-report
write_summary-requires-clause-report g c =
    let files : List (Vec Op Global) = c.in_ok-files.files.items in
    let load = c.args.load in
    let are = c.in_ok-files.ensures.files in
    let each = each_is_file files load.client load.seed load.threads load.calls are g.C.Normalized.form.object c.requires.serves c.each_runs.ensures c.requires.calls in
    let count = as_many files load.client load.seed load.threads load.calls are in
    let core = c.take_rounds.new.core in
    let order = rounds load.threads (load.calls * 16384) in
    let ran = in_order_of g.C.Normalized.form _ files order c.in_ok-core.core core c.steps_run_in_order.ensures c.in_ok-core.ensures.core c.take_rounds.ensures.steps in
    let can = can_be_written g.C.Normalized.form _ files order core c.runs_can_be_written.ensures count each ran in
    let sorted = in_order core c.sort_by_begin.new.self c.receipts.result.now c.pending-pending.result.items c.as_slice.result.now c.sort_by_begin.ensures.same c.sort_by_begin.ensures.order c.sort_by_begin.ensures.kept c.pending-pending.ensures.calls c.pending-pending.ensures.order c.receipts.ensures c.as_slice.ensures.value in
    can_write core.state c.receipts.result.now c.as_slice.result.now sorted.lines sorted.calls (Some c.greatest_overtaken-overtaken.result) (few_overtaken _ _ (c.sort_by_begin.new.self.setup.few_seats) c.greatest_overtaken-overtaken.ensures.most) _ sorted.order sorted.opened can

pub returns : goal.returns
returns g c =
    let files : List (Vec Op Global) = c.in_ok-files.files.items in
    let load = c.args.load in
    let are = c.in_ok-files.ensures.files in
    let each = each_is_file files load.client load.seed load.threads load.calls are g.C.Normalized.form.object c.requires.serves c.each_runs.ensures c.requires.calls in
    let count = as_many files load.client load.seed load.threads load.calls are in
    let core = c.take_rounds.new.core in
    let order = rounds load.threads (load.calls * 16384) in
    let ran = in_order_of g.C.Normalized.form _ files order c.in_ok-core.core core c.steps_run_in_order.ensures c.in_ok-core.ensures.core c.take_rounds.ensures.steps in
    let can = can_be_written g.C.Normalized.form _ files order core c.runs_can_be_written.ensures count each ran in
    let sorted = in_order core c.sort_by_begin.new.self c.receipts.result.now c.pending-pending.result.items c.as_slice.result.now c.sort_by_begin.ensures.same c.sort_by_begin.ensures.order c.sort_by_begin.ensures.kept c.pending-pending.ensures.calls c.pending-pending.ensures.order c.receipts.ensures c.as_slice.ensures.value in
    let mark = c.any_exhausted-exhausted.ensures ∙ ap (list_any (λ (r : Receipt). reply_is_exhausted r.reply)) (c.receipts-2.ensures ∙ sym c.receipts.ensures) in
    let written = summary_is core.state c.receipts.result.now c.as_slice.result.now sorted.lines sorted.calls (Some c.greatest_overtaken-overtaken.result) in
    record {
      run = record { setup = _; commands = files_of files; order = order; report = report_of_run core.state; overtaken = c.greatest_overtaken-overtaken.result };
      generated = are;
      in_rounds = refl;
      is = record {
        has_seats = omega (arith, count, length-map files (λ (ops : Vec Op Global). ops.items));
        has_cap = refl;
        has_limit = refl;
        made = ap (λ (v : CoreView _ _). report_of_run v.state) ran;
        counted = count_is core c.sort_by_begin.new.self _ c.sort_by_begin.ensures.kept c.greatest_overtaken-overtaken.ensures.count ∙ ap (λ (v : CoreView _ _). greatest_overtaken v.state.events) ran;
      };
      headline = c.files_meet_headline.ensures _ (files_of files) order (files_fit g.C.Normalized.form.object _ files count each);
      text_is = record {
        written = c.write_summary.ensures.text ∙ ap (λ l. l ++ summary_text (report_of c.receipts.result.now c.as_slice.result.now) (Some c.greatest_overtaken-overtaken.result)) c.in_ok-text.ensures.empty ∙ written;
        marked = marked core.state c.receipts.result.now c.as_slice.result.now sorted.lines sorted.calls c.any_exhausted-exhausted.result mark;
      };
    }
