use Rattle.std.proofs.Common.{rules, ◌≡◌, ◌++◌, List, [], length, None, Vec, IsPermutation, refl, sym, ap, ◌∙◌, subst, arith}
use Rattle.std.specs.Prelude.{sum_by}
use Rattle.std.specs.List.{list_any}
use Rattle.std.specs.Global.{Global}
use Rattle.std.specs.List.Sorted.{IsNonDecreasingBy}
use Rattle.std.proofs.lemmas.List.{length-map}
use Rattle.lin_report.specs.declared.calls.Op.{Op}
use Rattle.lin_report.specs.declared.calls.Receipt.{Receipt}
use Rattle.lin_report.specs.Calls.{report_of}
use Rattle.lin_report.specs.Text.{reply_is_exhausted, report_text}
use Rattle.fast_slow_engine.specs.Reports.{report_of_run}
use Rattle.overtaking_law.specs.Overtaking.{greatest_overtaken}
use Rattle.client_reports.proofs.RunReports.{files_of, files_fit, can_write, few_lines, text_is, marked}
use Rattle.client_reports.proofs.ThreadReports.{all_lines, ran, sorted_lines, whole_run}
use Rattle.client_reports.proofs.threads.threaded.Goals as goal

pub write_report-requires-clause-room : goal.write_report-requires-clause-room
write_report-requires-clause-room g c =
    let form = g.C.Normalized.form in
    let commands : List (Vec Op Global) = c.args.commands.items in
    let files = files_of commands in
    let fit = files_fit form.object _ commands (search rules) c.requires.commands in
    let meets = c.threads_meet_headline.ensures _ files c.in_ok-lines.lines.items _ _ fit.count c.in_ok-lines.ensures.run in
    let can = c.runs_can_be_written.ensures _ files meets.order fit in
    let moved = subst (IsPermutation c.in_ok-lines.lines.items) (sym c.deref-2.ensures.value) c.sort_by_begin.ensures.same in
    let order = subst (IsNonDecreasingBy (λ (r : Receipt). r.begin)) (sym c.deref-2.ensures.value) c.sort_by_begin.ensures.order in
    let sorted = sorted_lines form _ files c.in_ok-lines.lines.items _ _ meets c.deref-2.result.now moved order in
    let state = ran form _ files c.in_ok-lines.lines.items _ _ meets in
    let count : c.commands_of.result ≡ sum_by length files = c.commands_of.ensures.count ∙ ap (λ (l : List (Vec Op Global)). sum_by length (files_of l)) c.deref.ensures.value in
    omega (arith, few_lines state c.deref-2.result.now [] sorted.lines sorted.calls _ can, count, c.in_ok-text.ensures.room)

pub write_report-requires-clause-report : goal.write_report-requires-clause-report
write_report-requires-clause-report g c =
    let form = g.C.Normalized.form in
    let commands : List (Vec Op Global) = c.args.commands.items in
    let files = files_of commands in
    let fit = files_fit form.object _ commands (search rules) c.requires.commands in
    let meets = c.threads_meet_headline.ensures _ files c.in_ok-lines.lines.items _ _ fit.count c.in_ok-lines.ensures.run in
    let can = c.runs_can_be_written.ensures _ files meets.order fit in
    let moved = subst (IsPermutation c.in_ok-lines.lines.items) (sym c.deref-2.ensures.value) c.sort_by_begin.ensures.same in
    let order = subst (IsNonDecreasingBy (λ (r : Receipt). r.begin)) (sym c.deref-2.ensures.value) c.sort_by_begin.ensures.order in
    let sorted = sorted_lines form _ files c.in_ok-lines.lines.items _ _ meets c.deref-2.result.now moved order in
    let state = ran form _ files c.in_ok-lines.lines.items _ _ meets in
    can_write state c.deref-2.result.now [] sorted.lines sorted.calls None tt _ sorted.order sorted.opened can

pub returns : goal.returns
returns g c =
    let form = g.C.Normalized.form in
    let commands : List (Vec Op Global) = c.args.commands.items in
    let files = files_of commands in
    let fit = files_fit form.object _ commands (search rules) c.requires.commands in
    let meets = c.threads_meet_headline.ensures _ files c.in_ok-lines.lines.items _ _ fit.count c.in_ok-lines.ensures.run in
    let can = c.runs_can_be_written.ensures _ files meets.order fit in
    let moved = subst (IsPermutation c.in_ok-lines.lines.items) (sym c.deref-2.ensures.value) c.sort_by_begin.ensures.same in
    let order = subst (IsNonDecreasingBy (λ (r : Receipt). r.begin)) (sym c.deref-2.ensures.value) c.sort_by_begin.ensures.order in
    let sorted = sorted_lines form _ files c.in_ok-lines.lines.items _ _ meets c.deref-2.result.now moved order in
    let state = ran form _ files c.in_ok-lines.lines.items _ _ meets in
    let mark = c.any_exhausted-exhausted.ensures ∙ ap (list_any (λ (r : Receipt). reply_is_exhausted r.reply)) (c.deref-3.ensures.value ∙ sym c.deref-2.ensures.value) in
    record {
      run = record { setup = _; commands = files; order = meets.order; report = report_of_run state; overtaken = greatest_overtaken state.events };
      of_commands = refl;
      is = record {
        runs = record {
          has_seats = omega (arith, c.len.ensures, c.args.commands.ok.0, length-map commands (λ (ops : Vec Op Global). ops.items));
          has_cap = refl;
          has_limit = refl;
          made = refl;
          counted = refl;
        };
        whole = whole_run form _ files c.in_ok-lines.lines.items _ _ meets (all_lines form _ files c.in_ok-lines.lines.items _ _ fit.count c.in_ok-lines.ensures.run);
        over = meets.over;
      };
      headline = meets.meets;
      text_is = record {
        written = c.write_report.ensures.text ∙ ap (λ l. l ++ report_text (report_of c.deref-2.result.now []) None) c.in_ok-text.ensures.empty ∙ text_is state c.deref-2.result.now [] sorted.lines sorted.calls None _ can;
        marked = marked state c.deref-2.result.now [] sorted.lines sorted.calls c.any_exhausted-exhausted.result mark;
      };
    }
