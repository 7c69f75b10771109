use Rattle.std.proofs.Common.{List, None, ◌++◌, ap₂, ◌∙◌, arith}
use Rattle.lin_report.specs.declared.calls.Receipt.{Receipt}
use Rattle.lin_report.specs.declared.calls.PendingCall.{PendingCall}
use Rattle.lin_report.specs.Calls.{report_of}
use Rattle.lin_report.specs.Text.{summary_text}
use Rattle.report_check.proofs.CallsRead.ReadBack.{without_newline}
use Rattle.report_check.proofs.summaries.front_of.Goals as goal

pub returns : goal.returns
returns c =
    let report = report_of c.args.report.now.receipts.items c.args.report.now.pending.items in
    let same = ap₂ (λ (rs : List Receipt) (ps : List PendingCall). summary_text (report_of rs ps) None) c.deref.ensures.value c.deref-2.ensures.value in
    let text = c.write_summary.ensures.text ∙ ap₂ (λ a b. a ++ b) c.in_ok-line.ensures.empty same in
    without_newline report c.write_summary.new.room.items c.pop.new.self.items _ text (omega arith) c.pop.ensures.rest
