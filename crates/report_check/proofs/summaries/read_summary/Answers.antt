use Rattle.std.proofs.Common.{◌++◌, ◌∷◌, [], refl, ap, ◌∙◌}
use Rattle.lin_report.specs.Calls.{report_of}
use Rattle.lin_report.specs.Text.{NEWLINE}
use Rattle.report_check.proofs.CallsRead.ReadBack.{tells_summary}
use Rattle.report_check.proofs.summaries.read_summary.Goals as goal

pub returns : goal.returns
returns c = λ calls knows.
    tells_summary (λ s. (s.0, s.1.now)) calls (report_of c.args.report.now.receipts.items c.args.report.now.pending.items) c.args.ticks.now c.args.count c.deref.result.now c.args.bytes.now c.line_with.result
    knows (c.if-not-are_drawn.ensures.all refl) (ap (λ front. front ++ NEWLINE ∷ []) c.deref.ensures.value ∙ c.in_ok-front.ensures) c.line_with.ensures
