use Rattle.std.proofs.Common.{List, ap, ◌∙◌, arith}
use Rattle.std.specs.List.{filter_map}
use Rattle.std.proofs.lemmas.Grind.{common_steps}
use Rattle.std.proofs.lemmas.List.{take_all}
use Rattle.std.proofs.lemmas.List.Elements.{filter_map-append}
use Rattle.report_check.specs.declared.call_lines.CallLine.{CallLine}
use Rattle.report_check.specs.CallLines.{call_of}
use Rattle.report_check.specs.Reports.{waiting_in}
use Rattle.report_check.proofs.CallsRead.Apart.{kinds_mapped}
use Rattle.report_check.proofs.parting.pending_in.Goals as goal

pub loop-call-preserved : goal.loop-call-preserved
loop-call-preserved c = grind (arith, common_steps, filter_map-append)

pub returns : goal.returns
returns c =
    c.loop-call.invariant
    ∙ ap (λ (ls : List CallLine). filter_map (λ l. waiting_in (call_of l)) ls) (take_all c.loop-call.call-index c.args.calls.now (omega arith))
    ∙ kinds_mapped waiting_in call_of c.args.calls.now
