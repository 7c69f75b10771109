use Rattle.std.proofs.Common.{◌≡◌, List, false, sym, subst, arith}
use Rattle.std.specs.List.{list_any}
use Rattle.std.proofs.lemmas.List.{take_all}
use Rattle.lin_report.specs.declared.calls.Receipt.{Receipt}
use Rattle.report_check.specs.Verdicts.{is_left_out}
use Rattle.report_check.proofs.judges.is_any_left_out.Goals as goal

pub returns : goal.returns
returns c = λ names marked.
    sym (subst (λ (rs : List Receipt). list_any (is_left_out names) rs ≡ false) (take_all c.loop-receipt.receipt-index c.args.receipts.now (omega arith)) (c.loop-receipt.invariant names marked))
