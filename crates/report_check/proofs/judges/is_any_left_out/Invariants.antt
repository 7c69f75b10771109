use Rattle.std.proofs.Common.{◌≡◌, List, false, take}
use Rattle.std.specs.List.{list_any}
use Rattle.report_check.specs.declared.orders.Named.{Named}
use Rattle.report_check.specs.Verdicts.{is_left_out}
use Rattle.report_check.specs.Tables.{Marks}
use Rattle.report_check.proofs.judges.is_any_left_out.Given as goal

-- none so far is left out
abbrev pub invariant-loop-receipt : goal.invariant-loop-receipt
invariant-loop-receipt l = (names : List Named) → Marks names l.marks → list_any (is_left_out names) (take l.receipt-index l.receipts) ≡ false
