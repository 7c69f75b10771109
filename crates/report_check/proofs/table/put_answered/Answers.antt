use Rattle.std.proofs.Common.{◌++◌, map, List, ◌∙◌, subst, arith}
use Rattle.std.proofs.Math.ListN.{length-set}
use Rattle.std.proofs.lemmas.List.{take_all}
use Rattle.lin_report.specs.declared.calls.Receipt.{Receipt}
use Rattle.lin_report.specs.Calls.{answered_call}
use Rattle.report_check.specs.Tables.{IsTableOf}
use Rattle.report_check.proofs.CallsRead.Tables.{put_at}
use Rattle.report_check.proofs.table.put_answered.Goals as goal

pub loop-receipt-preserved : goal.loop-receipt-preserved
loop-receipt-preserved c = record {
  long = length-set c.loop-receipt.table.items c.table_place.result _ ∙ c.loop-receipt.invariant.long;
  so_far = λ calls start apart.
      put_at answered_call calls c.args.receipts.now c.loop-receipt.receipt-index _ c.loop-receipt.table.items c.table_place.result (omega arith)
      (c.requires.names c.loop-receipt.receipt-index _ (omega arith)) c.table_place.ensures.place apart (c.loop-receipt.invariant.so_far calls start apart);
}

pub returns-clause-stand : goal.returns-clause-stand
returns-clause-stand c = λ calls start apart.
    subst (λ (xs : List Receipt). IsTableOf (calls ++ map answered_call xs) c.loop-receipt.table.items)
    (take_all c.loop-receipt.receipt-index c.args.receipts.now (omega arith)) (c.loop-receipt.invariant.so_far calls start apart)
