use Rattle.std.proofs.Common.{◌≡◌, ◌++◌, List, map, length, take, AllPairs}
use Rattle.lin_report.specs.Calls.{Call, answered_call, IsSameCall}
use Rattle.report_check.specs.Tables.{PLACES, IsTableOf}
use Rattle.report_check.proofs.table.put_answered.Given as goal

-- the calls so far stand at their places
abbrev pub invariant-loop-receipt : goal.invariant-loop-receipt
invariant-loop-receipt l = record {
  long : length l.table.items ≡ PLACES;
  so_far : (calls : List Call) → IsTableOf calls l.fn.table.items → AllPairs (λ (c d : Call). ¬ IsSameCall c d) (calls ++ map answered_call l.receipts) → IsTableOf (calls ++ map answered_call (take l.receipt-index l.receipts)) l.table.items;
}
