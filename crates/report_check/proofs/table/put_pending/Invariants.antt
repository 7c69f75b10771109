use Rattle.std.proofs.Common.{◌≡◌, ◌++◌, List, map, length, take, AllPairs}
use Rattle.lin_report.specs.Calls.{Call, pending_call, IsSameCall}
use Rattle.report_check.specs.Tables.{PLACES, IsTableOf}
use Rattle.report_check.proofs.table.put_pending.Given as goal

-- the calls so far stand at their places
abbrev pub invariant-loop-call : goal.invariant-loop-call
invariant-loop-call l = record {
  long : length l.table.items ≡ PLACES;
  so_far : (calls : List Call) → IsTableOf calls l.fn.table.items → AllPairs (λ (c d : Call). ¬ IsSameCall c d) (calls ++ map pending_call l.pending) → IsTableOf (calls ++ map pending_call (take l.call-index l.pending)) l.table.items;
}
