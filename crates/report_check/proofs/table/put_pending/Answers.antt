use Rattle.std.proofs.Common.{◌++◌, map, List, ◌∙◌, subst, arith}
use Rattle.std.proofs.Math.ListN.{length-set}
use Rattle.std.proofs.lemmas.List.{take_all}
use Rattle.lin_report.specs.declared.calls.PendingCall.{PendingCall}
use Rattle.lin_report.specs.Calls.{pending_call}
use Rattle.report_check.specs.Tables.{IsTableOf}
use Rattle.report_check.proofs.CallsRead.Tables.{put_at}
use Rattle.report_check.proofs.table.put_pending.Goals as goal

pub loop-call-preserved : goal.loop-call-preserved
loop-call-preserved c = record {
  long = length-set c.loop-call.table.items c.table_place.result _ ∙ c.loop-call.invariant.long;
  so_far = λ calls start apart.
      put_at pending_call calls c.args.pending.now c.loop-call.call-index _ c.loop-call.table.items c.table_place.result (omega arith)
      (c.requires.names c.loop-call.call-index _ (omega arith)) c.table_place.ensures.place apart (c.loop-call.invariant.so_far calls start apart);
}

pub returns-clause-stand : goal.returns-clause-stand
returns-clause-stand c = λ calls start apart.
    subst (λ (xs : List PendingCall). IsTableOf (calls ++ map pending_call xs) c.loop-call.table.items)
    (take_all c.loop-call.call-index c.args.pending.now (omega arith)) (c.loop-call.invariant.so_far calls start apart)
