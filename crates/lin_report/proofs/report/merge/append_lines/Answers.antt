use Rattle.std.proofs.Common.{None}
use Rattle.lin_report.specs.Calls.{report_of}
use Rattle.lin_report.proofs.Merging.{answered_fits, pending_fits, progress_answered, progress_pending, all_lines}
use Rattle.lin_report.proofs.report.merge.append_lines.Goals as goal

pub append_receipt-requires : goal.append_receipt-requires
append_receipt-requires c =
    let report = report_of c.args.receipts.now c.args.pending.now in
    answered_fits report None c.requires.report c.loop-answered.answered c.loop-answered.waiting _ c.loop-answered.invariant (c.is_answered_next.ensures.answered c.if-is_answered_next.true).left

pub append_pending-requires : goal.append_pending-requires
append_pending-requires c =
    let report = report_of c.args.receipts.now c.args.pending.now in
    pending_fits report None c.requires.report c.loop-answered.answered c.loop-answered.waiting _ c.loop-answered.invariant (c.is_answered_next.ensures.pending c.if-is_answered_next.false).left

pub loop-answered-preserved-then-is_answered_next : goal.loop-answered-preserved-then-is_answered_next
loop-answered-preserved-then-is_answered_next c =
    let report = report_of c.args.receipts.now c.args.pending.now in
    progress_answered report None c.requires.report c.loop-answered.answered c.loop-answered.waiting _ c.loop-answered.invariant (c.is_answered_next.ensures.answered c.if-is_answered_next.true) c.append_receipt.ensures

pub loop-answered-preserved : goal.loop-answered-preserved
loop-answered-preserved c =
    let report = report_of c.args.receipts.now c.args.pending.now in
    progress_pending report None c.requires.report c.loop-answered.answered c.loop-answered.waiting _ c.loop-answered.invariant (c.is_answered_next.ensures.pending c.if-is_answered_next.false) c.append_pending.ensures

pub returns-clause-text : goal.returns-clause-text
returns-clause-text c =
    all_lines (report_of c.args.receipts.now c.args.pending.now) c.loop-answered.answered c.loop-answered.waiting c.loop-answered.invariant c.if-answered-receipts.false c.if-waiting-pending.false
