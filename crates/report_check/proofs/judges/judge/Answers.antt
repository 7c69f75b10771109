use Rattle.std.proofs.Common.{sym, subst}
use Rattle.lin_report.specs.declared.calls.Client.{Client}
use Rattle.lin_report.specs.declared.calls.Client.TheVariants as client
use Rattle.lin_report.specs.Object.{object_of}
use Rattle.lin_report.specs.Calls.{report_of}
use Rattle.report_check.specs.Judging.{CanJudge}
use Rattle.report_check.proofs.JudgedOrders.RightIsLegal.{answers_fairly}
use Rattle.report_check.proofs.JudgedOrders.SetsOfBuckets.{can_as_list, judged_as_set}
use Rattle.report_check.proofs.judges.judge.Goals as goal

pub returns-in-Queue-clause-fair : goal.returns-in-Queue-clause-fair
returns-in-Queue-clause-fair c =
    answers_fairly c.args.client client.Queue (report_of c.args.receipts.now c.args.pending.now) c.args.order.now c.judge_by.result c.in-Queue.is c.requires.report c.judge_by.ensures

pub returns-in-List-clause-fair : goal.returns-in-List-clause-fair
returns-in-List-clause-fair c =
    answers_fairly c.args.client client.List (report_of c.args.receipts.now c.args.pending.now) c.args.order.now c.judge_by-in-List.result c.in-List.is c.requires.report c.judge_by-in-List.ensures

pub judge_by-requires-in-Buckets-clause-report : goal.judge_by-requires-in-Buckets-clause-report
judge_by-requires-in-Buckets-clause-report c =
    let report = report_of c.args.receipts.now c.args.pending.now in
    can_as_list report (subst (λ (k : Client). CanJudge (object_of k) report) c.in-Buckets.is c.requires.report)

pub returns-in-Buckets-clause-verdict : goal.returns-in-Buckets-clause-verdict
returns-in-Buckets-clause-verdict c =
    rw c.in-Buckets.is (judged_as_set (report_of c.args.receipts.now c.args.pending.now) c.args.order.now c.judge_by-in-Buckets.result c.judge_by-in-Buckets.ensures)

pub returns-in-Buckets-clause-fair : goal.returns-in-Buckets-clause-fair
returns-in-Buckets-clause-fair c =
    let report = report_of c.args.receipts.now c.args.pending.now in
    answers_fairly c.args.client client.Buckets report c.args.order.now c.judge_by-in-Buckets.result c.in-Buckets.is c.requires.report
    (judged_as_set report c.args.order.now c.judge_by-in-Buckets.result c.judge_by-in-Buckets.ensures)

pub returns-in-Tree-clause-fair : goal.returns-in-Tree-clause-fair
returns-in-Tree-clause-fair c =
    answers_fairly c.args.client client.Tree (report_of c.args.receipts.now c.args.pending.now) c.args.order.now c.judge_by-in-Tree.result c.in-Tree.is c.requires.report c.judge_by-in-Tree.ensures
