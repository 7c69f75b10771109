use Rattle.std.proofs.Common.{◌≡◌, take, drop}
use Rattle.lin_report.specs.Calls.{report_of}
use Rattle.report_check.specs.Verdicts.{verdict_from, verdict}
use Rattle.report_check.proofs.JudgedOrders.Judged.{Kept}
use Rattle.report_check.proofs.judges.judge_by.Given as goal

-- what is kept is that of the entries so far, and the verdict behind them is that on all
abbrev pub invariant-loop-name : goal.invariant-loop-name
invariant-loop-name g l =
    let object = g.S.Sequential.object in
    let report = report_of l.receipts l.pending in
    record {
      counted : l.place ≡ l.name-index;
      kept : Kept object report (take l.name-index l.order) l.marks.items l.latest (g.S.Sequential.held l.object);
      rest : verdict_from object report (take l.name-index l.order) (drop l.name-index l.order) ≡ verdict object report l.order;
    }
