-- The report that was made is of the client that was found.
use Rattle.std.proofs.Common.{List, IfOk, Vec, map, subst, sym}
use Rattle.std.specs.Global.{Global}
use Rattle.lin_report.specs.declared.calls.Client.{Client}
use Rattle.lin_report.specs.declared.calls.Op.{Op}
use Rattle.client_reports.specs.Forms.{form_of}
use Rattle.client_reports.specs.Runs.{IsDriven}
use Rattle.client_reports.proofs.running.make_report.Goals as goal

pub returns-in-Queue : goal.returns-in-Queue
returns-in-Queue c =
    let commands : List (Vec Op Global) = c.args.scripts.commands.items in
    let Made : Client → Type 0 = λ k. IfOk c.report_of.result (λ made. IsDriven (form_of k) c.args.cap c.args.limit c.args.scripts.schedule.items (map (λ ops. ops.items) commands) made.text.items made.exhausted) in
    subst Made (sym c.in-Queue.is) c.report_of.ensures

pub returns-in-List : goal.returns-in-List
returns-in-List c =
    let commands : List (Vec Op Global) = c.args.scripts.commands.items in
    let Made : Client → Type 0 = λ k. IfOk c.report_of-in-List.result (λ made. IsDriven (form_of k) c.args.cap c.args.limit c.args.scripts.schedule.items (map (λ ops. ops.items) commands) made.text.items made.exhausted) in
    subst Made (sym c.in-List.is) c.report_of-in-List.ensures

pub returns-in-Tree : goal.returns-in-Tree
returns-in-Tree c =
    let commands : List (Vec Op Global) = c.args.scripts.commands.items in
    let Made : Client → Type 0 = λ k. IfOk c.report_of-in-Tree.result (λ made. IsDriven (form_of k) c.args.cap c.args.limit c.args.scripts.schedule.items (map (λ ops. ops.items) commands) made.text.items made.exhausted) in
    subst Made (sym c.in-Tree.is) c.report_of-in-Tree.ensures

pub returns-in-Buckets : goal.returns-in-Buckets
returns-in-Buckets c =
    let commands : List (Vec Op Global) = c.args.scripts.commands.items in
    let Made : Client → Type 0 = λ k. IfOk c.report_of-in-Buckets.result (λ made. IsDriven (form_of k) c.args.cap c.args.limit c.args.scripts.schedule.items (map (λ ops. ops.items) commands) made.text.items made.exhausted) in
    subst Made (sym c.in-Buckets.is) c.report_of-in-Buckets.ensures
