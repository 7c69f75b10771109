-- The lines that were made are of the client that was found.
use Rattle.std.proofs.Common.{List, IfOk, Vec, map, subst, sym}
use Rattle.std.specs.Global.{Global}
use Rattle.lin_report.specs.declared.calls.Client.{Client}
use Rattle.lin_report.specs.declared.calls.Op.{Op}
use Rattle.client_reports.specs.Forms.{form_of}
use Rattle.client_reports.specs.Sweeps.{IsSwept}
use Rattle.client_reports.proofs.sweeping.make_lines.Goals as goal

pub returns-in-Queue : goal.returns-in-Queue
returns-in-Queue c =
    let commands : List (Vec Op Global) = c.args.commands.items in
    let Made : Client → Type 0 = λ k. IfOk c.lines_of.result (λ made. IsSwept (form_of k) c.args.cap c.args.limit c.args.most (map (λ ops. ops.items) commands) made.text.items made.exhausted) in
    subst Made (sym c.in-Queue.is) c.lines_of.ensures

pub returns-in-List : goal.returns-in-List
returns-in-List c =
    let commands : List (Vec Op Global) = c.args.commands.items in
    let Made : Client → Type 0 = λ k. IfOk c.lines_of-in-List.result (λ made. IsSwept (form_of k) c.args.cap c.args.limit c.args.most (map (λ ops. ops.items) commands) made.text.items made.exhausted) in
    subst Made (sym c.in-List.is) c.lines_of-in-List.ensures

pub returns-in-Tree : goal.returns-in-Tree
returns-in-Tree c =
    let commands : List (Vec Op Global) = c.args.commands.items in
    let Made : Client → Type 0 = λ k. IfOk c.lines_of-in-Tree.result (λ made. IsSwept (form_of k) c.args.cap c.args.limit c.args.most (map (λ ops. ops.items) commands) made.text.items made.exhausted) in
    subst Made (sym c.in-Tree.is) c.lines_of-in-Tree.ensures

pub returns-in-Buckets : goal.returns-in-Buckets
returns-in-Buckets c =
    let commands : List (Vec Op Global) = c.args.commands.items in
    let Made : Client → Type 0 = λ k. IfOk c.lines_of-in-Buckets.result (λ made. IsSwept (form_of k) c.args.cap c.args.limit c.args.most (map (λ ops. ops.items) commands) made.text.items made.exhausted) in
    subst Made (sym c.in-Buckets.is) c.lines_of-in-Buckets.ensures
