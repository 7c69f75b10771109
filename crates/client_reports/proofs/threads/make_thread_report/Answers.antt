-- The report that was made is of the client that was found.
use Rattle.std.proofs.Common.{List, IfOk, Vec, map, subst, sym}
use Rattle.std.specs.Global.{Global}
use Rattle.lin_report.specs.declared.calls.Client.{Client}
use Rattle.lin_report.specs.declared.calls.Op.{Op}
use Rattle.client_reports.specs.Forms.{form_of}
use Rattle.client_reports.specs.Running.{IsThreaded}
use Rattle.client_reports.proofs.threads.make_thread_report.Goals as goal

pub returns-in-Queue : goal.returns-in-Queue
returns-in-Queue g c =
    let commands : List (Vec Op Global) = c.args.commands.items in
    let Made : Client → Type 0 = λ k. IfOk c.threaded.result (λ made. IsThreaded (form_of k) c.args.cap c.args.limit (map (λ ops. ops.items) commands) made.text.items made.exhausted) in
    subst Made (sym c.in-Queue.is) c.threaded.ensures

pub returns-in-List : goal.returns-in-List
returns-in-List g c =
    let commands : List (Vec Op Global) = c.args.commands.items in
    let Made : Client → Type 0 = λ k. IfOk c.threaded-in-List.result (λ made. IsThreaded (form_of k) c.args.cap c.args.limit (map (λ ops. ops.items) commands) made.text.items made.exhausted) in
    subst Made (sym c.in-List.is) c.threaded-in-List.ensures

pub returns-in-Tree : goal.returns-in-Tree
returns-in-Tree g c =
    let commands : List (Vec Op Global) = c.args.commands.items in
    let Made : Client → Type 0 = λ k. IfOk c.threaded-in-Tree.result (λ made. IsThreaded (form_of k) c.args.cap c.args.limit (map (λ ops. ops.items) commands) made.text.items made.exhausted) in
    subst Made (sym c.in-Tree.is) c.threaded-in-Tree.ensures

pub returns-in-Buckets : goal.returns-in-Buckets
returns-in-Buckets g c =
    let commands : List (Vec Op Global) = c.args.commands.items in
    let Made : Client → Type 0 = λ k. IfOk c.threaded-in-Buckets.result (λ made. IsThreaded (form_of k) c.args.cap c.args.limit (map (λ ops. ops.items) commands) made.text.items made.exhausted) in
    subst Made (sym c.in-Buckets.is) c.threaded-in-Buckets.ensures
