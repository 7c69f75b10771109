-- The summary that was made is of the client that was found.
use Rattle.std.proofs.Common.{IfOk, subst, sym}
use Rattle.lin_report.specs.declared.calls.Client.{Client}
use Rattle.client_reports.specs.Forms.{form_of}
use Rattle.client_reports.specs.Loads.{IsLoaded}
use Rattle.client_reports.proofs.loading.make_summary.Goals as goal

pub returns-in-Queue : goal.returns-in-Queue
returns-in-Queue c =
    let Made : Client → Type 0 = λ k. IfOk c.summary_of.result (λ made. IsLoaded (form_of k) c.args.load made.text.items made.exhausted) in
    subst Made (sym c.in-Queue.is) c.summary_of.ensures

pub returns-in-List : goal.returns-in-List
returns-in-List c =
    let Made : Client → Type 0 = λ k. IfOk c.summary_of-in-List.result (λ made. IsLoaded (form_of k) c.args.load made.text.items made.exhausted) in
    subst Made (sym c.in-List.is) c.summary_of-in-List.ensures

pub returns-in-Tree : goal.returns-in-Tree
returns-in-Tree c =
    let Made : Client → Type 0 = λ k. IfOk c.summary_of-in-Tree.result (λ made. IsLoaded (form_of k) c.args.load made.text.items made.exhausted) in
    subst Made (sym c.in-Tree.is) c.summary_of-in-Tree.ensures

pub returns-in-Buckets : goal.returns-in-Buckets
returns-in-Buckets c =
    let Made : Client → Type 0 = λ k. IfOk c.summary_of-in-Buckets.result (λ made. IsLoaded (form_of k) c.args.load made.text.items made.exhausted) in
    subst Made (sym c.in-Buckets.is) c.summary_of-in-Buckets.ensures
