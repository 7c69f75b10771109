use Rattle.std.proofs.Common.{ℕ, List, Bor, Vec, map, subst, sym}
use Rattle.std.specs.Global.{Global}
use Rattle.std.proofs.lemmas.List.{length-map}
use Rattle.lin_report.specs.declared.calls.Op.{Op}
use Rattle.client_reports.specs.Judging.{Accepts, files_of_bytes}
use Rattle.client_reports.proofs.BytesRun.{bytes_made}
use Rattle.client_reports.proofs.replay_bytes.replay_of_bytes.Goals as goal

pub returns-clause-report : goal.returns-clause-report
returns-clause-report c =
    let bytes_of : Bor (List ℕ) → List ℕ = λ file. file.now in
    let ops_of : Vec Op Global → List Op = λ ops. ops.items in
    let files = map bytes_of c.args.files.now in
    let entries = c.in_ok-scripts.scripts.schedule.items in
    let commands = map ops_of c.in_ok-scripts.scripts.commands.items in
    let accepts = subst (λ n. Accepts c.args.client n (files_of_bytes c.args.schedule.now files) entries commands) (sym (length-map c.args.files.now bytes_of)) c.in_ok-scripts.ensures.accepts in
    bytes_made c.args.client c.args.cap c.args.limit c.args.schedule.now files entries commands c.in_ok-made.made.text.items c.in_ok-made.made.exhausted accepts c.in_ok-made.ensures
