use Rattle.std.proofs.Common.{◌≡◌, IsTrue, IsSomeAnd, Ok, Err, Result, List, subst, sym, ap, ◌∙◌}
use Rattle.lin_report.specs.declared.calls.Op.{Op}
use Rattle.script_reader.specs.declared.causes.Refusal.{Refusal}
use Rattle.script_reader.specs.Scripts.{script_outcome}
use Rattle.client_reports.specs.Judging.{IsJudged}
use Rattle.nwf_run.specs.Reading.{FileReads}
use Rattle.nwf_run.proofs.CutFiles.{judged_script}
use Rattle.nwf_run.proofs.ReadFiles.{reads_as}
use Rattle.nwf_run.proofs.scripts.read_commands.Goals as goal

pub returns-in-Ok-clause-reads : goal.returns-in-Ok-clause-reads
returns-in-Ok-clause-reads g c = λ t.
    judged_script c.args.client (g.F.Files.held c.args.files.now c.args.name.now) c.in_ok-bytes.bytes.items (Ok c.in-Ok.ops.items) (c.in_ok-bytes.ensures.bytes t)
    (ap (script_outcome c.args.client) (sym c.deref.ensures.value) ∙ c.in-Ok.ensures.judged)

pub returns-clause-reads : goal.returns-clause-reads
returns-clause-reads g c =
    let held = g.F.Files.held c.args.files.now c.args.name.now in
    let tells = g.F.Files.tells c.args.files.now in
    let outcome = script_outcome c.args.client in
    let told : (o : Result (List Op) Refusal) → outcome c.in_ok-bytes.bytes.items ≡ o → IsTrue tells → IsSomeAnd held (λ all. outcome all ≡ o) =
    λ o e t. judged_script c.args.client held c.in_ok-bytes.bytes.items o (c.in_ok-bytes.ensures.bytes t) e in
    let judged = subst (λ b. IsJudged {X = Op} (outcome b) c.args.file (Err c.in-Err.why)) c.deref.ensures.value c.in-Err.ensures.judged in
    subst (λ s. FileReads {X = Op} tells outcome c.args.file held (Err s)) (sym c.from.ensures) (reads_as tells outcome c.args.file held c.in_ok-bytes.bytes.items told c.in-Err.why judged)
