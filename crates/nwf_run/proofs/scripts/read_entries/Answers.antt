use Rattle.std.proofs.Common.{◌≡◌, IsTrue, IsSomeAnd, Ok, Err, Result, List, subst, sym, ap, ◌∙◌}
use Rattle.script_reader.specs.declared.causes.Refusal.{Refusal}
use Rattle.script_reader.specs.declared.schedules.ScheduleEntry.{ScheduleEntry}
use Rattle.script_reader.specs.Schedules.{schedule_outcome}
use Rattle.client_reports.specs.Judging.{IsJudged}
use Rattle.nwf_run.specs.Reading.{FileReads}
use Rattle.nwf_run.proofs.CutFiles.{judged_schedule}
use Rattle.nwf_run.proofs.ReadFiles.{reads_as}
use Rattle.nwf_run.proofs.scripts.read_entries.Goals as goal

pub returns-in-Ok-clause-reads : goal.returns-in-Ok-clause-reads
returns-in-Ok-clause-reads g c = λ t.
    judged_schedule c.args.seats (g.F.Files.held c.args.files.now c.args.name.now) c.in_ok-bytes.bytes.items (Ok c.in-Ok.entries.items) (c.in_ok-bytes.ensures.bytes t)
    (ap (schedule_outcome c.args.seats) (sym c.deref.ensures.value) ∙ c.in-Ok.ensures.judged)

pub returns-clause-reads : goal.returns-clause-reads
returns-clause-reads g c =
    let held = g.F.Files.held c.args.files.now c.args.name.now in
    let tells = g.F.Files.tells c.args.files.now in
    let outcome = schedule_outcome c.args.seats in
    let told : (o : Result (List ScheduleEntry) Refusal) → outcome c.in_ok-bytes.bytes.items ≡ o → IsTrue tells → IsSomeAnd held (λ all. outcome all ≡ o) =
    λ o e t. judged_schedule c.args.seats held c.in_ok-bytes.bytes.items o (c.in_ok-bytes.ensures.bytes t) e in
    let judged = subst (λ b. IsJudged {X = ScheduleEntry} (outcome b) 0 (Err c.in-Err.why)) c.deref.ensures.value c.in-Err.ensures.judged in
    subst (λ s. FileReads {X = ScheduleEntry} tells outcome 0 held (Err s)) (sym c.from.ensures) (reads_as tells outcome 0 held c.in_ok-bytes.bytes.items told c.in-Err.why judged)
