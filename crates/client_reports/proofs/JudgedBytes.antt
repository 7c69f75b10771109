-- Bytes judged one file after the other.
use Rattle.std.proofs.Common.{◌≡◌, ℕ, ◌+◌, ◌<◌, ◌≤◌, cond, Bor, List, [], length, map, get_or, ◌-◌, Option, Some, Ok, Err, IsSomeAnd, sym, ap, ◌∙◌, subst, arith}
use Rattle.std.specs.List.{slice_get}
use Rattle.std.proofs.lemmas.List.{get_or-map, length-map}
use Rattle.std.proofs.lemmas.Option.{slice_get-get_or}
use Rattle.lin_report.specs.declared.calls.Op.{Op}
use Rattle.script_reader.specs.declared.schedules.ScheduleEntry.{ScheduleEntry}
use Rattle.script_reader.specs.Schedules.{schedule_outcome}
use Rattle.script_reader.specs.Scripts.{script_outcome}
use Rattle.client_reports.specs.declared.no_report.NoReport.{NoReport}
use Rattle.client_reports.specs.declared.no_report.NoReport.TheVariants.{Refused, NoMemory}
use Rattle.lin_report.specs.declared.calls.Client.{Client}
use Rattle.client_reports.specs.Judging.{IsFirstRefused, IsJudged, IsReason, SayFirst, files_of_bytes}
use Rattle.client_reports.proofs.JudgedFiles.{back, counted, refused_after, refused_next}

-- the bytes of a command file, by its place
pub file_at : (schedule : List ℕ) (files : List (Bor (List ℕ))) (k : ℕ) (d : Bor (List ℕ)) → k < length files → files_of_bytes schedule (map (λ (file : Bor (List ℕ)). file.now) files) (k + 1) ≡ Some (get_or files k d).now
file_at schedule files k d within =
    let bytes_of : Bor (List ℕ) → List ℕ = λ file. file.now in
    let all = map bytes_of files in
    let below : k < length all = omega (arith, within, length-map files bytes_of) in
    ap (λ b. cond b (Some schedule) (slice_get all (k + 1 - 1))) (counted k)
    ∙ ap (λ n. slice_get all n) (back k)
    ∙ slice_get-get_or all k [] below
    ∙ ap (λ (bytes : List ℕ). Some bytes) (get_or-map bytes_of files k d [] within)

-- the schedule and the first command files are accepted, and the next one has no commands
pub reason_next : (client : Client) (seats : ℕ) (files : ℕ → Option (List ℕ)) (entries : List ScheduleEntry) → IsSomeAnd (files 0) (λ bytes. schedule_outcome seats bytes ≡ Ok entries)
    → (commands : List (List Op)) → SayFirst client seats files commands → length commands + 1 ≤ seats → (bytes : List ℕ) → files (length commands + 1) ≡ Some bytes
    → (why : NoReport) → IsJudged {X = Op} (script_outcome client bytes) (length commands + 1) (Err why) → IsReason client seats files why
reason_next client seats files entries schedule commands say few bytes at (Refused file refusal) judged =
    subst (λ n. IsFirstRefused client seats files 0 n refusal) (sym judged.0)
    (refused_after client seats files entries schedule (length commands + 1) refusal (refused_next client seats files commands refusal say few (subst (λ o. IsSomeAnd o (λ b. script_outcome client b ≡ Err refusal)) (sym at) judged.1)))
reason_next client seats files entries schedule commands say few bytes at NoMemory judged = tt
