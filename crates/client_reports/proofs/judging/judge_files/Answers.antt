use Rattle.std.proofs.Common.{rules, ◌≡◌, ◌<◌, ◌≤◌, ◌+◌, ◌++◌, ◌∷◌, [], ℕ, List, Bor, Some, Ok, Err, IsSomeAnd, Vec, All, length, map, get_or, subst, sym, ap, ◌∙◌, arith}
use Rattle.std.specs.Global.{Global}
use Rattle.std.proofs.lemmas.List.{length-map, map-append}
use Rattle.std.proofs.lemmas.List.Elements.{All-push}
use Rattle.lin_report.specs.declared.calls.Op.{Op}
use Rattle.lin_report.specs.CommandFiles.{IsCommandFile}
use Rattle.lin_report.specs.Object.{object_of}
use Rattle.script_reader.specs.Scripts.{script_outcome}
use Rattle.client_reports.specs.Judging.{IsJudged, IsReason, SayFirst, files_of_bytes}
use Rattle.client_reports.proofs.JudgedFiles.{say_more, told_err}
use Rattle.client_reports.proofs.JudgedBytes.{file_at, reason_next}
use Rattle.client_reports.proofs.judging.judge_files.Goals as goal

pub returns-in_err-ops-clause-refused : goal.returns-in_err-ops-clause-refused
returns-in_err-ops-clause-refused c =
    let files = c.args.files.now in
    let bytes_of : Bor (List ℕ) → List ℕ = λ file. file.now in
    let all = files_of_bytes c.args.schedule.now (map bytes_of files) in
    let ops_of : Vec Op Global → List Op = λ ops. ops.items in
    let done : List (Vec Op Global) = c.loop-bytes.commands.items in
    let commands = map ops_of done in
    let client = c.args.client in
    let here : Bor (List ℕ) = get_or files c.loop-bytes.bytes-index (record { ref_ptr = (0, 0); now = [] }) in
    let within : c.loop-bytes.bytes-index < length files = search rules in
    let place : c.loop-bytes.bytes-index ≡ length commands = omega (arith, length-map done ops_of, c.loop-bytes.commands.ok.0, c.loop-bytes.invariant.count) in
    let number : c.len.result ≡ length commands = omega (arith, c.len.ensures, length-map done ops_of, c.loop-bytes.commands.ok.0) in
    let why = c.in_err-ops.field-0.0 in
    let judged = subst (λ n. IsJudged {X = Op} (script_outcome client here.now) (n + 1) (Err why)) number c.in_err-ops.ensures.judged in
    let at = subst (λ n. all (n + 1) ≡ Some here.now) place (file_at c.args.schedule.now files c.loop-bytes.bytes-index (record { ref_ptr = (0, 0); now = [] }) within) in
    let few : length commands + 1 ≤ length files = omega (arith, place, within) in
    let reason = reason_next c.args.client (length files) all c.in_ok-entries.entries.items c.in_ok-entries.ensures.judged commands c.loop-bytes.invariant.say few here.now at why judged in
    told_err (IsReason c.args.client (length files) all) c.from_residual-in_err-ops.result why (search rules) reason

pub loop-bytes-preserved : goal.loop-bytes-preserved
loop-bytes-preserved c =
    let files = c.args.files.now in
    let bytes_of : Bor (List ℕ) → List ℕ = λ file. file.now in
    let all = files_of_bytes c.args.schedule.now (map bytes_of files) in
    let ops_of : Vec Op Global → List Op = λ ops. ops.items in
    let done : List (Vec Op Global) = c.loop-bytes.commands.items in
    let commands = map ops_of done in
    let client = c.args.client in
    let ops = c.in_ok-ops.ops.items in
    let more = c.push_reserved.ensures.items in
    let here : Bor (List ℕ) = get_or files c.loop-bytes.bytes-index (record { ref_ptr = (0, 0); now = [] }) in
    let within : c.loop-bytes.bytes-index < length files = search rules in
    let place : c.loop-bytes.bytes-index ≡ length commands = omega (arith, length-map done ops_of, c.loop-bytes.commands.ok.0, c.loop-bytes.invariant.count) in
    let at = subst (λ n. all (n + 1) ≡ Some here.now) place (file_at c.args.schedule.now files c.loop-bytes.bytes-index (record { ref_ptr = (0, 0); now = [] }) within) in
    let told = subst (λ o. IsSomeAnd o (λ bytes. script_outcome client bytes ≡ Ok ops)) (sym at) c.in_ok-ops.ensures.judged in
    let same : commands ++ ops ∷ [] ≡ map ops_of c.push_reserved.new.self.items = sym (ap (map ops_of) more ∙ map-append ops_of done (c.in_ok-ops.ops ∷ [])) in
    record {
      say = subst (SayFirst c.args.client (length files) all) same (say_more c.args.client (length files) all commands ops c.loop-bytes.invariant.say told);
      commands = subst (All (λ (o : Vec Op Global). IsCommandFile (object_of client) o.items)) (sym more) (All-push (λ (o : Vec Op Global). IsCommandFile (object_of client) o.items) done c.in_ok-ops.ops c.loop-bytes.invariant.commands c.in_ok-ops.ensures.commands);
      count = search rules;
      room = search rules;
    }
