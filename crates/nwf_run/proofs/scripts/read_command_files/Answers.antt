use Rattle.std.proofs.Common.{rules, ◌≡◌, ◌<◌, ◌≤◌, ◌+◌, ◌++◌, ◌∷◌, [], IsTrue, List, Ok, Err, IsSomeAnd, Vec, All, length, map, get_or, string_bytes, refl, subst, sym, ap, ◌∙◌, arith}
use Rattle.std.specs.Global.{Global}
use Rattle.std.proofs.lemmas.List.{get_or-map, length-map, map-append}
use Rattle.std.proofs.lemmas.List.Elements.{All-push}
use Rattle.lin_report.specs.declared.calls.Op.{Op}
use Rattle.lin_report.specs.CommandFiles.{IsCommandFile}
use Rattle.lin_report.specs.Object.{object_of}
use Rattle.script_reader.specs.Scripts.{script_outcome}
use Rattle.nwf_run.specs.Said.{said_run}
use Rattle.client_reports.specs.Judging.{SayFirst}
use Rattle.nwf_run.specs.Reading.{FileReads, Opens, OpensUntil, StopsReading, files_by_name, name_of}
use Rattle.client_reports.proofs.JudgedFiles.{say_more, told_err}
use Rattle.nwf_run.proofs.ReadFiles.{name_at, opens_more, opens_until, stops_next}
use Rattle.nwf_run.proofs.scripts.read_command_files.Goals as goal

pub loop-name-init : goal.loop-name-init
loop-name-init g c =
    let ops_of : Vec Op Global → List Op = λ ops. ops.items in
    let none : length c.in-Ok.commands.items ≡ 0 = search rules in
    record {
      say = λ t k below. absurd (omega (arith, below, none, length-map c.in-Ok.commands.items ops_of));
      commands = search rules;
      count = search rules;
      room = search rules;
      tells = search rules;
      held = search rules;
      opened = refl;
      calm = search rules;
    }

pub returns-in_err-ops-clause-stops : goal.returns-in_err-ops-clause-stops
returns-in_err-ops-clause-stops g c =
    let words = c.args.words.now in
    let tells = g.F.Files.tells c.args.files.now in
    let held = g.F.Files.held c.args.files.now in
    let outcome = script_outcome words.client in
    let ops_of : Vec Op Global → List Op = λ ops. ops.items in
    let done : List (Vec Op Global) = c.loop-name.commands.items in
    let commands = map ops_of done in
    let within : c.loop-name.name-index < length words.files.now = search rules in
    let place : length commands ≡ c.loop-name.name-index = omega (arith, length-map done ops_of, c.loop-name.commands.ok.0, c.loop-name.invariant.count) in
    let name : c.as_str.result.now ≡ get_or (map string_bytes words.files.now) (length commands) [] =
    c.as_str.ensures.value
    ∙ ap string_bytes c.name-item.is
    ∙ sym (get_or-map string_bytes words.files.now c.loop-name.name-index c.name-item.result [] within)
    ∙ ap (λ n. get_or (map string_bytes words.files.now) n []) (sym place) in
    let number : c.len.result ≡ length commands = omega (arith, c.len.ensures, length-map done ops_of, c.loop-name.commands.ok.0) in
    let stop = c.in_err-ops.field-0.0 in
    let told = subst (λ b. FileReads {X = Op} b outcome (length commands + 1) (held (get_or (map string_bytes words.files.now) (length commands) [])) (Err stop)) c.loop-name.invariant.tells
    (subst (λ o. FileReads {X = Op} (g.F.Files.tells c.loop-name.files) outcome (length commands + 1) o (Err stop)) (c.loop-name.invariant.held c.as_str.result.now ∙ ap held name)
    (subst (λ n. FileReads {X = Op} (g.F.Files.tells c.loop-name.files) outcome (n + 1) (g.F.Files.held c.loop-name.files c.as_str.result.now) (Err stop)) number c.in_err-ops.ensures.reads)) in
    let few : length commands < length (map string_bytes words.files.now) = omega (arith, place, within, length-map words.files.now string_bytes) in
    let here = stops_next tells held (said_run words) commands c.loop-name.invariant.say few stop told in
    told_err (StopsReading tells held (said_run words)) c.from_residual.result stop (search rules) here

pub returns-in_err-ops-clause-opened : goal.returns-in_err-ops-clause-opened
returns-in_err-ops-clause-opened g c =
    let words = c.args.words.now in
    let faults = g.F.Files.faults c.args.files.now in
    let before = g.F.Files.opened c.args.files.now in
    let index = c.loop-name.name-index in
    let within : index < length words.files.now = search rules in
    let name : c.as_str.result.now ≡ name_of (said_run words) (index + 1) =
    c.as_str.ensures.value
    ∙ ap string_bytes c.name-item.is
    ∙ sym (get_or-map string_bytes words.files.now index c.name-item.result [] within)
    ∙ sym (name_at (said_run words) index) in
    let number : c.len.result ≡ index = omega (arith, c.len.ensures, c.loop-name.commands.ok.0, c.loop-name.invariant.count) in
    let stop = c.in_err-ops.field-0.0 in
    let read = subst (λ n. FileReads {X = Op} (g.F.Files.tells c.loop-name.files) (script_outcome words.client) (n + 1) (g.F.Files.held c.loop-name.files c.as_str.result.now) (Err stop)) number c.in_err-ops.ensures.reads in
    let opens = opens_more (said_run words) faults before (index + 1) (g.F.Files.opened c.loop-name.files) (g.F.Files.opened c.read_commands.new.files) c.as_str.result.now (g.F.Files.faults c.loop-name.files) (omega arith) c.loop-name.invariant.opened c.read_commands.ensures.opened name c.loop-name.invariant.calm in
    let few : index + 1 ≤ length (map string_bytes words.files.now) = omega (arith, within, length-map words.files.now string_bytes) in
    let here = opens_until (said_run words) faults before (Vec (Vec Op Global) Global) (g.F.Files.tells c.loop-name.files) (script_outcome words.client) (g.F.Files.held c.loop-name.files c.as_str.result.now) (index + 1) (g.F.Files.opened c.read_commands.new.files) few opens stop read in
    let is : c.from_residual.result ≡ Err stop = search rules in
    subst (OpensUntil (said_run words) faults before (g.F.Files.opened c.read_commands.new.files)) (sym is) here

pub loop-name-preserved : goal.loop-name-preserved
loop-name-preserved g c =
    let words = c.args.words.now in
    let tells = g.F.Files.tells c.args.files.now in
    let held = g.F.Files.held c.args.files.now in
    let index = c.loop-name.name-index in
    let ops_of : Vec Op Global → List Op = λ ops. ops.items in
    let done : List (Vec Op Global) = c.loop-name.commands.items in
    let commands = map ops_of done in
    let client = words.client in
    let ops = c.in_ok-ops.ops.items in
    let more = c.push_reserved.ensures.items in
    let within : index < length words.files.now = search rules in
    let place : index ≡ length commands = omega (arith, length-map done ops_of, c.loop-name.commands.ok.0, c.loop-name.invariant.count) in
    let name : c.as_str.result.now ≡ name_of (said_run words) (index + 1) =
    c.as_str.ensures.value
    ∙ ap string_bytes c.name-item.is
    ∙ sym (get_or-map string_bytes words.files.now index c.name-item.result [] within)
    ∙ sym (name_at (said_run words) index) in
    let read : IsTrue tells → IsSomeAnd (held c.as_str.result.now) (λ bytes. script_outcome client bytes ≡ Ok ops) =
    subst (λ b. IsTrue b → IsSomeAnd (held c.as_str.result.now) (λ bytes. script_outcome client bytes ≡ Ok ops)) c.loop-name.invariant.tells
    (subst (λ o. IsTrue (g.F.Files.tells c.loop-name.files) → IsSomeAnd o (λ bytes. script_outcome client bytes ≡ Ok ops)) (c.loop-name.invariant.held c.as_str.result.now) c.in_ok-ops.ensures.reads) in
    let told : IsTrue tells → IsSomeAnd (files_by_name held (said_run words) (length commands + 1)) (λ bytes. script_outcome client bytes ≡ Ok ops) =
    λ t. subst (λ n. IsSomeAnd (held n) (λ bytes. script_outcome client bytes ≡ Ok ops)) (name ∙ ap (λ n. name_of (said_run words) (n + 1)) place) (read t) in
    let same : commands ++ ops ∷ [] ≡ map ops_of c.push_reserved.new.self.items = sym (ap (map ops_of) more ∙ map-append ops_of done (c.in_ok-ops.ops ∷ [])) in
    record {
      say = λ t. subst (SayFirst words.client (length (map string_bytes words.files.now)) (files_by_name held (said_run words))) same
          (say_more words.client (length (map string_bytes words.files.now)) (files_by_name held (said_run words)) commands ops (c.loop-name.invariant.say t) (told t));
      commands = subst (All (λ (o : Vec Op Global). IsCommandFile (object_of client) o.items)) (sym more) (All-push (λ (o : Vec Op Global). IsCommandFile (object_of client) o.items) done c.in_ok-ops.ops c.loop-name.invariant.commands c.in_ok-ops.ensures.commands);
      count = search rules;
      room = search rules;
      tells = search rules;
      held = search rules;
      opened = opens_more (said_run words) (g.F.Files.faults c.args.files.now) (g.F.Files.opened c.args.files.now) (index + 1) (g.F.Files.opened c.loop-name.files) (g.F.Files.opened c.read_commands.new.files) c.as_str.result.now (g.F.Files.faults c.loop-name.files) (omega arith) c.loop-name.invariant.opened c.read_commands.ensures.opened name c.loop-name.invariant.calm;
      calm = search rules;
    }

pub returns-clause-opened : goal.returns-clause-opened
returns-clause-opened g c =
    let words = c.args.words.now in
    let all : c.loop-name.name-index ≡ length (map string_bytes words.files.now) = omega (arith, c.loop-name.auto.name-index-end, c.loop-name-test.false, length-map words.files.now string_bytes) in
    subst (λ n. Opens (said_run words) (n + 1) (g.F.Files.faults c.args.files.now) (g.F.Files.opened c.args.files.now) (g.F.Files.opened c.loop-name.files)) all c.loop-name.invariant.opened
