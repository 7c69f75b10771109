use Rattle.std.proofs.Common.{rules, ◌≡◌, ◌+◌, ℕ, List, Err, Vec, length, subst, sym}
use Rattle.std.specs.Global.{Global}
use Rattle.lin_report.specs.declared.calls.Op.{Op}
use Rattle.client_reports.specs.declared.judging.Scripts.{Scripts}
use Rattle.nwf_run.specs.Said.{said}
use Rattle.whole_files.specs.Outside.{Opening}
use Rattle.nwf_run.specs.Reading.{Opens, OpensUntil}
use Rattle.nwf_run.proofs.ReadFiles.{alone, opens_behind, until_behind}
use Rattle.nwf_run.proofs.scripts.read_scripts.Goals as goal

pub returns-in_err-commands-clause-opened : goal.returns-in_err-commands-clause-opened
returns-in_err-commands-clause-opened g c =
    let r = said c.args.words.now in
    let faults = g.F.Files.faults c.args.files.now in
    let before = g.F.Files.opened c.args.files.now in
    let now = g.F.Files.opened c.read_command_files.new.files in
    let stop = c.in_err-commands.field-0.0 in
    let opens = subst (λ (l : List Opening). OpensUntil {X = Vec (Vec Op Global) Global} (alone r) faults l now (Err stop)) c.in_ok-schedule.ensures.opened
    (subst (λ (f : ℕ). OpensUntil {X = Vec (Vec Op Global) Global} (alone r) f (g.F.Files.opened c.read_entries.new.files) now (Err stop)) c.in_ok-schedule.ensures.faults c.in_err-commands.ensures.opened) in
    let here = until_behind r c.args.words.now.schedule.now faults before (Vec (Vec Op Global) Global) Scripts now stop opens in
    let is : c.from_residual-in_err-commands.result ≡ Err stop = search rules in
    subst (OpensUntil {X = Scripts} r faults before now) (sym is) here

pub returns-clause-opened : goal.returns-clause-opened
returns-clause-opened g c =
    let r = said c.args.words.now in
    let faults = g.F.Files.faults c.args.files.now in
    let before = g.F.Files.opened c.args.files.now in
    let now = g.F.Files.opened c.read_command_files.new.files in
    let opens = subst (λ (l : List Opening). Opens (alone r) (length r.files + 1) faults l now) c.in_ok-schedule.ensures.opened
    (subst (λ (f : ℕ). Opens (alone r) (length r.files + 1) f (g.F.Files.opened c.read_entries.new.files) now) c.in_ok-schedule.ensures.faults c.in_ok-commands.ensures.opened) in
    opens_behind r c.args.words.now.schedule.now faults before (length r.files) now opens
