use Rattle.std.proofs.Common.{List, Vec, map, string_bytes, sym, ◌∙◌}
use Rattle.std.specs.Global.{Global}
use Rattle.std.proofs.lemmas.List.{length-map}
use Rattle.lin_report.specs.declared.calls.Op.{Op}
use Rattle.nwf_run.specs.Said.{said_sweep}
use Rattle.nwf_run.proofs.Replays.{sweep_made}
use Rattle.nwf_run.proofs.replay.sweep_files.Goals as goal

pub returns-clause-text : goal.returns-clause-text
returns-clause-text g c =
    let ops_of : Vec Op Global → List Op = λ ops. ops.items in
    let done = c.in_ok-commands.commands.items in
    let count = length-map done ops_of ∙ c.in_ok-commands.ensures.count ∙ sym (length-map c.args.words.now.of_files.files.now string_bytes) in
    sweep_made (g.F.Files.tells c.args.files.now) (g.F.Files.held c.args.files.now) (said_sweep c.args.words.now) (map ops_of done)
    c.in_ok-made.made.text.items c.in_ok-made.made.exhausted c.in_ok-commands.ensures.says count c.in_ok-made.ensures
