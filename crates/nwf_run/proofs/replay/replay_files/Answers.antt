use Rattle.std.proofs.Common.{List, Vec, map, string_bytes, sym, ◌∙◌}
use Rattle.std.specs.Global.{Global}
use Rattle.std.proofs.lemmas.List.{length-map}
use Rattle.lin_report.specs.declared.calls.Op.{Op}
use Rattle.nwf_run.specs.Said.{said}
use Rattle.nwf_run.proofs.Replays.{replay_made}
use Rattle.nwf_run.proofs.replay.replay_files.Goals as goal

pub returns-clause-text : goal.returns-clause-text
returns-clause-text g c =
    let ops_of : Vec Op Global → List Op = λ ops. ops.items in
    let done = c.in_ok-scripts.scripts.commands.items in
    let count = length-map done ops_of ∙ c.in_ok-scripts.ensures.count ∙ sym (length-map c.args.words.now.files.now string_bytes) in
    replay_made (g.F.Files.tells c.args.files.now) (g.F.Files.held c.args.files.now) (said c.args.words.now) c.in_ok-scripts.scripts.schedule.items (map ops_of done)
    c.in_ok-made.made.text.items c.in_ok-made.made.exhausted c.in_ok-scripts.ensures.accepts count c.in_ok-made.ensures
