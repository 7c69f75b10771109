use Rattle.std.proofs.Common.{map, string_bytes, sym}
use Rattle.nwf_run.specs.Replaying.{Makes}
use Rattle.nwf_run.specs.CommandLine.{load_words, replay_words, sweep_words}
use Rattle.nwf_run.proofs.Replays.{load_made}
use Rattle.nwf_run.proofs.Stopped.{load_asked}
use Rattle.nwf_run.proofs.replay.answer.Goals as goal

pub returns-in_ok-make_summary-in-Some-load_words-clause-text : goal.returns-in_ok-make_summary-in-Some-load_words-clause-text
returns-in_ok-make_summary-in-Some-load_words-clause-text g c =
    let words = map string_bytes c.args.words.now in
    let made = c.in_ok-make_summary-in-Some-load_words.field-0 in
    let tells = g.F.Files.tells c.args.files.now in
    let held = g.F.Files.held c.args.files.now in
    load_asked (λ a. Makes tells held a made.text.items made.exhausted) (replay_words words) (sweep_words words) (load_words words) c.in-Some-load_words.load
    (sym c.in_default.ensures.words) (sym c.in_default-sweep_words.ensures.words) (sym c.in-Some-load_words.ensures.words) (load_made tells held c.in-Some-load_words.load made.text.items made.exhausted c.in_ok-make_summary-in-Some-load_words.ensures)
