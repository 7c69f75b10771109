use Rattle.std.proofs.Common.{rules, ◌≡◌, true, false, map, string_bytes}
use Rattle.nwf_run.specs.CommandLine.{starts_run}
use Rattle.nwf_run.proofs.program.nwf_main.Goals as goal

pub returns-else-starts_run-clause-done : goal.returns-else-starts_run-clause-done
returns-else-starts_run-clause-done g c = λ is.
    let other : starts_run (map string_bytes c.args.words.now) ≡ false = search rules in
    rw other (c.replay_main.ensures.done is)

pub returns-else-starts_run-clause-exhausted : goal.returns-else-starts_run-clause-exhausted
returns-else-starts_run-clause-exhausted g c = λ is.
    let other : starts_run (map string_bytes c.args.words.now) ≡ false = search rules in
    rw other (c.replay_main.ensures.exhausted is)

pub returns-else-starts_run-clause-cut : goal.returns-else-starts_run-clause-cut
returns-else-starts_run-clause-cut g c = λ is.
    let other : starts_run (map string_bytes c.args.words.now) ≡ false = search rules in
    rw other (c.replay_main.ensures.cut is)

pub returns-else-starts_run-clause-refused : goal.returns-else-starts_run-clause-refused
returns-else-starts_run-clause-refused g c = λ is.
    let other : starts_run (map string_bytes c.args.words.now) ≡ false = search rules in
    rw other (c.replay_main.ensures.refused is)

pub returns-else-starts_run-clause-unread : goal.returns-else-starts_run-clause-unread
returns-else-starts_run-clause-unread g c = λ is.
    let other : starts_run (map string_bytes c.args.words.now) ≡ false = search rules in
    rw other (c.replay_main.ensures.unread is)

pub returns-then-starts_run-clause-all_opened : goal.returns-then-starts_run-clause-all_opened
returns-then-starts_run-clause-all_opened g c = λ is.
    let this : starts_run (map string_bytes c.args.words.now) ≡ true = search rules in
    rw this (c.run_main.ensures.all_opened is)

pub returns-else-starts_run-clause-all_opened : goal.returns-else-starts_run-clause-all_opened
returns-else-starts_run-clause-all_opened g c = λ is.
    let other : starts_run (map string_bytes c.args.words.now) ≡ false = search rules in
    rw other (c.replay_main.ensures.all_opened is)

pub returns-else-starts_run-clause-some_opened : goal.returns-else-starts_run-clause-some_opened
returns-else-starts_run-clause-some_opened g c = λ is.
    let other : starts_run (map string_bytes c.args.words.now) ≡ false = search rules in
    rw other (c.replay_main.ensures.some_opened is)
