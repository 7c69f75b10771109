use Rattle.std.proofs.Common.{map, string_bytes}
use Rattle.nwf_run.specs.CommandLine.{run_asked}
use Rattle.nwf_run.proofs.Endings.{done, exhausted, cut, all_opened}
use Rattle.nwf_run.proofs.Stopped.{none_opened, refused, some_opened, unread, usage}
use Rattle.nwf_run.proofs.run.run_main.Goals as goal

pub returns-clause-done : goal.returns-clause-done
returns-clause-done g c =
    done (g.F.Files.tells c.args.files.now) (g.F.Files.held c.args.files.now) (run_asked (map string_bytes c.args.words.now))
    (g.K.Sink.written c.args.out.now) (g.K.Sink.written c.finish.new.out) (g.K.Sink.faults c.args.out.now) (g.K.Sink.faults c.finish.new.out) c.finish.result c.answer_run-answer.result c.answer_run-answer.ensures.text c.finish.ensures

pub returns-clause-exhausted : goal.returns-clause-exhausted
returns-clause-exhausted g c =
    exhausted (g.F.Files.tells c.args.files.now) (g.F.Files.held c.args.files.now) (run_asked (map string_bytes c.args.words.now))
    (g.K.Sink.written c.args.out.now) (g.K.Sink.written c.finish.new.out) (g.K.Sink.faults c.args.out.now) (g.K.Sink.faults c.finish.new.out) c.finish.result c.answer_run-answer.result c.answer_run-answer.ensures.text c.finish.ensures

pub returns-clause-cut : goal.returns-clause-cut
returns-clause-cut g c =
    cut (g.F.Files.tells c.args.files.now) (g.F.Files.held c.args.files.now) (run_asked (map string_bytes c.args.words.now))
    (g.K.Sink.written c.args.out.now) (g.K.Sink.written c.finish.new.out) (g.K.Sink.faults c.args.out.now) (g.K.Sink.faults c.finish.new.out) c.finish.result c.answer_run-answer.result c.answer_run-answer.ensures.text c.finish.ensures

pub returns-clause-all_opened : goal.returns-clause-all_opened
returns-clause-all_opened g c =
    all_opened (g.F.Files.tells c.args.files.now) (g.F.Files.held c.args.files.now)
    (g.K.Sink.written c.args.out.now) (g.K.Sink.written c.finish.new.out) (g.K.Sink.faults c.args.out.now) (g.K.Sink.faults c.finish.new.out) c.finish.result (g.F.Files.faults c.args.files.now) (g.F.Files.opened c.args.files.now) (g.F.Files.opened c.answer_run-answer.new.files)
    (run_asked (map string_bytes c.args.words.now)) c.answer_run-answer.result c.answer_run-answer.ensures.text c.answer_run-answer.ensures.opened c.finish.ensures

pub returns-clause-usage : goal.returns-clause-usage
returns-clause-usage g c =
    usage (g.K.Sink.written c.args.out.now) (g.K.Sink.written c.finish.new.out) (g.K.Sink.faults c.args.out.now) (g.K.Sink.faults c.finish.new.out) c.finish.result (g.F.Files.tells c.args.files.now) (g.F.Files.held c.args.files.now)
    (run_asked (map string_bytes c.args.words.now)) c.answer_run-answer.result c.answer_run-answer.ensures.text c.answer_run-answer.ensures.stops c.finish.ensures

pub returns-clause-none_opened : goal.returns-clause-none_opened
returns-clause-none_opened g c =
    none_opened (g.K.Sink.written c.args.out.now) (g.K.Sink.written c.finish.new.out) (g.K.Sink.faults c.args.out.now) (g.K.Sink.faults c.finish.new.out) c.finish.result (g.F.Files.tells c.args.files.now) (g.F.Files.held c.args.files.now) (g.F.Files.faults c.args.files.now) (g.F.Files.opened c.args.files.now) (g.F.Files.opened c.answer_run-answer.new.files)
    (run_asked (map string_bytes c.args.words.now)) c.answer_run-answer.result c.answer_run-answer.ensures.stops c.answer_run-answer.ensures.opened c.finish.ensures

pub returns-clause-some_opened : goal.returns-clause-some_opened
returns-clause-some_opened g c =
    some_opened (g.K.Sink.written c.args.out.now) (g.K.Sink.written c.finish.new.out) (g.K.Sink.faults c.args.out.now) (g.K.Sink.faults c.finish.new.out) c.finish.result (g.F.Files.tells c.args.files.now) (g.F.Files.held c.args.files.now) (g.F.Files.faults c.args.files.now) (g.F.Files.opened c.args.files.now) (g.F.Files.opened c.answer_run-answer.new.files)
    (run_asked (map string_bytes c.args.words.now)) c.answer_run-answer.result c.answer_run-answer.ensures.stops c.answer_run-answer.ensures.opened c.finish.ensures

pub returns-clause-refused : goal.returns-clause-refused
returns-clause-refused g c =
    refused (g.K.Sink.written c.args.out.now) (g.K.Sink.written c.finish.new.out) (g.K.Sink.faults c.args.out.now) (g.K.Sink.faults c.finish.new.out) c.finish.result (g.F.Files.tells c.args.files.now) (g.F.Files.held c.args.files.now) (g.F.Files.faults c.args.files.now) (g.F.Files.opened c.args.files.now) (g.F.Files.opened c.answer_run-answer.new.files)
    (run_asked (map string_bytes c.args.words.now)) c.answer_run-answer.result c.answer_run-answer.ensures.stops c.answer_run-answer.ensures.opened c.finish.ensures

pub returns-clause-unread : goal.returns-clause-unread
returns-clause-unread g c =
    unread (g.K.Sink.written c.args.out.now) (g.K.Sink.written c.finish.new.out) (g.K.Sink.faults c.args.out.now) (g.K.Sink.faults c.finish.new.out) c.finish.result (g.F.Files.tells c.args.files.now) (g.F.Files.held c.args.files.now) (g.F.Files.faults c.args.files.now) (g.F.Files.opened c.args.files.now) (g.F.Files.opened c.answer_run-answer.new.files)
    (run_asked (map string_bytes c.args.words.now)) c.answer_run-answer.result c.answer_run-answer.ensures.stops c.answer_run-answer.ensures.opened c.finish.ensures
