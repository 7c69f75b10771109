use Rattle.std.proofs.Common.{map, string_bytes}
use Rattle.checking.specs.Words.{check_words}
use Rattle.checking.proofs.Endings.{both_opened, cut, judged, none_opened, refused, some_opened, unread, usage}
use Rattle.checking.proofs.checks.check_main.Goals as goal

pub returns-clause-judged : goal.returns-clause-judged
returns-clause-judged g c =
    judged (g.K.Sink.written c.args.out.now) (g.K.Sink.written c.finish.new.out) (g.K.Sink.faults c.args.out.now) (g.K.Sink.faults c.finish.new.out) c.finish.result (g.F.Files.tells c.args.files.now) (g.F.Files.held c.args.files.now)
    (check_words (map string_bytes c.args.words.now)) c.answer-answer.result c.answer-answer.ensures.verdict c.finish.ensures

pub returns-clause-cut : goal.returns-clause-cut
returns-clause-cut g c =
    cut (g.K.Sink.written c.args.out.now) (g.K.Sink.written c.finish.new.out) (g.K.Sink.faults c.args.out.now) (g.K.Sink.faults c.finish.new.out) c.finish.result (g.F.Files.tells c.args.files.now) (g.F.Files.held c.args.files.now)
    (check_words (map string_bytes c.args.words.now)) c.answer-answer.result c.answer-answer.ensures.verdict c.finish.ensures

pub returns-clause-usage : goal.returns-clause-usage
returns-clause-usage g c =
    usage (g.K.Sink.written c.args.out.now) (g.K.Sink.written c.finish.new.out) (g.K.Sink.faults c.args.out.now) (g.K.Sink.faults c.finish.new.out) c.finish.result (g.F.Files.tells c.args.files.now) (g.F.Files.held c.args.files.now)
    (check_words (map string_bytes c.args.words.now)) c.answer-answer.result c.answer-answer.ensures.verdict c.answer-answer.ensures.stops c.finish.ensures

pub returns-clause-both_opened : goal.returns-clause-both_opened
returns-clause-both_opened g c =
    both_opened (g.K.Sink.written c.args.out.now) (g.K.Sink.written c.finish.new.out) (g.K.Sink.faults c.args.out.now) (g.K.Sink.faults c.finish.new.out) c.finish.result (g.F.Files.tells c.args.files.now) (g.F.Files.held c.args.files.now) (g.F.Files.faults c.args.files.now) (g.F.Files.opened c.args.files.now) (g.F.Files.opened c.answer-answer.new.files)
    (check_words (map string_bytes c.args.words.now)) c.answer-answer.result c.answer-answer.ensures.verdict c.answer-answer.ensures.opened c.finish.ensures

pub returns-clause-none_opened : goal.returns-clause-none_opened
returns-clause-none_opened g c =
    none_opened (g.K.Sink.written c.args.out.now) (g.K.Sink.written c.finish.new.out) (g.K.Sink.faults c.args.out.now) (g.K.Sink.faults c.finish.new.out) c.finish.result (g.F.Files.tells c.args.files.now) (g.F.Files.held c.args.files.now) (g.F.Files.faults c.args.files.now) (g.F.Files.opened c.args.files.now) (g.F.Files.opened c.answer-answer.new.files)
    (check_words (map string_bytes c.args.words.now)) c.answer-answer.result c.answer-answer.ensures.stops c.answer-answer.ensures.opened c.finish.ensures

pub returns-clause-some_opened : goal.returns-clause-some_opened
returns-clause-some_opened g c =
    some_opened (g.K.Sink.written c.args.out.now) (g.K.Sink.written c.finish.new.out) (g.K.Sink.faults c.args.out.now) (g.K.Sink.faults c.finish.new.out) c.finish.result (g.F.Files.tells c.args.files.now) (g.F.Files.held c.args.files.now) (g.F.Files.faults c.args.files.now) (g.F.Files.opened c.args.files.now) (g.F.Files.opened c.answer-answer.new.files)
    (check_words (map string_bytes c.args.words.now)) c.answer-answer.result c.answer-answer.ensures.stops c.answer-answer.ensures.opened c.finish.ensures

pub returns-clause-refused : goal.returns-clause-refused
returns-clause-refused g c =
    refused (g.K.Sink.written c.args.out.now) (g.K.Sink.written c.finish.new.out) (g.K.Sink.faults c.args.out.now) (g.K.Sink.faults c.finish.new.out) c.finish.result (g.F.Files.tells c.args.files.now) (g.F.Files.held c.args.files.now) (g.F.Files.faults c.args.files.now) (g.F.Files.opened c.args.files.now) (g.F.Files.opened c.answer-answer.new.files)
    (check_words (map string_bytes c.args.words.now)) c.answer-answer.result c.answer-answer.ensures.stops c.answer-answer.ensures.opened c.finish.ensures

pub returns-clause-unread : goal.returns-clause-unread
returns-clause-unread g c =
    unread (g.K.Sink.written c.args.out.now) (g.K.Sink.written c.finish.new.out) (g.K.Sink.faults c.args.out.now) (g.K.Sink.faults c.finish.new.out) c.finish.result (g.F.Files.tells c.args.files.now) (g.F.Files.held c.args.files.now) (g.F.Files.faults c.args.files.now) (g.F.Files.opened c.args.files.now) (g.F.Files.opened c.answer-answer.new.files)
    (check_words (map string_bytes c.args.words.now)) c.answer-answer.result c.answer-answer.ensures.stops c.answer-answer.ensures.opened c.finish.ensures
