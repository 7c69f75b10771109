use Rattle.std.proofs.Common.{◌∙◌, ap, arith}
use Rattle.std.proofs.lemmas.Grind.{common_steps}
use Rattle.word_fields.specs.Queues.{queue_of}
use Rattle.word_fields.proofs.SeatsOfQueueWords.{queue_word_put, queue_of-packed, packed_queue_differ}
use Rattle.word_fields.proofs.queues.QueueWord.pack.Goals as goal

pub returns-clause-word : goal.returns-clause-word
returns-clause-word c = grind (arith, common_steps, queue_word_put)

pub returns-clause-read_back : goal.returns-clause-read_back
returns-clause-read_back c = ap queue_of (returns-clause-word c) ∙ queue_of-packed c.args.self.now

pub returns-clause-told_apart : goal.returns-clause-told_apart
returns-clause-told_apart c v e = packed_queue_differ v c.args.self.now (e ∙ returns-clause-word c)
