use Rattle.word_fields.proofs.SeatsOfQueueWords.{queue_seats_read}
use Rattle.word_fields.proofs.queues.QueueWord.unpack.Goals as goal

pub returns-clause-seats : goal.returns-clause-seats
returns-clause-seats c = rw c.read_seats.ensures.seats (queue_seats_read c.args.word)
