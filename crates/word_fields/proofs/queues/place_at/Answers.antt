use Rattle.std.proofs.Common.{◌∙◌}
use Rattle.word_fields.proofs.SeatsOfQueueWords.{place_read}
use Rattle.word_fields.proofs.queues.place_at.Goals as goal

pub returns : goal.returns
returns c = c.get.ensures.value ∙ place_read c.args.word c.args.place c.requires
