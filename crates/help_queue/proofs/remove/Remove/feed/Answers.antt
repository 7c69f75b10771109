use Rattle.help_queue.proofs.StepsThatEnd.{gone_exactly}
use Rattle.help_queue.proofs.remove.Remove.feed.Goals as goal

pub returns-clause-gone : goal.returns-clause-gone
returns-clause-gone c = gone_exactly _ _ _ c.advance.ensures.answer
