use Rattle.help_queue.proofs.StepsThatEnd.{entered_exactly, finished_exactly}
use Rattle.help_queue.proofs.enter.Enter.feed.Goals as goal

pub returns-clause-entered : goal.returns-clause-entered
returns-clause-entered c = entered_exactly c.args.self.now c.args.seen c.advance.result c.advance.ensures.answer c.advance.ensures.owned

pub returns-clause-finished : goal.returns-clause-finished
returns-clause-finished c = finished_exactly c.args.self.now c.args.seen c.advance.result c.advance.ensures.answer c.advance.ensures.owned
