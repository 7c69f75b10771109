use Rattle.thread_tests.proofs.Steps.{stepped_stays}
use Rattle.thread_tests.proofs.ports.step.Goals as goal

pub returns-in-Going-clause-stays : goal.returns-in-Going-clause-stays
returns-in-Going-clause-stays c = stepped_stays _ _ _ _ _ _ c.in-Going.ensures.step

pub returns-in-Returned-clause-stays : goal.returns-in-Returned-clause-stays
returns-in-Returned-clause-stays c = stepped_stays _ _ _ _ _ _ c.in-Returned.ensures.step
