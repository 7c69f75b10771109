-- How a wrap-up begins doesn't depend on the stop.
use Rattle.ellen_tree.proofs.tree.EllenTreeNormalized.begin_wrap.Goals as goal

pub returns-clause-wrap : goal.returns-clause-wrap
returns-clause-wrap c = c.begun_wrap.ensures.help c.args.stop
