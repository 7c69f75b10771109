use Rattle.ellen_tree_search.proofs.Laws.{the_tree_laws}
use Rattle.ellen_tree_search.proofs.every_law.Goals as goal

pub returns : goal.returns
returns c = the_tree_laws
