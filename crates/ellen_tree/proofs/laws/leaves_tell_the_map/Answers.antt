use Rattle.ellen_tree.proofs.Leading.{tree_shape}
use Rattle.ellen_tree.proofs.laws.leaves_tell_the_map.Goals as goal

pub returns : goal.returns
returns c = λ world shape. tree_shape world shape
