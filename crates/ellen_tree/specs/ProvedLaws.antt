-- The tree's laws, under the name that its `impl` cites.
use Rattle.normal_traits.specs.Laws.{Laws}
use Rattle.ellen_tree_form.specs.Form.{tree_form}
use Rattle.ellen_tree_search.proofs.Laws.{the_tree_laws}

pub tree_laws : Laws tree_form
tree_laws = the_tree_laws
