-- The list's laws, under the name that its `impl` cites.
use Rattle.normal_traits.specs.Laws.{Laws}
use Rattle.harris_list_form.specs.Lists.{the_list}
use Rattle.harris_list_form.specs.Form.{list_form}
use Rattle.harris_list_form.proofs.Laws.{the_list_laws}

pub list_laws : Laws (list_form the_list)
list_laws = the_list_laws
