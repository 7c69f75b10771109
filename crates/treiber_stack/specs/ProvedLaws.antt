-- The stack's laws, under the name that its `impl` cites.
use Rattle.normal_traits.specs.Laws.{Laws}
use Rattle.treiber_stack_form.specs.Form.{stack_form}
use Rattle.treiber_stack_form.proofs.Laws.{laws}

pub stack_laws : Laws stack_form
stack_laws = laws
