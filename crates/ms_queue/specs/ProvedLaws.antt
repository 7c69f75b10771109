-- The queue's laws, under the name that its `impl` cites.
use Rattle.normal_traits.specs.Laws.{Laws}
use Rattle.ms_queue_form.specs.Form.{queue_form}
use Rattle.ms_queue_form.proofs.Laws.{laws}

pub queue_laws : Laws queue_form
queue_laws = laws
