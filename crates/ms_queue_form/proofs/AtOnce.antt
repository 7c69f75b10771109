-- The first entry of each list makes the change of its call.
use Rattle.std.proofs.Common.{refl}
use Rattle.normal_traits.specs.AtOnce.{ChangesAtOnce}
use Rattle.ms_queue_form.specs.Form.{queue_form}

pub queue_changes_at_once : ChangesAtOnce queue_form
queue_changes_at_once list = refl
