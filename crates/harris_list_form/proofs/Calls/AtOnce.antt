-- The first entry of each list makes the change of its call.
use Rattle.std.proofs.Common.{refl}
use Rattle.normal_traits.specs.AtOnce.{ChangesAtOnce}
use Rattle.harris_list_form.specs.Lists.{Lists}
use Rattle.harris_list_form.specs.Form.{list_form}

-- of any lists: an add links its node in, and a removal's first entry marks the node
pub list_changes_at_once : (lists : Lists) → ChangesAtOnce (list_form lists)
list_changes_at_once lists list = refl
