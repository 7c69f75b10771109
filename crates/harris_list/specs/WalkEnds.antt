-- What a search comes to where its walk ended.
use Rattle.std.specs.Prelude.{Bool, true, false, Option, Some, None}
use Rattle.normal_traits.specs.declared.form.Found.{Found}
use Rattle.harris_list_form.specs.declared.states.ListSearch.{ListSearch}
use Rattle.harris_list_form.specs.declared.states.Sought.{Sought}
use Rattle.harris_list_form.specs.Least.{least_met, least_moved}
use Rattle.harris_list_form.specs.Search.{finished, moved_on}
use Rattle.harris_list.specs.declared.whole.Spot.{Spot}
use Rattle.harris_list.specs.declared.whole.Met.{Met}

-- a node that was met ends the way; else the search goes on to the node of the spot, if there is one
abbrev pub arrived_at : ListSearch → Sought → Spot → Option Met → ListSearch × Found
arrived_at stay sought spot (Some met) = finished stay sought spot.left spot.run spot.cur met.next met.found
arrived_at stay sought spot None = moved_on stay sought spot.left spot.run spot.cur

abbrev pub arrived : ListSearch → Sought → Spot × Option Met → ListSearch × Found
arrived stay sought end = arrived_at stay sought end.0 end.1

-- the same of a walk to the least key, which met an unmarked node or not
abbrev pub least_arrived_at : ListSearch → Spot → Bool → ListSearch × Found
least_arrived_at stay spot true = least_met stay spot.left spot.run spot.cur
least_arrived_at stay spot false = least_moved stay spot.left spot.run spot.cur

abbrev pub least_arrived : ListSearch → Spot × Bool → ListSearch × Found
least_arrived stay end = least_arrived_at stay end.0 end.1
