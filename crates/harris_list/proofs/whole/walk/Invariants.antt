use Rattle.std.proofs.Common.{◌≡◌, ◌<◌, ◌^◌}
use Rattle.harris_list_form.specs.declared.states.ListSearch.TheVariants.{Start}
use Rattle.harris_list_form.specs.Search.{sought_of, moved_on}
use Rattle.harris_list_form.specs.Form.{list_form}
use Rattle.fast_slow_engine.specs.PhaseTable.{searched}
use Rattle.harris_list.proofs.whole.walk.Given as goal

-- each turn begins where the search goes on to a node, if there is one
abbrev pub invariant-loop : goal.invariant-loop
invariant-loop g l =
    let going = moved_on (Start (sought_of l.fn.op) l.fn.start) (sought_of l.fn.op) l.left l.run l.cur in
    (g.C.ListSteps.machine l.port ≡ searched (list_form g.C.ListSteps.lists) going.1 going.0 (g.C.ListSteps.machine l.fn.port)) × (l.cur < 2 ^ 23)
    × (g.C.ListSteps.rest l.port ≡ g.C.ListSteps.rest l.fn.port)
