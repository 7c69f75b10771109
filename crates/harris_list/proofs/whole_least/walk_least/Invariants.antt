use Rattle.std.proofs.Common.{◌≡◌, ◌<◌, ◌^◌}
use Rattle.harris_list_form.specs.declared.states.ListSearch.TheVariants.{LeastStart}
use Rattle.harris_list_form.specs.Least.{least_moved}
use Rattle.harris_list_form.specs.Form.{list_form}
use Rattle.fast_slow_engine.specs.PhaseTable.{searched}
use Rattle.harris_list.proofs.whole_least.walk_least.Given as goal

-- each turn begins where the search goes on to a node, if there is one
abbrev pub invariant-loop : goal.invariant-loop
invariant-loop g l =
    let going = least_moved (LeastStart l.fn.start) l.left l.run l.cur in
    (g.C.ListSteps.machine l.port ≡ searched (list_form g.C.ListSteps.lists) going.1 going.0 (g.C.ListSteps.machine l.fn.port)) × (l.cur < 2 ^ 23)
    × (g.C.ListSteps.rest l.port ≡ g.C.ListSteps.rest l.fn.port)
