use Rattle.std.proofs.Common.{◌≡◌, ◌<◌, ◌^◌}
use Rattle.ellen_tree_form.specs.declared.states.TreeSearch.TheVariants.{AtUpdate}
use Rattle.ellen_tree_form.specs.Search.{AboveInRange}
use Rattle.fast_slow_engine.specs.declared.phases.Phase.TheVariants.{Generate}
use Rattle.fast_slow_engine.specs.declared.phases.Generating.TheVariants.{Search}
use Rattle.fast_slow_engine.specs.PhaseTable.{in_phase}
use Rattle.ellen_tree.proofs.whole.walk.Given as goal

-- each turn begins at an internal node
abbrev pub invariant-loop : goal.invariant-loop
invariant-loop g l =
    (g.P.Steps.machine l.port ≡ in_phase (Generate (AtUpdate l.fn.op l.above l.node) Search) (g.P.Steps.machine l.fn.port)) × AboveInRange l.above × (l.node < 2 ^ 22)
    × (g.P.Steps.rest l.port ≡ g.P.Steps.rest l.fn.port)
