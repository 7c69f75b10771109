use Rattle.std.proofs.Common.{◌≡◌}
use Rattle.ms_queue_form.specs.declared.states.QueueSearch.TheVariants.{TakeHead}
use Rattle.fast_slow_engine.specs.declared.phases.Phase.TheVariants.{Generate}
use Rattle.fast_slow_engine.specs.declared.phases.Generating.TheVariants.{Search}
use Rattle.fast_slow_engine.specs.PhaseTable.{in_phase}
use Rattle.ms_queue.proofs.whole.take.Given as goal

-- each turn begins with a search that begins
abbrev pub invariant-loop : goal.invariant-loop
invariant-loop g l =
    (g.P.Steps.machine l.port ≡ in_phase (Generate TakeHead Search) (g.P.Steps.machine l.fn.port))
    × (g.P.Steps.rest l.port ≡ g.P.Steps.rest l.fn.port)
