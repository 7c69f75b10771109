use Rattle.std.proofs.Common.{◌≡◌}
use Rattle.normal_traits.specs.declared.form.Wrapped.TheVariants.{Going}
use Rattle.fast_slow_engine.specs.PhaseTable.{wrapped_up}
use Rattle.whole_calls.specs.Standings.{IsAfter}
use Rattle.whole_calls.proofs.outcomes.wrap_up.Given as goal

abbrev pub invariant-loop : goal.invariant-loop
invariant-loop g l =
    (l.wrapped ≡ Going → g.C.Normalized.form.wraps l.wrap)
    × IsAfter (wrapped_up g.C.Normalized.form l.wrapped l.wrap) l.call (g.P.Steps.machine l.port)
    × (l.call ≡ l.fn.call)
    × (g.P.Steps.rest l.port ≡ g.P.Steps.rest l.fn.port)
