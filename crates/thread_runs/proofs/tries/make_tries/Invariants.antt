use Rattle.std.proofs.Common.{◌≡◌, ◌≤◌}
use Rattle.fast_slow_engine.specs.declared.phases.Phase.TheVariants.{Generate}
use Rattle.fast_slow_engine.specs.declared.phases.Generating.TheVariants.{Search}
use Rattle.fast_slow_engine.specs.Mechs.{IsCallOf, mech_of}
use Rattle.fast_slow_engine.specs.Tries.{IsSameCall}
use Rattle.shared_memory.specs.Views.{beside}
use Rattle.thread_runs.proofs.tries.make_tries.Given as goal

abbrev pub invariant-loop : goal.invariant-loop
invariant-loop g l =
    (l.turns ≤ 65536)
    × (l.port.table ≡ l.fn.port.table)
    × (l.port.view.machine ≡ mech_of l.call (Generate (g.C.Normalized.form.begin_of l.call.op) Search))
    × IsCallOf g.C.Normalized.form.object l.call
    × IsSameCall l.call l.fn.call
    × (beside l.port ≡ beside l.fn.port)
