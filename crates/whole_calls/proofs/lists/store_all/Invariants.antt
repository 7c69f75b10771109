use Rattle.std.proofs.Common.{◌≡◌}
use Rattle.whole_calls.specs.Standings.{HasStored}
use Rattle.whole_calls.proofs.lists.store_all.Given as goal

abbrev pub invariant-loop-made : goal.invariant-loop-made
invariant-loop-made g l = HasStored l.list.items l.stores.items l.made l.call (g.P.Steps.machine l.port) × (g.P.Steps.rest l.port ≡ g.P.Steps.rest l.fn.port)
