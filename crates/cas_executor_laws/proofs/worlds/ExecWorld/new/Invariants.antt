use Rattle.std.proofs.Common.{◌≡◌, replicate}
use Rattle.cas_executor_laws.specs.ExecRuns.{helper_new}
use Rattle.cas_executor_laws.proofs.worlds.ExecWorld.new.Given as goal

abbrev pub invariant-loop : goal.invariant-loop
invariant-loop l = l.seated.items ≡ replicate l.counter (helper_new l.block l.list.items)
