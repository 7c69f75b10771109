use Rattle.std.proofs.Common.{◌≡◌}
use Rattle.thread_tests.proofs.handle_calls.look.Given as goal

abbrev pub invariant-loop : goal.invariant-loop
invariant-loop g l = l.queue.handle.table ≡ l.shared.table
