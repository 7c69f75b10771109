use Rattle.std.proofs.Common.{◌≡◌}
use Rattle.example_work_queue.proofs.work.Given as goal

-- the handle is still one of this queue
abbrev pub invariant-loop-number : goal.invariant-loop-number
invariant-loop-number g l = l.queue.handle.table ≡ l.shared.table

abbrev pub invariant-loop : goal.invariant-loop
invariant-loop g l = l.queue.handle.table ≡ l.shared.table
