use Rattle.std.proofs.Common.{◌≡◌, ◌≤◌}
use Rattle.example_shared_set.proofs.add_all.Given as goal

-- the handle is still one of this set, and no more keys were absent than were added
abbrev pub invariant-loop-number : goal.invariant-loop-number
invariant-loop-number g l = (l.set.handle.table ≡ l.shared.table) × (l.first ≤ l.number)
