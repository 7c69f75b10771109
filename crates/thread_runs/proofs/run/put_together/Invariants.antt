use Rattle.std.proofs.Common.{◌≡◌, ◌≤◌, flat_map, length, take, vec_capacity}
use Rattle.thread_runs.proofs.run.put_together.Given as goal

abbrev pub invariant-loop-i : goal.invariant-loop-i
invariant-loop-i l = (l.lines.items ≡ flat_map (λ room. room.items) (take l.i l.rooms)) × (length (flat_map (λ room. room.items) l.rooms) ≤ vec_capacity l.lines)
