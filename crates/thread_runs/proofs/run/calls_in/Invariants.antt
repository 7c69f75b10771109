use Rattle.std.proofs.Common.{◌≡◌, ◌≤◌, ◌*◌, flat_map, length, take}
use Rattle.thread_runs.proofs.run.calls_in.Given as goal

abbrev pub invariant-loop-i : goal.invariant-loop-i
invariant-loop-i l = (l.calls ≡ length (flat_map (λ file. file.items) (take l.i l.files))) × (l.calls ≤ l.i * 65535)
