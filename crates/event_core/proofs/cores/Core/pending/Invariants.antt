use Rattle.std.proofs.Common.{◌≡◌, ◌≤◌, length, map, take}
use Rattle.fast_slow_engine.specs.Runs.{pending_of}
use Rattle.event_core.proofs.cores.Core.pending.Given as goal

-- the calls of the seats so far are kept, at most one of each
abbrev pub invariant-loop-seat : goal.invariant-loop-seat
invariant-loop-seat g l = (l.pending.items ≡ pending_of (map (λ seat. seat.mech) (take l.seat-index l.seat-items))) × (length l.pending.items ≤ l.seat-index)
