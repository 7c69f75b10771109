use Rattle.std.proofs.Common.{◌≡◌, ◌*◌, ◌≤◌, length, sum_by, take}
use Rattle.event_core.proofs.cores.submitting.commands_held.Given as goal

-- the commands of the seats so far are counted
abbrev pub invariant-loop-seat : goal.invariant-loop-seat
invariant-loop-seat g l = (l.commands ≡ sum_by (λ seat. length seat.file) (take l.seat-index l.seats)) × (l.commands ≤ 65535 * l.seat-index)
