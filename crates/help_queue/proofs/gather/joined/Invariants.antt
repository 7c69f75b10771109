use Rattle.std.proofs.Common.{◌≡◌, ◌++◌, take}
use Rattle.help_queue.proofs.gather.joined.Given as goal

abbrev pub invariant-loop-seat : goal.invariant-loop-seat
invariant-loop-seat l = l.all.items ≡ l.fn.seats.items ++ take l.seat-index l.behind
