use Rattle.std.proofs.Common.{◌≡◌}
use Rattle.event_core.proofs.Renewals.{renewed}
use Rattle.event_core.proofs.resets.renew_seats.Given as goal

-- the seats so far are renewed
abbrev pub invariant-loop-number : goal.invariant-loop-number
invariant-loop-number g l = l.seats ≡ renewed l.fn.setup 0 l.number l.fn.seats
