use Rattle.std.proofs.Common.{◌≡◌, ◌-◌, ◌<◌, ◌≤◌, ℕ, true}
use Rattle.help_queue.specs.Gathers.{first_out, holds}
use Rattle.help_queue.proofs.gather.first_out.Given as goal

abbrev pub invariant-loop-seat : goal.invariant-loop-seat
invariant-loop-seat l =
    (first_out l.word l.at (l.seats - l.at) ≡ first_out l.word l.seat (l.seats - l.seat))
    × ((t : ℕ) → l.at ≤ t → t < l.seat → holds l.word t ≡ true)
