use Rattle.std.proofs.Common.{◌≡◌, length, drop}
use Rattle.word_fields.specs.Seats.{AreMembers, places_of, seats_named, queue_seats}
use Rattle.word_fields.proofs.queues.read_seats.Given as goal

-- each place so far named a seat, those are the members, and the rest of the places names the rest of the seats
abbrev pub invariant-loop-place : goal.invariant-loop-place
invariant-loop-place l =
    (length l.seats.items ≡ l.place) × (length l.members ≡ 8) × (AreMembers l.members l.seats.items)
    × (seats_named l.seats.items (drop l.place (places_of l.word)) ≡ queue_seats l.word)
