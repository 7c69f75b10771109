use Rattle.std.proofs.Common.{◌≡◌, drop}
use Rattle.word_fields.specs.Seats.{seats_word}
use Rattle.word_fields.proofs.queues.write_seats.Given as goal

-- the seats from this place on are written
abbrev pub invariant-loop-place : goal.invariant-loop-place
invariant-loop-place l = l.word ≡ seats_word (drop l.place l.seats)
