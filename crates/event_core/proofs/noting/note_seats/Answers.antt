use Rattle.std.proofs.Common.{rules}
use Rattle.event_core.specs.Noted.{is_member}
use Rattle.event_core.proofs.Publications.{room_for_seat, seat_counted, seat_noted}
use Rattle.event_core.proofs.noting.note_seats.Goals as goal

pub note-requires : goal.note-requires
note-requires c = room_for_seat (is_member c.args.before.now) _ c.args.seats.now c.loop-seat.seat-index c.from.result (search rules) (search rules) _ _ _ _ _ c.requires.room c.loop-seat.invariant.2 c.loop-seat.invariant.1 c.publication_of.ensures

pub loop-seat-preserved : goal.loop-seat-preserved
loop-seat-preserved c = (
  seat_noted (is_member c.args.before.now) _ c.args.seats.now c.loop-seat.seat-index c.from.result (search rules) (search rules) _ _ _ _ c.loop-seat.invariant.0 c.publication_of.ensures c.note.ensures.items,
  seat_counted (is_member c.args.before.now) _ c.args.seats.now c.loop-seat.seat-index c.from.result (search rules) (search rules) _ _ _ _ c.loop-seat.invariant.1 c.publication_of.ensures c.note.ensures.len,
  (search rules),
)
