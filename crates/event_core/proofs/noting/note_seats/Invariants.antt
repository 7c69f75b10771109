use Rattle.std.proofs.Common.{◌≡◌, ◌+◌, ◌++◌, length, take}
use Rattle.fast_slow_engine.specs.Events.{published_by, record_word_of}
use Rattle.event_core.specs.Noted.{is_member}
use Rattle.event_core.proofs.noting.note_seats.Given as goal

-- the publications of the seats so far are noted
abbrev pub invariant-loop-seat : goal.invariant-loop-seat
invariant-loop-seat l =
    (l.events.items ≡ l.fn.events.items ++ published_by (is_member l.before) (record_word_of l.words) (take l.seat-index l.seats))
    × (l.events.len ≡ l.fn.events.len + length (published_by (is_member l.before) (record_word_of l.words) (take l.seat-index l.seats)))
    × (l.events.cap ≡ l.fn.events.cap)
