-- A queue word: the seats of the help queue in bits 0 to 31, and a version in bits 32 to 63, which
-- each change of the queue raises by one.
use Rattle.std.specs.Prelude.{ℕ, ◌+◌, ◌*◌, ◌^◌, ◌<◌, List}
use Rattle.word_fields.specs.declared.queues.QueueWord.{QueueWord}
use Rattle.word_fields.specs.Fields.{field_of, field_below}
use Rattle.word_fields.specs.Seats.{queue_seats, seats_word}
use Rattle.word_fields.specs.ProvedSeats.{queue_seats_are}

-- the version of a word
unfoldable pub queue_version : ℕ → ℕ
queue_version w = field_of 32 32 w

-- the word of these seats, the head first, and a version
unfoldable pub queue_word : List ℕ → ℕ → ℕ
queue_word seats version = seats_word seats + 2 ^ 32 * version

-- what `pack` gives
abbrev pub packed_queue : QueueWord → ℕ
packed_queue v = queue_word v.seats.items v.version

pub version_below : (w : ℕ) → queue_version w < 2 ^ 32
unfolding queue_version
version_below w = field_below 32 32 w

-- what `unpack` gives
abbrev pub queue_of : ℕ → QueueWord
queue_of w = record {
  seats = record { items = queue_seats w };
  version = queue_version w;
  are_seats = queue_seats_are w;
  version_in_range = version_below w;
}
