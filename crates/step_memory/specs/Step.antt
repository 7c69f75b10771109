-- What one atomic step does to a list of words, and what it tells.
use Rattle.std.specs.Prelude.{ℕ, ◌+◌, ◌%◌, ◌^◌, ◌==◌, nat_lt, if◌then◌else◌, true, false, List, length, slice_index, slice_set}
use Rattle.step_memory.specs.declared.steps.Request.{Request}
use Rattle.step_memory.specs.declared.steps.Request.TheVariants.{Load, Store, Exchange, Add}
use Rattle.step_memory.specs.declared.steps.Seen.{Seen}

-- the place of the word that a request is on
abbrev pub requested_place : Request → ℕ
requested_place (Load at) = at
requested_place (Store at value) = at
requested_place (Exchange at from to) = at
requested_place (Add at by) = at

-- the word that a request leaves where it found a word
abbrev pub word_after : Request → ℕ → ℕ
word_after (Load at) word = word
word_after (Store at value) word = value
word_after (Exchange at from to) word = if word == from then to else word
word_after (Add at by) word = (word + by) % 2 ^ 64

-- what a request tells of the word that it found
abbrev pub seen_at : Request → ℕ → Seen
seen_at (Load at) word = record { before = word; won = true }
seen_at (Store at value) word = record { before = 0; won = true }
seen_at (Exchange at from to) word = record { before = word; won = word == from }
seen_at (Add at by) word = record { before = word; won = true }

-- the words after a step: one word is what the request leaves there, and a place past the end changes
-- nothing
unfoldable pub words_after : Request → List ℕ → List ℕ
words_after request words = slice_set words (requested_place request) (word_after request (slice_index words (requested_place request)))

-- what a step tells: of the word at its place, or 0 and not won past the end
unfoldable pub seen_of : Request → List ℕ → Seen
seen_of request words =
    if nat_lt (requested_place request) (length words) then seen_at request (slice_index words (requested_place request))
    else record { before = 0; won = false }
