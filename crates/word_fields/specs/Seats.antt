-- The seats of a queue word. Its place p has the bits 4p to 4p + 3: 0 where it is empty, else one more
-- than a seat. Place 0 is the head of the queue.
use Rattle.std.specs.Prelude.{◌≡◌, ◌≢◌, ℕ, ◌+◌, ◌-◌, ◌*◌, ◌<◌, ◌≤◌, ◌==◌, nat_lt, nat_le, ◌&&◌, not, if◌then◌else◌, Bool, false, get_or, List, [], ◌∷◌, ◌++◌, map, length, take, slice_index, ◌⊎◌, All, AllPairs, Contains}
use Rattle.std.specs.List.{list_any}
use Rattle.word_fields.specs.Fields.{field_of}

-- seats that may stand in a queue word: below 8, each once
pub record AreSeats (seats : List ℕ) : Type 0 where
  pub real : All (λ s. s < 8) seats
  pub differ : AllPairs (λ s t. s ≢ t) seats
  pub fit : length seats ≤ 8

-- for each seat below 8 whether it is among some
abbrev pub AreMembers : List Bool → List ℕ → Type 0
AreMembers members seats = (seat : ℕ) → seat < 8 → get_or members seat false ≡ list_any (λ s. s == seat) seats

-- the eight places of a word
unfoldable pub places_of : ℕ → List ℕ
places_of w = map (λ p. field_of (4 * p) 4 w) (0 ∷ 1 ∷ 2 ∷ 3 ∷ 4 ∷ 5 ∷ 6 ∷ 7 ∷ [])

-- the place names a seat, and none of these
abbrev pub names_another : List ℕ → ℕ → Bool
names_another seats place = nat_lt 0 place && nat_le place 8 && not (list_any (λ s. s == place - 1) seats)

-- the seats before, and those that the places name up to the first that names no other seat
unfoldable pub seats_named : List ℕ → List ℕ → List ℕ
seats_named before [] = before
seats_named before (place ∷ places) =
    if names_another before place then seats_named (before ++ (place - 1) ∷ []) places else before

-- the seats of a queue word, the head first
unfoldable pub queue_seats : ℕ → List ℕ
queue_seats w = seats_named [] (places_of w)

-- the bits of seats in their places
unfoldable pub seats_word : List ℕ → ℕ
seats_word [] = 0
seats_word (s ∷ seats) = (s + 1) + 16 * seats_word seats

-- a place that names no seat but these: an empty one, one above 8, or a repeat
abbrev pub NamesNoOther : List ℕ → ℕ → Type 0
NamesNoOther seats place = (place ≡ 0) ⊎ ((8 < place) ⊎ Contains seats (place - 1))

-- seats as they are read from places: the first places name them, and the next place names no other
pub record ReadsSeats (places seats : List ℕ) : Type 0 where
  pub named : map (λ s. s + 1) seats ≡ take (length seats) places
  pub are : AreSeats seats
  pub ended : length seats < length places → NamesNoOther seats (slice_index places (length seats))
