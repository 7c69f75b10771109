-- The publications of a queue word, seat by seat.
use Rattle.std.proofs.Common.{arith, true, ◌==◌, ◌≢◌, ◌≡◌, ◌∙◌, ◌+◌, ◌++◌, ◌∷◌, ◌<◌, ◌≤◌, [], refl, sym, ap, suc, ℕ, if◌then◌else◌, Bool, List, All, append_assoc, length, take, drop, slice_index_or, Option, inl, inr}
use Rattle.std.specs.Option.{option_to_list}
use Rattle.std.proofs.Math.Seq.{take-suc}
use Rattle.std.proofs.lemmas.Bool.{cases_Bool, eq-eqb, ne_eqb, or_left, or_right}
use Rattle.std.proofs.lemmas.List.{length-append, take-append-drop, take_all}
use Rattle.lin_report.specs.declared.events.Event.{Event}
use Rattle.word_fields.specs.Records.{record_number}
use Rattle.overtaking_law.specs.Order.{publication}
use Rattle.fast_slow_engine.specs.Events.{published, published_by, queue_word, record_word_of}
use Rattle.event_core.specs.Noted.{is_member, published_at}
use Rattle.help_queue.specs.Gathers.{among_seats, holds}
use Rattle.node_arena.specs.declared.places.TheConstants.{QUEUE}
use Rattle.word_fields.specs.ProvedSeats.{queue_seats_are}
use Rattle.word_fields.specs.Seats.{AreMembers, queue_seats}

module _ (held : ℕ → Bool) (records : ℕ → ℕ) where
  abbrev after : ℕ → List Event → Bool → List Event
  after t events b = if b then events else publication t (record_number (records t)) ∷ events

  pub published_append : (seats more : List ℕ) → published_by held records (seats ++ more) ≡ published_by held records seats ++ published_by held records more
  published_append [] more = refl
  published_append (t ∷ seats) more =
      let rest = published_append seats more in
      elim (cases_Bool (held t)) [
        | inl was ↦ ap (after t (published_by held records (seats ++ more))) was ∙ rest ∙ ap (λ b. after t (published_by held records seats) b ++ published_by held records more) (sym was)
        | inr out ↦ ap (after t (published_by held records (seats ++ more))) out ∙ ap (λ es. publication t (record_number (records t)) ∷ es) rest ∙ ap (λ b. after t (published_by held records seats) b ++ published_by held records more) (sym out)
      ]

  module _ (seats : List ℕ) (i x : ℕ) (inside : i < length seats) (at : x ≡ slice_index_or seats i x) where
    -- with the next seat
    published_next : published_by held records (take (i + 1) seats) ≡ published_by held records (take i seats) ++ published_by held records (x ∷ [])
    published_next =
        let one : i + 1 ≡ suc i = omega arith in
        ap (λ n. published_by held records (take n seats)) one
        ∙ ap (published_by held records) (take-suc seats i x inside)
        ∙ published_append (take i seats) (slice_index_or seats i x ∷ [])
        ∙ ap (λ y. published_by held records (take i seats) ++ published_by held records (y ∷ [])) (sym at)

    -- there is room for its publication
    pub room_for_seat : (start made room room' : ℕ) (event : Option Event) → start + length (published_by held records seats) ≤ room → room' ≡ room → made ≡ start + length (published_by held records (take i seats))
        → option_to_list event ≡ published_by held records (x ∷ []) → made + length (option_to_list event) ≤ room'
    room_for_seat start made room room' event fits same is told =
        let all = ap (λ l. length (published_by held records l)) (sym (take-append-drop (i + 1) seats)) in
        let parts = ap length (published_append (take (i + 1) seats) (drop (i + 1) seats)) in
        let both = length-append (published_by held records (take (i + 1) seats)) (published_by held records (drop (i + 1) seats)) in
        let next = ap length published_next in
        let more = length-append (published_by held records (take i seats)) (published_by held records (x ∷ [])) in
        let long = ap length told in
        omega (arith, fits, same, is, all, parts, both, next, more, long)

    -- so are those of the seats up to it
    pub seat_noted : (first events events' : List Event) (event : Option Event) → events ≡ first ++ published_by held records (take i seats) → option_to_list event ≡ published_by held records (x ∷ []) → events' ≡ events ++ option_to_list event
        → events' ≡ first ++ published_by held records (take (i + 1) seats)
    seat_noted first events events' event is told put =
        put ∙ ap (λ l. l ++ option_to_list event) is ∙ ap (λ l. (first ++ published_by held records (take i seats)) ++ l) told
        ∙ append_assoc first (published_by held records (take i seats)) (published_by held records (x ∷ []))
        ∙ ap (λ l. first ++ l) (sym published_next)

    pub seat_counted : (start made made' : ℕ) (event : Option Event) → made ≡ start + length (published_by held records (take i seats)) → option_to_list event ≡ published_by held records (x ∷ []) → made' ≡ made + length (option_to_list event)
        → made' ≡ start + length (published_by held records (take (i + 1) seats))
    seat_counted start made made' event is told put =
        let next = ap length published_next in
        let more = length-append (published_by held records (take i seats)) (published_by held records (x ∷ [])) in
        let long = ap length told in
        omega (arith, is, put, next, more, long)

  -- at the end they are those of all seats
  pub all_noted : (seats : List ℕ) (i : ℕ) → length seats ≤ i → published_by held records (take i seats) ≡ published_by held records seats
  all_noted seats i past = ap (published_by held records) (take_all i seats past)

-- tests that agree on the seats below 8 give the same publications of such seats
pub same_published : (held held' : ℕ → Bool) (records : ℕ → ℕ) (seats : List ℕ) → All (λ s. s < 8) seats → ((s : ℕ) → s < 8 → held s ≡ held' s) → published_by held records seats ≡ published_by held' records seats
same_published held held' records [] low same = refl
same_published held held' records (t ∷ seats) low same =
    ap (λ b. if b then published_by held records seats else publication t (record_number (records t)) ∷ published_by held records seats) (same t (low 0 t (omega arith)))
    ∙ ap (λ es. if held' t then es else publication t (record_number (records t)) ∷ es) (same_published held held' records seats (λ k d h. low (suc k) d (omega (arith, h))) same)

-- the seats of a word are not published by it
pub none_published : (queue : ℕ) (records : ℕ → ℕ) (seats : List ℕ) → ((t : ℕ) → among_seats t seats ≡ true → holds queue t ≡ true) → published queue records seats ≡ []
none_published queue records [] all = refl
none_published queue records (t ∷ seats) all =
    ap (λ b. if b then published queue records seats else publication t (record_number (records t)) ∷ published queue records seats) (all t (or_left (t == t) (among_seats t seats) (eq-eqb t t refl)))
    ∙ none_published queue records seats (λ s among. all s (or_right (t == s) (among_seats s seats) among))

module _ (place before : ℕ) (words : List ℕ) where
  abbrev there : List Event
  there = published before (record_word_of words) (queue_seats (queue_word words))

  -- a step elsewhere publishes nothing
  pub elsewhere : place ≢ QUEUE → [] ≡ published_at place before words
  elsewhere other = sym (ap (λ b. if b then there else []) (ne_eqb place QUEUE other))

  module _ (at : place ≡ QUEUE) where
    here : published_at place before words ≡ there
    here = ap (λ b. if b then there else []) (eq-eqb place QUEUE at)

    -- nor does one that leaves the queue word
    pub unchanged : queue_word words ≡ before → [] ≡ published_at place before words
    unchanged same = sym (here ∙ ap (λ q. published before (record_word_of words) (queue_seats q)) same ∙ none_published before (record_word_of words) (queue_seats before) (λ t among. among))

    -- what it publishes is read off the members of the word before
    pub by_members : (members : List Bool) → AreMembers members (queue_seats before) → published_by (is_member members) (record_word_of words) (queue_seats (queue_word words)) ≡ published_at place before words
    by_members members are = same_published (is_member members) (holds before) (record_word_of words) (queue_seats (queue_word words)) (queue_seats_are (queue_word words)).real are ∙ sym here
