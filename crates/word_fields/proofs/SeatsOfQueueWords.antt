-- The seats of a queue word are those that its first places name.
use Rattle.std.proofs.Common.{◌≡◌, ℕ, zero, suc, ◌+◌, ◌-◌, ◌*◌, ◌/◌, ◌%◌, ◌^◌, ◌<◌, ◌≤◌, true, false, List, [], ◌∷◌, ◌++◌, length, map, take, drop, get_or, refl, ap, sym, ◌∙◌, subst, arith, inl, inr, ⊎_elim, length-drop, append_assoc, length-append}
use Rattle.std.specs.Prelude.{slice_index, nat_lt, nat_le, ◌&&◌, not, ◌==◌, Any, Contains}
use Rattle.std.specs.List.{list_any}
use Rattle.std.proofs.lemmas.Bool.{cond-true, cond-false, cond_both, and_cases, and_parts, not-false, ltb-true, ltb-false, leb-false, eqb-true}
use Rattle.std.proofs.lemmas.List.{drop_more, length-map, map-append, take_at, get_or_at}
use Rattle.std.proofs.lemmas.List.Folds.{Any-from_list_any}
use Rattle.std.proofs.lemmas.List.Elements.{All-drop}
use mathlib.Core.HLevel.{is_prop→PathP}
use Rattle.std.proofs.Props.{props}
use Rattle.word_fields.proofs.Ranges.{below_prop}
use Rattle.word_fields.specs.declared.queues.QueueWord.{QueueWord}
use Rattle.word_fields.specs.Fields.{field_of, with_field}
use Rattle.word_fields.specs.Seats.{AreSeats, ReadsSeats, NamesNoOther, places_of, names_another, seats_named, queue_seats, seats_word}
use Rattle.word_fields.specs.ProvedSeats.{queue_seats_are, seats_read_back, seats_word_below}
use Rattle.word_fields.specs.Queues.{queue_version, queue_word, packed_queue, queue_of}

-- a place is read by a shift
pub place_read : (w p : ℕ) → p < 8 → field_of 0 4 (w / 2 ^ (4 * p)) ≡ slice_index (places_of w) p
unfolding places_of field_of
place_read w zero h = omega arith
place_read w (suc zero) h = omega arith
place_read w (suc (suc zero)) h = omega arith
place_read w (suc (suc (suc zero))) h = omega arith
place_read w (suc (suc (suc (suc zero)))) h = omega arith
place_read w (suc (suc (suc (suc (suc zero))))) h = omega arith
place_read w (suc (suc (suc (suc (suc (suc zero)))))) h = omega arith
place_read w (suc (suc (suc (suc (suc (suc (suc zero))))))) h = omega arith
place_read w (suc (suc (suc (suc (suc (suc (suc (suc p)))))))) h = absurd (omega arith)

-- a place that names another seat adds it
pub read_more : (w p : ℕ) (seats : List ℕ) → p < length (places_of w) → names_another seats (slice_index (places_of w) p) ≡ true →
    seats_named seats (drop p (places_of w)) ≡ seats_named (seats ++ (slice_index (places_of w) p - 1) ∷ []) (drop (p + 1) (places_of w))
unfolding seats_named
read_more w p seats h another =
    rw (drop_more (places_of w) p 0 h) (cond-true (names_another seats (slice_index (places_of w) p)) _ seats another)

-- one that names no other ends the reading
pub read_last : (w p : ℕ) (seats : List ℕ) → p < length (places_of w) → names_another seats (slice_index (places_of w) p) ≡ false →
    seats_named seats (drop p (places_of w)) ≡ seats
unfolding seats_named
read_last w p seats h none =
    rw (drop_more (places_of w) p 0 h) (cond-false (names_another seats (slice_index (places_of w) p)) _ seats none)

pub length-places_of : (w : ℕ) → length (places_of w) ≡ 8
unfolding places_of
length-places_of w = refl

-- reading begins with no seat, and ends after the last place
pub read_start : (w : ℕ) → seats_named [] (places_of w) ≡ queue_seats w
unfolding queue_seats
read_start w = refl

pub read_end : (w : ℕ) (seats : List ℕ) → seats_named seats (drop 8 (places_of w)) ≡ seats
unfolding seats_named places_of
read_end w seats = refl

-- ---- the seats, each one more, are the first places

-- what is read from places
record Reads (places seats : List ℕ) : Type 0 where
  named : map (λ s. s + 1) seats ≡ take (length seats) places
  ended : length seats < length places → NamesNoOther seats (slice_index places (length seats))

none_other : (seats : List ℕ) (place : ℕ) → names_another seats place ≡ false → NamesNoOther seats place
none_other seats place h =
    let is_it = λ (s : ℕ). s == place - 1 in
    ⊎_elim
    (λ range. ⊎_elim
    (λ low. inl (empty (ltb-false 0 place low)))
    (λ high. inr (inl (leb-false place 8 high)))
    (and_cases (nat_lt 0 place) (nat_le place 8) range))
    (λ old. inr (inr (repeat (Any-from_list_any is_it seats (not-false (list_any is_it seats) old)))))
    (and_cases (nat_lt 0 place && nat_le place 8) (not (list_any is_it seats)) h)
  where
    empty : place ≤ 0 → place ≡ 0
    empty h = omega arith

    repeat : Any (λ s. (s == place - 1) ≡ true) seats → Contains seats (place - 1)
    repeat any =
        let same = eqb-true any.1 (place - 1) any.4 in
        (any.0, any.2, subst (λ s. get_or seats any.0 s ≡ s) same any.3)

-- a place that names another seat is one more than it
names_it : (seats : List ℕ) (place : ℕ) → names_another seats place ≡ true → place - 1 + 1 ≡ place
names_it seats place h =
    let parts = and_parts (nat_lt 0 place && nat_le place 8) (not (list_any (λ s. s == place - 1) seats)) h in
    let range = and_parts (nat_lt 0 place) (nat_le place 8) parts.0 in
    omega (arith, ltb-true 0 place range.0)

-- so many places were read as there are seats
as_many : (done before : List ℕ) → map (λ s. s + 1) before ≡ done → length done ≡ length before
as_many done before e = sym (ap length e) ∙ length-map before (λ s. s + 1)

reads : (done before places : List ℕ) → map (λ s. s + 1) before ≡ done → Reads (done ++ places) (seats_named before places)
unfolding seats_named
reads done before [] e = record {
  named = e ∙ sym (take_at done [] (length before) (as_many done before e));
  ended = λ h. absurd (omega (arith, as_many done before e, length-append done []));
}
reads done before (place ∷ places) e =
    cond_both (names_another before place) (seats_named (before ++ (place - 1) ∷ []) places) before (Reads (done ++ place ∷ places))
    (λ h. subst (λ all. Reads all (seats_named (before ++ (place - 1) ∷ []) places)) (append_assoc done (place ∷ []) places)
    (reads (done ++ place ∷ []) (before ++ (place - 1) ∷ []) places (one_more h)))
    (λ h. record {
      named = e ∙ sym (take_at done (place ∷ places) (length before) (as_many done before e));
      ended = λ _. subst (NamesNoOther before) (sym (get_or_at done place places 0 (length before) (as_many done before e))) (none_other before place h);
    })
  where
    one_more : names_another before place ≡ true → map (λ s. s + 1) (before ++ (place - 1) ∷ []) ≡ done ++ place ∷ []
    one_more h =
        let it = names_it before place h in
        map-append (λ s. s + 1) before ((place - 1) ∷ []) ∙ (rw (e, it) refl)

-- the seats of a word are those that its first places name, up to the first that names no other
pub queue_seats_read : (w : ℕ) → ReadsSeats (places_of w) (queue_seats w)
unfolding queue_seats
queue_seats_read w =
    let r = reads [] [] (places_of w) refl in
    record { named = r.named; are = queue_seats_are w; ended = r.ended }

-- ---- writing

pub seats_word-drop : (seats : List ℕ) (p : ℕ) → p < length seats → seats_word (drop p seats) ≡ get_or seats p 0 + 1 + 16 * seats_word (drop (p + 1) seats)
unfolding seats_word
seats_word-drop seats p h = rw (drop_more seats p 0 h) refl

pub write_more : (seats : List ℕ) (p word : ℕ) → AreSeats seats → 0 < p → p ≤ length seats → word ≡ seats_word (drop p seats) →
    word * 16 % 18446744073709551616 + get_or seats (p - 1) 0 + 1 ≡ seats_word (drop (p - 1) seats)
write_more seats p word are more fit e =
    let back : p - 1 + 1 ≡ p = omega arith in
    let drop_back = rw back at (seats_word-drop seats (p - 1) (omega arith)) in
    let below = seats_word_below 8 (drop p seats) (omega (arith, length-drop p seats, are.fit)) (All-drop (λ s. s < 8) p seats are.real) in
    omega (arith, e, drop_back, below)

pub ruleset reading = (read_start, read_more, read_last, read_end, length-places_of)

-- ---- a whole word

pub queue_seats-word : (seats : List ℕ) (version : ℕ) → AreSeats seats → queue_seats (queue_word seats version) ≡ seats
unfolding queue_word
queue_seats-word seats version are = seats_read_back seats version are

pub queue_version-word : (seats : List ℕ) (version : ℕ) → AreSeats seats → version < 2 ^ 32 → queue_version (queue_word seats version) ≡ version
unfolding queue_word queue_version field_of
queue_version-word seats version are below = omega (arith, seats_word_below 8 seats are.fit are.real)

pub queue_word_below : (seats : List ℕ) (version : ℕ) → AreSeats seats → version < 2 ^ 32 → queue_word seats version < 2 ^ 64
unfolding queue_word
queue_word_below seats version are below = omega (arith, seats_word_below 8 seats are.fit are.real)

-- the version put beside the seats
pub queue_word_put : (seats : List ℕ) (version : ℕ) → AreSeats seats → with_field 32 32 (seats_word seats) version ≡ queue_word seats version
unfolding queue_word with_field
queue_word_put seats version are = omega (arith, seats_word_below 8 seats are.fit are.real)

are_prop : (seats : List ℕ) → IsProp (AreSeats seats)
are_prop seats = hlevel props

-- queue words with the same seats and version are the same
same_queue : (v u : QueueWord) → v.seats.items ≡ u.seats.items → v.version ≡ u.version → v ≡ u
same_queue v u seats version = λ i. record {
  seats = record { items = seats i };
  version = version i;
  are_seats = is_prop→PathP (λ j. AreSeats (seats j)) (λ j. are_prop (seats j)) v.are_seats u.are_seats i;
  version_in_range = is_prop→PathP (λ j. version j < 2 ^ 32) (λ j. below_prop (version j) (2 ^ 32)) v.version_in_range u.version_in_range i;
}

-- what was packed is unpacked again
pub queue_of-packed : (v : QueueWord) → queue_of (packed_queue v) ≡ v
queue_of-packed v =
    same_queue (queue_of (packed_queue v)) v
    (queue_seats-word v.seats.items v.version v.are_seats)
    (queue_version-word v.seats.items v.version v.are_seats v.version_in_range)

-- so different queue words pack to different words
pub packed_queue_differ : (v u : QueueWord) → packed_queue v ≡ packed_queue u → v ≡ u
packed_queue_differ v u e = sym (queue_of-packed v) ∙ ap queue_of e ∙ queue_of-packed u
