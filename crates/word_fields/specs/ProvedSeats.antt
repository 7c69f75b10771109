-- What is read from a queue word are seats, and seats that were written are read back.
use Rattle.std.proofs.Common.{◌≡◌, ◌≢◌, ℕ, zero, suc, ◌+◌, ◌-◌, ◌*◌, ◌/◌, ◌%◌, ◌^◌, ◌<◌, ◌≤◌, true, List, [], ◌∷◌, ◌++◌, length, map, get_or, refl, ap, sym, ◌∙◌, subst, arith, append_assoc, append-nil, zero-add, length-append, nat_lt}
use Rattle.std.specs.Prelude.{All, AllPairs, ◌==◌, nat_le, not, ◌&&◌, replicate}
use Rattle.std.specs.List.{list_any}
use Rattle.std.proofs.lemmas.List.Quantifiers.{all_pairs_push}
use Rattle.std.proofs.lemmas.List.Elements.{All-push}
use Rattle.std.proofs.lemmas.List.Folds.{list_any_at, list_any_none}
use Rattle.std.proofs.lemmas.Bool.{and_parts, and_from, cond_both, not-true, not_from_false, true≢false, ltb-true, leb-true, eq-eqb, ne_eqb, lt-ltb, le-leb, cond-true}
use Rattle.std.proofs.Math.Nat.{pow-suc}
use Rattle.std.proofs.Math.Seq.{get_or-append_seam}
use Rattle.std.proofs.lemmas.List.{get_or_append_left}
use Rattle.word_fields.specs.Fields.{field_of}
use Rattle.word_fields.specs.Seats.{AreSeats, places_of, names_another, seats_named, queue_seats, seats_word}

-- a place that names another seat names one below 8
another_real : (seats : List ℕ) (place : ℕ) → names_another seats place ≡ true → place - 1 < 8
another_real seats place h =
    let parts = and_parts (nat_lt 0 place && nat_le place 8) (not (list_any (λ s. s == place - 1) seats)) h in
    let range = and_parts (nat_lt 0 place) (nat_le place 8) parts.0 in
    omega (arith, ltb-true 0 place range.0, leb-true place 8 range.1)

-- and one that isn't among them
another_new : (seats : List ℕ) (place : ℕ) → names_another seats place ≡ true → (k d : ℕ) → k < length seats → get_or seats k d ≢ place - 1
another_new seats place h k d within e =
    let is_it = λ (s : ℕ). s == place - 1 in
    let parts = and_parts (nat_lt 0 place && nat_le place 8) (not (list_any is_it seats)) h in
    true≢false (sym (list_any_at is_it seats k d within (eq-eqb _ _ e)) ∙ not-true (list_any is_it seats) parts.1)

-- all below 8, each once
record Differ (seats : List ℕ) : Type 0 where
  real : All (λ s. s < 8) seats
  differ : AllPairs (λ s t. s ≢ t) seats

none_differ : Differ []
none_differ = record { real = λ k d h. absurd (omega arith); differ = λ i j d h within. absurd (omega arith) }

-- one more seat
more : (seats : List ℕ) (place : ℕ) → names_another seats place ≡ true → Differ seats → Differ (seats ++ (place - 1) ∷ [])
more seats place h d = record {
  real = All-push (λ s. s < 8) seats (place - 1) d.real (another_real seats place h);
  differ = all_pairs_push (λ s t. s ≢ t) seats (place - 1) d.differ (another_new seats place h);
}

named_differ : (before places : List ℕ) → Differ before → Differ (seats_named before places)
unfolding seats_named
named_differ before [] d = d
named_differ before (place ∷ places) d =
    cond_both (names_another before place) (seats_named (before ++ (place - 1) ∷ []) places) before Differ
    (λ h. named_differ (before ++ (place - 1) ∷ []) places (more before place h d))
    (λ _. d)

named_fit : (before places : List ℕ) → length (seats_named before places) ≤ length before + length places
unfolding seats_named
named_fit before [] = omega arith
named_fit before (place ∷ places) =
    cond_both (names_another before place) (seats_named (before ++ (place - 1) ∷ []) places) before (λ seats. length seats ≤ length before + suc (length places))
    (λ h. omega (arith, named_fit (before ++ (place - 1) ∷ []) places, length-append before ((place - 1) ∷ [])))
    (λ _. omega arith)

-- what is read from a word are seats
pub queue_seats_are : (w : ℕ) → AreSeats (queue_seats w)
unfolding places_of queue_seats
queue_seats_are w =
    let d = named_differ [] (places_of w) none_differ in
    record { real = d.real; differ = d.differ; fit = named_fit [] (places_of w) }

-- the places of a word, one after the other
places_down : ℕ → ℕ → List ℕ
places_down zero w = []
places_down (suc n) w = w % 16 ∷ places_down n (w / 16)

places_of-down : (w : ℕ) → places_of w ≡ places_down 8 w
unfolding places_of places_down field_of
places_of-down w =
    let p0 : w / 1 % 16 ≡ w % 16 = omega arith in
    let p2 : w / 256 % 16 ≡ w / 16 / 16 % 16 = omega arith in
    let p3 : w / 4096 % 16 ≡ w / 16 / 16 / 16 % 16 = omega arith in
    let p4 : w / 65536 % 16 ≡ w / 16 / 16 / 16 / 16 % 16 = omega arith in
    let p5 : w / 1048576 % 16 ≡ w / 16 / 16 / 16 / 16 / 16 % 16 = omega arith in
    let p6 : w / 16777216 % 16 ≡ w / 16 / 16 / 16 / 16 / 16 / 16 % 16 = omega arith in
    let p7 : w / 268435456 % 16 ≡ w / 16 / 16 / 16 / 16 / 16 / 16 / 16 % 16 = omega arith in
    cc

-- one place more
place_more : (n v : ℕ) → 16 ^ suc n * v ≡ 16 * (16 ^ n * v)
place_more n v = omega (arith, ap (λ x. x * v) (pow-suc 16 n))

-- places above the seats are empty
places_empty : (n v : ℕ) → places_down n (16 ^ n * v) ≡ replicate n 0
unfolding places_down
places_empty zero v = refl
places_empty (suc n) v =
    let low : 16 * (16 ^ n * v) % 16 ≡ 0 = omega arith in
    let high : 16 * (16 ^ n * v) / 16 ≡ 16 ^ n * v = omega arith in
    rw (place_more n v, low, high, places_empty n v) refl

-- the lowest place, and those above it
place_low : (s rest : ℕ) → s < 8 → (s + 1 + 16 * rest) % 16 ≡ s + 1
place_low s rest below = omega arith

place_high : (s rest : ℕ) → s < 8 → (s + 1 + 16 * rest) / 16 ≡ rest
place_high s rest below = omega arith

place_first : (n v s seats : ℕ) → s + 1 + 16 * seats + 16 ^ suc n * v ≡ s + 1 + 16 * (seats + 16 ^ n * v)
place_first n v s seats = omega (arith, place_more n v)

-- each seat is in its place
places_written : (n v : ℕ) (seats : List ℕ) → length seats ≤ n → All (λ s. s < 8) seats →
    places_down n (seats_word seats + 16 ^ n * v) ≡ map (λ s. s + 1) seats ++ replicate (n - length seats) 0
unfolding seats_word places_down
places_written n v [] fit real =
    let whole : n - 0 ≡ n = omega arith in
    rw (zero-add (16 ^ n * v), places_empty n v, whole) refl
places_written zero v (s ∷ seats) fit real = absurd (omega arith)
places_written (suc n) v (s ∷ seats) fit real =
    let below : s < 8 = real 0 s (omega arith) in
    let less : suc n - suc (length seats) ≡ n - length seats = omega arith in
    let others = places_written n v seats (omega arith) (λ k d h. real (suc k) d (omega arith)) in
    rw (place_first n v s (seats_word seats), place_low s (seats_word seats + 16 ^ n * v) below, place_high s (seats_word seats + 16 ^ n * v) below, less, others) refl

one_le_pow : (n : ℕ) → 0 < 16 ^ n
one_le_pow zero = omega arith
one_le_pow (suc n) = omega (arith, one_le_pow n, pow-suc 16 n)

-- a seat that isn't among those before is named by its place
names_back : (before : List ℕ) (s : ℕ) → s < 8 → All (λ t. t ≢ s) before → names_another before (s + 1) ≡ true
names_back before s below apart =
    let is_it = λ (t : ℕ). t == s + 1 - 1 in
    and_from (nat_lt 0 (s + 1) && nat_le (s + 1) 8) (not (list_any is_it before))
    (and_from (nat_lt 0 (s + 1)) (nat_le (s + 1) 8) (lt-ltb 0 (s + 1) (omega arith)) (le-leb (s + 1) 8 (omega arith)))
    (not_from_false (list_any is_it before) (list_any_none is_it before (λ k d h. ne_eqb _ _ (λ e. apart k d h (omega arith)))))

-- a seat differs from those before it
apart_before : (before : List ℕ) (s : ℕ) (seats : List ℕ) → Differ (before ++ s ∷ seats) → All (λ t. t ≢ s) before
apart_before before s seats d k e h =
    let inside : length before < length (before ++ s ∷ seats) = omega (arith, length-append before (s ∷ seats)) in
    let differ = d.differ k (length before) e h inside in
    rw (get_or_append_left before (s ∷ seats) e k h, get_or-append_seam before s seats e) at differ

named_back : (before seats : List ℕ) (k : ℕ) → Differ (before ++ seats) → seats_named before (map (λ s. s + 1) seats ++ replicate k 0) ≡ before ++ seats
unfolding seats_named
named_back before [] zero d = sym (append-nil before)
named_back before [] (suc k) d = sym (append-nil before)
named_back before (s ∷ seats) k d =
    let joined : (before ++ s ∷ []) ++ seats ≡ before ++ s ∷ seats = append_assoc before (s ∷ []) seats in
    let place : s + 1 - 1 ≡ s = omega arith in
    let inside : length before < length (before ++ s ∷ seats) = omega (arith, length-append before (s ∷ seats)) in
    let below = rw (get_or-append_seam before s seats 0) at (d.real (length before) 0 inside) in
    let others = named_back (before ++ s ∷ []) seats k (subst Differ (sym joined) d) in
    cond-true (names_another before (s + 1)) _ before (names_back before s below (apart_before before s seats d))
    ∙ rw place (others ∙ joined)

-- the bits of seats stay below those of the version
pub seats_word_below : (n : ℕ) (seats : List ℕ) → length seats ≤ n → All (λ s. s < 8) seats → seats_word seats < 16 ^ n
unfolding seats_word
seats_word_below n [] fit real = one_le_pow n
seats_word_below zero (s ∷ seats) fit real = absurd (omega arith)
seats_word_below (suc n) (s ∷ seats) fit real =
    let below : s < 8 = real 0 s (omega arith) in
    let rest = seats_word_below n seats (omega arith) (λ k d h. real (suc k) d (omega arith)) in
    omega (arith, pow-suc 16 n)

-- seats that were written are read back
pub seats_read_back : (seats : List ℕ) (version : ℕ) → AreSeats seats → queue_seats (seats_word seats + 2 ^ 32 * version) ≡ seats
unfolding queue_seats
seats_read_back seats version are =
    let down = places_of-down (seats_word seats + 2 ^ 32 * version) ∙ places_written 8 version seats are.fit are.real in
    ap (seats_named []) down ∙ named_back [] seats (8 - length seats) (record { real = are.real; differ = are.differ })
