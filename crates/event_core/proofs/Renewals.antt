-- A core that is taken back to its opening.
use Rattle.std.proofs.Common.{arith, ◌≡◌, ◌∙◌, ◌+◌, ◌<◌, ◌≤◌, refl, sym, subst, ap, ℕ, zero, suc, List, [], ◌∷◌, length, map, slice_index, slice_index_or, slice_set, inl, inr}
use Rattle.std.proofs.lemmas.Bool.{cases_eq, cases_lt}
use Rattle.std.proofs.lemmas.List.{ext_get_or, get_or_past}
use Rattle.std.proofs.lemmas.List.FromFn.{get_or-map-range_with_len, length-map-range_with_len}
use Rattle.step_memory.specs.declared.steps.Request.TheVariants.{Store}
use Rattle.step_memory.specs.Step.{words_after}
use Rattle.step_memory.proofs.Words.{length-words_after, word_at_place, word_elsewhere}
use Rattle.node_arena.specs.MemoryMap.{words_of}
use Rattle.node_arena.specs.Opening.{IsOpening, opening_words}
use Rattle.node_arena.proofs.Openings.{opens_zero_behind}
use Rattle.normal_traits.specs.NormalForm.{NormalForm}
use Rattle.fast_slow_engine.specs.declared.setup.Setup.{Setup}
use Rattle.fast_slow_engine.specs.PhaseTable.{mech_new, mech_request}
use Rattle.fast_slow_engine.specs.Runs.{AreMoves, Move, begun, moved_by, run_of}
use Rattle.event_core.specs.Cores.{new_seats}
use Rattle.event_core.specs.Seats.{Seat}

-- ---- words

-- the places below this one are written
pub record Written (from : List ℕ) (old : List ℕ) (below : ℕ) (now : List ℕ) : Type 0 where
  pub count : length now ≡ length old
  pub each : (place : ℕ) → place < below → slice_index now place ≡ slice_index from place

-- one more is
pub one_written : (from old now now' : List ℕ) (at value : ℕ) → at < length old → value ≡ slice_index from at → now' ≡ words_after (Store at value) now → Written from old at now → Written from old (at + 1) now'
one_written from old now now' at value inside is step w =
    let count = w.count in
    subst (Written from old (at + 1)) (sym step)
    (record {
      count = length-words_after (Store at value) now ∙ count;
      each = λ place below. elim (cases_eq place at) [
        | inl here ↦ ap (slice_index (words_after (Store at value) now)) here ∙ word_at_place (Store at value) now (omega (arith, inside, count)) ∙ is ∙ ap (slice_index from) (sym here)
        | inr other ↦ word_elsewhere (Store at value) now place other ∙ w.each place (omega (arith, below, other))
      ];
    })

-- behind block 0 every opening has zeros, so the words of one block tell those of any number
word_by_first : (opening : ℕ → ℕ) → IsOpening opening → (place : ℕ) → slice_index (opening_words opening 1) place ≡ opening place
word_by_first opening opens place =
    elim (cases_lt place (words_of 1)) [
      | inl low ↦ get_or-map-range_with_len opening 0 (words_of 1) place place 0 low (omega arith)
      | inr behind ↦ get_or_past (opening_words opening 1) place 0 (subst (λ n. n ≤ place) (sym (length-map-range_with_len opening 0 (words_of 1))) behind) ∙ sym (opens_zero_behind opening opens place (omega (arith, behind)))
    ]

pub rewritten : (opening : ℕ → ℕ) → IsOpening opening → (blocks : ℕ) (first words : List ℕ) → first ≡ opening_words opening 1 → length words ≡ words_of blocks → ((place : ℕ) → place < length words → slice_index words place ≡ slice_index first place) → words ≡ opening_words opening blocks
rewritten opening opens blocks first words is count each =
    let all = length-map-range_with_len opening 0 (words_of blocks) in
    ext_get_or 0 words (opening_words opening blocks) (count ∙ sym all)
    (λ place inside.
    each place inside ∙ ap (λ ws. slice_index ws place) is ∙ word_by_first opening opens place
    ∙ sym (get_or-map-range_with_len opening 0 (words_of blocks) place place 0 (subst (λ n. place < n) count inside) (omega arith)))

-- a run has as many words as it opens with
pub words_stay : {S W : Type 0} (form : NormalForm S W) (setup : Setup) (moves : List Move) → AreMoves form setup moves → length (run_of form setup moves).words ≡ words_of setup.cap
words_stay form setup [] are = length-map-range_with_len form.opening 0 (words_of setup.cap)
words_stay {S} {W} form setup (move ∷ older) are =
    let is = are.1 in
    let state = run_of form setup older in
    ap (λ o. length (moved_by form o move state).words) is.seated
    ∙ length-words_after (mech_request form (begun move.begins is.mech)) state.words ∙ words_stay form setup older are.0

-- ---- seats

module _ {S W : Type 0} (setup : Setup) where
  -- a seat that has made no call
  abbrev pub renewed_seat : ℕ → Seat S W → Seat S W
  renewed_seat number seat = record { mech = mech_new number setup; file = seat.file }

  -- of seats from a number on, so many are renewed
  abbrev pub renewed : ℕ → ℕ → List (Seat S W) → List (Seat S W)
  renewed number zero seats = seats
  renewed number (suc n) [] = []
  renewed number (suc n) (seat ∷ seats) = renewed_seat number seat ∷ renewed (number + 1) n seats

  pub renewed_count : (number n : ℕ) (seats : List (Seat S W)) → length (renewed number n seats) ≡ length seats
  renewed_count number zero seats = refl
  renewed_count number (suc n) [] = refl
  renewed_count number (suc n) (seat ∷ seats) = ap suc (renewed_count (number + 1) n seats)

  -- one more is
  pub one_renewed : (number n : ℕ) (seats : List (Seat S W)) (old : Seat S W) → n < length seats → old ≡ slice_index_or (renewed number n seats) n old
      → slice_set (renewed number n seats) n (renewed_seat (number + n) old) ≡ renewed number (n + 1) seats
  one_renewed number zero [] old inside at = absurd (omega (arith, inside))
  one_renewed number zero (seat ∷ seats) old inside at =
      ap (λ k. renewed_seat k old ∷ seats) (let e : number + 0 ≡ number = omega arith in e) ∙ ap (λ (s : Seat S W). renewed_seat number s ∷ seats) at
      ∙ ap (λ k. renewed number k (seat ∷ seats)) (let e : 1 ≡ 0 + 1 = omega arith in e)
  one_renewed number (suc n) [] old inside at = absurd (omega (arith, inside))
  one_renewed number (suc n) (seat ∷ seats) old inside at =
      ap (λ k. renewed_seat number seat ∷ slice_set (renewed (number + 1) n seats) n (renewed_seat k old)) (let e : number + suc n ≡ number + 1 + n = omega arith in e)
      ∙ ap (λ l. renewed_seat number seat ∷ l) (one_renewed (number + 1) n seats old (omega (arith, inside)) at)
      ∙ ap (λ k. renewed number k (seat ∷ seats)) (let e : suc (n + 1) ≡ suc n + 1 = omega arith in e)

  pub next_renewed : (old now : List (Seat S W)) (n : ℕ) (was is : Seat S W) → now ≡ renewed 0 n old → n < length old → was ≡ slice_index_or now n was → is.mech ≡ mech_new n setup → is.file ≡ was.file → slice_set now n is ≡ renewed 0 (n + 1) old
  next_renewed old now n was is so_far inside at mech file =
      let new : is ≡ renewed_seat (0 + n) was = ap (λ m. record { mech = m; file = is.file }) (mech ∙ ap (λ k. mech_new k setup) (let e : n ≡ 0 + n = omega arith in e)) ∙ ap (λ f. record { mech = mech_new (0 + n) setup; file = f }) file in
      ap (λ l. slice_set l n is) so_far ∙ ap (slice_set (renewed 0 n old) n) new
      ∙ one_renewed 0 n old was inside (subst (λ l. was ≡ slice_index_or l n was) so_far at)

  -- all are
  pub all_renewed : (number n : ℕ) (seats : List (Seat S W)) → length seats ≤ n → renewed number n seats ≡ new_seats setup number (map (λ (s : Seat S W). s.file) seats)
  all_renewed number zero [] all = refl
  all_renewed number (suc n) [] all = refl
  all_renewed number zero (seat ∷ seats) all = absurd (omega (arith, all))
  all_renewed number (suc n) (seat ∷ seats) all = ap (λ l. renewed_seat number seat ∷ l) (all_renewed (number + 1) n seats (omega (arith, all)))
