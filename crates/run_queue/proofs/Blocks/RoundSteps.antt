-- A step raises the rounds of a record by one at most, and only where it names a block.
use Rattle.std.proofs.Common.{◌≡◌, ◌≢◌, ap, ◌∙◌, ℕ, ◌+◌, ◌%◌, ◌<◌, ◌≤◌, ◌^◌, true, false, List, length, set, arith, inl, inr}
use Rattle.std.specs.Prelude.{◌==◌, ◌&&◌, nat_lt, slice_index}
use Rattle.std.proofs.lemmas.Bool.{cases_eq, cond-true, cond-false, cond_both, eq-eqb, ne_eqb, lt-ltb}
use Rattle.step_memory.specs.declared.steps.Request.{Request}
use Rattle.step_memory.specs.declared.steps.Request.TheVariants.{Load, Store, Exchange}
use Rattle.step_memory.specs.declared.steps.Seen.{Seen}
use Rattle.step_memory.specs.Step.{requested_place, seen_of, words_after}
use Rattle.step_memory.proofs.Words.{exchange_changes, load_keeps, word_at_place, word_elsewhere}
use Rattle.word_fields.specs.declared.records.RecordPhase.{RecordPhase}
use Rattle.word_fields.specs.declared.records.RecordPhase.TheVariants.{Idle, Generate, Executing, Wrapping, Completed}
use Rattle.word_fields.specs.declared.records.RecordWord.{RecordWord}
use Rattle.word_fields.specs.Records.{record_phase, record_round, record_word, record_of, packed_record, number_below, round_below}
use Rattle.word_fields.proofs.RecordWords.{phase-word, round-word, record_of-packed}
use Rattle.node_arena.specs.declared.places.TheConstants.{QUEUE}
use Rattle.node_arena.specs.MemoryMap.{record_place}
use Rattle.help_queue.specs.declared.enter.EnterStage.{EnterStage}
use Rattle.help_queue.specs.declared.enter.EnterStage.TheVariants as enter
use Rattle.help_queue.specs.declared.remove.RemoveStage.{RemoveStage}
use Rattle.help_queue.specs.declared.remove.RemoveStage.TheVariants as remove
use Rattle.help_queue.specs.Gathers.{Gathering, gather_over, gather_request}
use Rattle.help_queue.specs.Enters.{enter_request_in}
use Rattle.help_queue.specs.Removes.{remove_request_in}
use Rattle.fast_slow_engine.specs.HelpWords.{is_executing}
use Rattle.run_queue.specs.Fits.{GoesTo}
use Rattle.run_queue.specs.Fits.GoesTo.{executes, settles, completes, restarts}
use Rattle.run_queue.specs.Premises.{LeavesQueue}
use Rattle.run_queue.specs.Rounds.{one_if, rounds_by, rounds_in}

-- ---- the word to which a record goes

rounds_word : (p : RecordPhase) (number round payload : ℕ) → number < 2 ^ 16 → round < 2 ^ 17 → rounds_in (record_word p number round payload) ≡ rounds_by p round
rounds_word p number round payload n r = ap (λ q. rounds_by q (record_round (record_word p number round payload))) (phase-word p number round payload) ∙ ap (rounds_by p) (round-word p number round payload n r)

rounds_over : (p : RecordPhase) (round : ℕ) → round ≤ rounds_by p round
rounds_over Idle round = omega arith
rounds_over Generate round = omega arith
rounds_over Executing round = omega arith
rounds_over Wrapping round = omega arith
rounds_over Completed round = omega arith

pub goes_rounds : (word to : ℕ) → GoesTo word to → rounds_in to ≤ rounds_in word + one_if (is_executing (record_phase to))
goes_rounds word to (executes block is same) =
    let after : rounds_in to ≡ record_round word + 1 = ap rounds_in same ∙ rounds_word Executing _ _ _ (number_below word) (round_below word) in
    let before : rounds_in word ≡ record_round word = ap (λ p. rounds_by p (record_round word)) is in
    let named : one_if (is_executing (record_phase to)) ≡ 1 = ap (λ w. one_if (is_executing (record_phase w))) same ∙ ap (λ p. one_if (is_executing p)) (phase-word Executing _ _ _) in
    omega (arith, after, before, named)
goes_rounds word to (settles stop is same) =
    let after : rounds_in to ≡ record_round word + 1 = ap rounds_in same ∙ rounds_word Wrapping _ _ _ (number_below word) (round_below word) in
    let before : rounds_in word ≡ record_round word + 1 = ap (λ p. rounds_by p (record_round word)) is in
    omega (arith, after, before)
goes_rounds word to (completes outcome opened same) =
    let after : rounds_in to ≡ record_round word = ap rounds_in same ∙ rounds_word Completed _ _ _ (number_below word) (round_below word) in
    let before = rounds_over (record_phase word) (record_round word) in
    omega (arith, after, before)
goes_rounds word to (restarts is same) =
    let after : rounds_in to ≡ (record_round word + 1) % 2 ^ 17 = ap rounds_in same ∙ rounds_word Generate _ _ _ (number_below word) (omega arith) in
    let before : rounds_in word ≡ record_round word + 1 = ap (λ p. rounds_by p (record_round word)) is in
    omega (arith, after, before)

-- ---- a request leaves the rounds of a record, or raises them by so many

abbrev pub RaisesBy : List ℕ → Request → ℕ → ℕ → Type 0
RaisesBy words request more t = rounds_in (slice_index (words_after request words) (record_place t)) ≤ rounds_in (slice_index words (record_place t)) + more

won_tells : (words : List ℕ) (s from to : ℕ) → record_place s < length words → slice_index words (record_place s) ≡ from → (seen_of (Exchange (record_place s) from to) words).won ≡ true
unfolding seen_of
won_tells words s from to inside won =
    let seen : Seen = record { before = slice_index words (record_place s); won = slice_index words (record_place s) == from } in
    let past : Seen = record { before = 0; won = false } in
    ap (λ (x : Seen). x.won) (cond-true (nat_lt (record_place s) (length words)) seen past (lt-ltb (record_place s) (length words) inside)) ∙ eq-eqb (slice_index words (record_place s)) from won

module _ (words : List ℕ) (t : ℕ) (few : t < 8) where
  pub same_rounds : (request : Request) (more : ℕ) → slice_index (words_after request words) (record_place t) ≡ slice_index words (record_place t) → RaisesBy words request more t
  same_rounds request more same = let level = ap rounds_in same in omega (arith, level)

  pub leaves_rounds : (request : Request) (more : ℕ) → LeavesQueue request words → RaisesBy words request more t
  leaves_rounds request more leaves = same_rounds request more (leaves (record_place t) (inr (inl (omega arith, omega (arith, few)))))

  pub elsewhere_rounds : (request : Request) (more : ℕ) → record_place t ≢ requested_place request → RaisesBy words request more t
  elsewhere_rounds request more apart = same_rounds request more (word_elsewhere request words (record_place t) apart)

  pub load_rounds : (at more : ℕ) → RaisesBy words (Load at) more t
  load_rounds at more = same_rounds (Load at) more (ap (λ l. slice_index l (record_place t)) (load_keeps at words))

  -- the queue's own requests
  gather_rounds : (g : Gathering) (to more : ℕ) → RaisesBy words (gather_request g to) more t
  gather_rounds g to more =
      cond_both (gather_over g) (Exchange QUEUE g.word to) (Load (record_place g.next)) (λ request. RaisesBy words request more t)
      (λ _. elsewhere_rounds (Exchange QUEUE g.word to) more (λ e. omega (arith, e))) (λ _. load_rounds (record_place g.next) more)

  pub enter_rounds : (stage : EnterStage) (more : ℕ) → RaisesBy words (enter_request_in stage) more t
  enter_rounds enter.Look more = load_rounds 1 more
  enter_rounds (enter.Gathers g) more = gather_rounds g _ more

  pub remove_rounds : (stage : RemoveStage) (seat more : ℕ) → RaisesBy words (remove_request_in stage seat) more t
  remove_rounds remove.Look seat more = load_rounds 1 more
  remove_rounds (remove.Check word) seat more = load_rounds _ more
  remove_rounds (remove.Gathers g) seat more = gather_rounds g _ more

  -- ---- a call is announced

  pub announce_rounds : (i n more : ℕ) → n < 2 ^ 16 → 32 ≤ length words → RaisesBy words (Store (record_place i) (record_word Generate n 0 0)) more t
  announce_rounds i n more small long =
      elim (cases_eq t i) [
        | inr other ↦ elsewhere_rounds (Store (record_place i) (record_word Generate n 0 0)) more (λ e. other (omega (arith, e)))
        | inl same ↦ (
            let request = Store (record_place i) (record_word Generate n 0 0) in
            let at : slice_index (words_after request words) (record_place t) ≡ record_word Generate n 0 0 = ap (λ k. slice_index (words_after request words) (record_place k)) same ∙ word_at_place request words (omega (arith, same, few, long)) in
            let none : rounds_in (slice_index (words_after request words) (record_place t)) ≡ 0 = ap rounds_in at ∙ rounds_word Generate n 0 0 small (omega arith) in
            omega (arith, none))
      ]

  -- ---- a record is exchanged

  pub exchange_rounds : (s word to : ℕ) → GoesTo word to → 32 ≤ length words → (let request = Exchange (record_place s) (packed_record (record_of word)) to in RaisesBy words request (one_if ((seen_of request words).won && is_executing (record_phase to))) t)
  exchange_rounds s word to goes long =
      let from = packed_record (record_of word) in
      let request = Exchange (record_place s) from to in
      let more = one_if ((seen_of request words).won && is_executing (record_phase to)) in
      elim (cases_eq t s) [
        | inr other ↦ elsewhere_rounds request more (λ e. other (omega (arith, e)))
        | inl here ↦ elim (cases_eq (slice_index words (record_place s)) from) [
          | inr lost ↦ same_rounds request more (ap (λ l. slice_index l (record_place t)) (exchange_changes (record_place s) from to words ∙ cond-false (slice_index words (record_place s) == from) (set words (record_place s) to) words (ne_eqb (slice_index words (record_place s)) from lost)))
          | inl won ↦ (
              let inside : record_place s < length words = omega (arith, here, few, long) in
              let now : slice_index (words_after request words) (record_place t) ≡ to = ap (λ k. slice_index (words_after request words) (record_place k)) here ∙ word_at_place request words inside ∙ cond-true (slice_index words (record_place s) == from) to (slice_index words (record_place s)) (eq-eqb (slice_index words (record_place s)) from won) in
              let fields : record_of (slice_index words (record_place t)) ≡ record_of word = ap (λ k. record_of (slice_index words (record_place k))) here ∙ ap record_of won ∙ record_of-packed (record_of word) in
              let was : rounds_in (slice_index words (record_place t)) ≡ rounds_in word = ap (λ (r : RecordWord). rounds_by r.phase r.round) fields in
              let is : rounds_in (slice_index (words_after request words) (record_place t)) ≡ rounds_in to = ap rounds_in now in
              let tells : (seen_of request words).won ≡ true = won_tells words s from to inside won in
              let count : more ≡ one_if (is_executing (record_phase to)) = ap (λ b. one_if (b && is_executing (record_phase to))) tells in
              let raise = goes_rounds word to goes in
              omega (arith, was, is, count, raise))
        ]
      ]
