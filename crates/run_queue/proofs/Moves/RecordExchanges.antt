-- An exchange of a head's record by a helper is an advance in the world of the queue: it goes from the record that was loaded
-- to a later one of the same call.
use Rattle.std.proofs.Common.{◌≡◌, ℕ, ◌+◌, ◌%◌, ◌<◌, ◌≤◌, ◌^◌, true, false, List, length, refl, ap, sym, ◌∙◌, subst, arith, inl, inr, ◌⊎◌}
use Rattle.std.specs.Prelude.{slice_index}
use Rattle.step_memory.specs.declared.steps.Request.{Request}
use Rattle.step_memory.specs.declared.steps.Request.TheVariants.{Exchange}
use Rattle.word_fields.specs.declared.records.RecordPhase.{RecordPhase}
use Rattle.word_fields.specs.declared.records.RecordPhase.TheVariants.{Idle, Generate, Executing, Wrapping, Completed}
use Rattle.word_fields.specs.declared.records.RecordWord.{RecordWord}
use Rattle.word_fields.specs.Records.{phase_number, record_phase, record_number, record_round, record_of, packed_record, number_below, round_below}
use Rattle.word_fields.proofs.RecordWords.{phase-word, number-word, round-word}
use Rattle.node_arena.specs.MemoryMap.{record_place}
use Rattle.op_record.specs.Progress.{IsEarlier}
use Rattle.help_queue.specs.Gathers.{is_open}
use Rattle.help_queue_laws.specs.declared.phases.QueuePhase as queue
use Rattle.help_queue_laws.specs.Ghosts.{Ghosts, announces}
use Rattle.help_queue_laws.proofs.Known.Scenes.{Scene, scene_of, IsSound}
use Rattle.help_queue_laws.proofs.Known.Knowledge.{IsHelped}
use Rattle.help_queue_laws.proofs.Known.QueueWords.{not_both}
use Rattle.help_queue_laws.proofs.Acts.RecordActs.{Rewrites, Advancing}
use Rattle.help_queue_laws.proofs.Steps.Results.{scene_after, queue_stays, record_stays, op_stays, value_stays, besides, seat_word, won_word, announced_stays}
use Rattle.run_queue.specs.Fits.{GoesTo}
use Rattle.run_queue.specs.Fits.GoesTo.{executes, settles, completes, restarts}
use Rattle.run_queue.specs.Premises.{HasRounds}
use Rattle.run_queue.proofs.Moves.WonRecords.{same_fields, is_head, same_phase, same_number}

open_before : (p : RecordPhase) → is_open p ≡ true → phase_number p < 4
open_before Idle h = absurd (not_both h refl)
open_before Generate h = omega arith
open_before Executing h = omega arith
open_before Wrapping h = omega arith
open_before Completed h = absurd (not_both h refl)

-- ---- the word that it goes to

pub goes_from_open : (word to : ℕ) → GoesTo word to → is_open (record_phase word) ≡ true
goes_from_open word to (executes block is same) = ap is_open is
goes_from_open word to (settles stop is same) = ap is_open is
goes_from_open word to (completes outcome opened same) = opened
goes_from_open word to (restarts is same) = ap is_open is

pub goes_called : (word to : ℕ) → GoesTo word to → (is_open (record_phase to) ≡ true) ⊎ (record_phase to ≡ Completed)
goes_called word to (executes block is same) = inl (ap (λ w. is_open (record_phase w)) same ∙ ap is_open (phase-word Executing _ _ _))
goes_called word to (settles stop is same) = inl (ap (λ w. is_open (record_phase w)) same ∙ ap is_open (phase-word Wrapping _ _ _))
goes_called word to (completes outcome opened same) = inr (ap record_phase same ∙ phase-word Completed _ _ _)
goes_called word to (restarts is same) = inl (ap (λ w. is_open (record_phase w)) same ∙ ap is_open (phase-word Generate _ _ _))

pub goes_number : (word to : ℕ) → GoesTo word to → record_number to ≡ record_number word
goes_number word to (executes block is same) = ap record_number same ∙ number-word Executing _ _ _ (number_below word)
goes_number word to (settles stop is same) = ap record_number same ∙ number-word Wrapping _ _ _ (number_below word)
goes_number word to (completes outcome opened same) = ap record_number same ∙ number-word Completed _ _ _ (number_below word)
goes_number word to (restarts is same) = ap record_number same ∙ number-word Generate _ _ _ (number_below word)

later_phase : (word to : ℕ) → record_number to ≡ record_number word → record_round to ≡ record_round word → phase_number (record_phase word) < phase_number (record_phase to) → IsEarlier (record_of word) (record_of to)
later_phase word to number round less = inr (sym number, inr (sym round, less))

-- it is later: a call that restarts counts one round more
pub goes_later : (word to : ℕ) → (g : GoesTo word to) → (record_phase word ≡ Wrapping → record_round word + 1 < 2 ^ 17) → IsEarlier (record_of word) (record_of to)
goes_later word to (executes block is same) fits =
    let before : phase_number (record_phase word) ≡ 1 = ap phase_number is in
    let after : phase_number (record_phase to) ≡ 2 = ap (λ w. phase_number (record_phase w)) same ∙ ap phase_number (phase-word Executing (record_number word) (record_round word) block) in
    later_phase word to (goes_number word to (executes block is same)) (ap record_round same ∙ round-word Executing _ _ _ (number_below word) (round_below word)) (omega (arith, before, after))
goes_later word to (settles stop is same) fits =
    let before : phase_number (record_phase word) ≡ 2 = ap phase_number is in
    let after : phase_number (record_phase to) ≡ 3 = ap (λ w. phase_number (record_phase w)) same ∙ ap phase_number (phase-word Wrapping _ _ _) in
    later_phase word to (goes_number word to (settles stop is same)) (ap record_round same ∙ round-word Wrapping _ _ _ (number_below word) (round_below word)) (omega (arith, before, after))
goes_later word to (completes outcome opened same) fits =
    let before = open_before (record_phase word) opened in
    let after : phase_number (record_phase to) ≡ 4 = ap (λ w. phase_number (record_phase w)) same ∙ ap phase_number (phase-word Completed _ _ _) in
    later_phase word to (goes_number word to (completes outcome opened same)) (ap record_round same ∙ round-word Completed _ _ _ (number_below word) (round_below word)) (omega (arith, before, after))
goes_later word to (restarts is same) fits =
    let room = fits is in
    let round : record_round to ≡ (record_round word + 1) % 2 ^ 17 = ap record_round same ∙ round-word Generate _ _ _ (number_below word) (omega arith) in
    inr (sym (goes_number word to (restarts is same)), inl (omega (arith, round, room)))

-- ---- the exchange

module _ (seats i : ℕ) (words : List ℕ) (ghosts : Ghosts) (at : queue.QueuePhase) (long : 32 ≤ length words) (s word to : ℕ) (few : s < 8) where
  abbrev request : Request
  request = Exchange (record_place s) (packed_record (record_of word)) to

  abbrev was : Scene
  was = scene_of words ghosts

  abbrev now : Scene
  now = scene_after i words ghosts at request

  exchange_rewrites : Rewrites i s was now
  exchange_rewrites = record {
    beside = besides seats i words ghosts at long request (λ t _. op_stays seats i words ghosts at long request t (λ f. λ e. omega (arith, f, e))) (λ t _. value_stays seats i words ghosts at long request t (λ f. λ e. omega (arith, few, e)));
    queue = queue_stays seats i words ghosts at long request (λ e. omega (arith, e));
    others = λ t other. record_stays seats i words ghosts at long request t (λ _. λ e. other (omega (arith, e)));
    ops = λ t. op_stays seats i words ghosts at long request t (λ f. λ e. omega (arith, f, e));
    values = λ t. value_stays seats i words ghosts at long request t (λ f. λ e. omega (arith, few, e));
  }

  -- where it wins from the record that was loaded of a head
  pub advances : GoesTo word to → announces at ≡ false → HasRounds words → IsSound was → IsHelped was s word → slice_index words (record_place s) ≡ packed_record (record_of word) → Advancing i s was now
  advances goes none rounds sound helped same =
      let here : was.records s ≡ packed_record (record_of word) = seat_word s _ few ∙ same in
      let fields = same_fields was sound s word helped here in
      let now_is : now.records s ≡ to = seat_word s _ few ∙ won_word seats i words ghosts at long (record_place s) (packed_record (record_of word)) to (omega (arith, few)) same in
      let held : record_of (slice_index words (record_place s)) ≡ record_of word = ap record_of (sym (seat_word s _ few)) ∙ fields in
      let room : record_phase word ≡ Wrapping → record_round word + 1 < 2 ^ 17 = λ wraps.
      subst (λ (r : RecordWord). r.round + 1 < 2 ^ 17) held (rounds s few (ap (λ (r : RecordWord). r.phase) held ∙ wraps)) in
      record {
        rewrites = exchange_rewrites;
        opened = ap is_open (same_phase was sound s word helped here) ∙ goes_from_open word to goes;
        head = is_head was sound s word helped here;
        called = subst (λ w. (is_open (record_phase w) ≡ true) ⊎ (record_phase w ≡ Completed)) (sym now_is) (goes_called word to goes);
        number = ap record_number now_is ∙ goes_number word to goes ∙ sym (same_number was sound s word helped here);
        later = subst (λ (r : RecordWord). IsEarlier r (record_of (now.records s))) (sym fields) (subst (λ w. IsEarlier (record_of word) (record_of w)) (sym now_is) (goes_later word to goes room));
        announced = announced_stays seats i words ghosts at long request none;
      }
