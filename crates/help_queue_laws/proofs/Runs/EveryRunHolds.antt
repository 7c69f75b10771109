-- What holds of the scene and of each seat holds after every list of steps.
use Rattle.std.proofs.Common.{◌⊎◌, ◌≡◌, ◌≢◌, ℕ, zero, suc, ◌+◌, ◌<◌, ◌≤◌, true, List, [], ◌∷◌, length, map, refl, ap, sym, ◌∙◌, subst, arith, inl, inr, Option, Some, None, slice_get, slice_set, length-set, get_or-set_same}
use Rattle.std.specs.Prelude.{nat_lt, replicate, slice_index}
use Rattle.std.specs.List.{range_with_len}
use Rattle.std.proofs.lemmas.Bool.{cases_Bool, cases_eq, ltb-true, cond-true, cond-false, cond_both}
use Rattle.std.proofs.lemmas.List.FromFn.{length-map-range_with_len, get_or-map-range_with_len}
use Rattle.std.proofs.lemmas.Option.{slice_get-get_or, slice_get_within}
use Rattle.step_memory.specs.Step.{words_after, seen_of}
use Rattle.step_memory.proofs.Words.{length-words_after}
use Rattle.word_fields.specs.declared.records.RecordPhase.TheVariants.{Idle, Executing, Wrapping, Completed}
use Rattle.word_fields.specs.Fields.{field_of}
use Rattle.word_fields.specs.Records.{record_phase, record_number}
use Rattle.word_fields.specs.Seats.{places_of, queue_seats, seats_named, seats_word}
use Rattle.word_fields.specs.Queues.{queue_version, queue_word}
use Rattle.node_arena.specs.declared.places.TheConstants.{QUEUE}
use Rattle.help_queue.specs.Gathers.{among_seats, is_open}
use Rattle.help_queue_laws.specs.Callers.{Caller, caller_new, caller_request, caller_fed}
use Rattle.help_queue_laws.specs.Worlds.{QueueWorld, world_new, stepped_by, stepped_of, world_of}
use Rattle.help_queue_laws.specs.Ghosts.{Ghosts, no_ghosts, ghosts_after, ghosts_by, ghosts_of}
use Rattle.help_queue_laws.proofs.Known.Scenes.{scene_of, of_seat, IsEngaged, EndsWell, IsSound}
use Rattle.help_queue_laws.proofs.Known.Knowledge.{IsCallerOf}
use Rattle.help_queue_laws.proofs.Known.QueueWords.{not_both}
use Rattle.help_queue_laws.proofs.Acts.SeatKnowledgeStays.{caller_later}
use Rattle.help_queue_laws.proofs.Steps.EveryStep.{caller_moves}
use Rattle.help_queue_laws.proofs.Steps.Results.{scene_after, seat_same}

-- ---- lists

pub at_set : {A : Type 0} (xs : List A) (i : ℕ) (y : A) → i < length xs → slice_get (slice_set xs i y) i ≡ Some y
at_set xs i y inside = slice_get-get_or (slice_set xs i y) i y (subst (λ n. i < n) (sym (length-set xs i y)) inside) ∙ ap Some (get_or-set_same xs i y y inside)

pub beside_set : {A : Type 0} (xs : List A) (i j : ℕ) (y : A) → j ≢ i → slice_get (slice_set xs i y) j ≡ slice_get xs j
beside_set [] i j y apart = refl
beside_set (x ∷ xs) zero zero y apart = absurd (apart refl)
beside_set (x ∷ xs) zero (suc j) y apart = refl
beside_set (x ∷ xs) (suc i) zero y apart = refl
beside_set (x ∷ xs) (suc i) (suc j) y apart = beside_set xs i j y (λ e. apart (ap suc e))

pub same_some : {A : Type 0} (x y : A) → Some x ≡ Some y → x ≡ y
same_some x y e = cc

pub zeros : (n p : ℕ) → slice_index (replicate n 0) p ≡ 0
zeros zero p = refl
zeros (suc n) zero = refl
zeros (suc n) (suc p) = zeros n p

-- ---- words that are 0

pub zero_phase : record_phase 0 ≡ Idle
unfolding record_phase field_of
zero_phase = refl

pub zero_number : record_number 0 ≡ 0
unfolding record_number field_of
zero_number = refl

pub zero_seats : queue_seats 0 ≡ []
unfolding queue_seats seats_named places_of field_of
zero_seats = refl

zero_version : queue_version 0 ≡ 0
unfolding queue_version field_of
zero_version = refl

zero_word : queue_word [] 0 ≡ 0
unfolding queue_word seats_word
zero_word = refl

-- ---- what holds after steps

pub record IsRunning (seats calls : ℕ) (world : QueueWorld) (ghosts : Ghosts) : Type 0 where
  pub calls' : world.calls ≡ calls
  pub long : length world.words ≡ 32
  pub count : length world.callers ≡ seats
  pub sound : IsSound (scene_of world.words ghosts)
  pub ends : EndsWell (scene_of world.words ghosts)
  pub knows : (i : ℕ) (caller : Caller) → slice_get world.callers i ≡ Some caller → IsCallerOf (scene_of world.words ghosts) seats i caller

opening_record : (t : ℕ) → of_seat t (slice_index (replicate 32 0) (12 + t)) ≡ 0
opening_record t = seat_same t (slice_index (replicate 32 0) (12 + t)) 0 (λ _. zeros 32 (12 + t)) ∙ zero_seat t
  where
    zero_seat : (t : ℕ) → of_seat t 0 ≡ 0
    zero_seat t = cond_both (nat_lt t 8) 0 0 (λ (n : ℕ). n ≡ 0) (λ _. refl) (λ _. refl)

opening_apart : (t : ℕ) → IsEngaged (record_phase (of_seat t (slice_index (replicate 32 0) (12 + t)))) ⊎ (record_phase (of_seat t (slice_index (replicate 32 0) (12 + t))) ≡ Completed) → ⊥
opening_apart t h =
    let idle : record_phase (of_seat t (slice_index (replicate 32 0) (12 + t))) ≡ Idle = ap record_phase (opening_record t) ∙ zero_phase in
    elim h [
      | inl (inl executing) ↦ (let e : Idle ≡ Executing = sym idle ∙ executing in cc)
      | inl (inr wrapping) ↦ (let e : Idle ≡ Wrapping = sym idle ∙ wrapping in cc)
      | inr completed ↦ (let e : Idle ≡ Completed = sym idle ∙ completed in cc)
    ]

pub opening_sound : IsSound (scene_of (replicate 32 0) no_ghosts)
opening_sound =
    let idle = λ (t : ℕ). ap record_phase (opening_record t) ∙ zero_phase in
    let none = λ (t : ℕ) (in' : among_seats t (queue_seats 0) ≡ true). not_both in' (ap (among_seats t) zero_seats) in
    record {
      whole = ap (λ l. queue_word l (queue_version 0)) zero_seats ∙ ap (queue_word []) zero_version ∙ zero_word;
      engaged = λ t h. absurd (opening_apart t (inl h));
      published = λ t in'. absurd (none t in');
      numbered = λ t h. elim h [ inl in' ↦ absurd (none t in') | inr opened ↦ absurd (not_both opened (ap is_open (idle t))) ];
      heads = λ t in' done. absurd (none t in');
      bound = let version = zero_version in omega (arith, version);
      known = λ t. omega arith;
    }

opening_runs : (seats calls : ℕ) → IsRunning seats calls (world_new seats calls) no_ghosts
opening_runs seats calls = record {
  calls' = refl;
  long = refl;
  count = length-map-range_with_len (caller_new seats) 0 seats;
  sound = opening_sound;
  ends = λ t done. absurd (opening_apart t (inr done));
  knows = λ i caller found.
      let callers = map (caller_new seats) (range_with_len 0 seats) in
      let inside : i < seats = subst (λ n. i < n) (length-map-range_with_len (caller_new seats) 0 seats) (slice_get_within callers i caller found) in
      let is : caller_new seats i ≡ caller =
      same_some (caller_new seats i) caller (ap Some (sym (get_or-map-range_with_len (caller_new seats) 0 seats i i caller inside (omega arith))) ∙ sym (slice_get-get_or callers i caller (slice_get_within callers i caller found)) ∙ found) in
      subst (IsCallerOf (scene_of (replicate 32 0) no_ghosts) seats i) is (record {
        seat = refl;
        seats' = refl;
        knows = record {
          closed = ap (λ w. is_open (record_phase w)) (opening_record i) ∙ ap is_open zero_phase;
          number = let number = ap record_number (opening_record i) ∙ zero_number in omega (arith, number);
        };
      });
}

module _ (seats calls : ℕ) (few : seats ≤ 8) (fits : calls ≤ 65535) where
  after_step : (seat : ℕ) (world : QueueWorld) (ghosts : Ghosts) (caller : Caller) → IsRunning seats calls world ghosts → slice_get world.callers seat ≡ Some caller → caller.made < world.calls
      → IsRunning seats calls (stepped_by seat caller world)
      (ghosts_after seat caller.phase (seen_of (caller_request caller) world.words) (slice_index world.words QUEUE) (slice_index (words_after (caller_request caller) world.words) QUEUE) ghosts)
  after_step seat world ghosts caller run found more =
      let inside : seat < seats = subst (λ n. seat < n) run.count (slice_get_within world.callers seat caller found) in
      let c = run.calls' in
      let moved = caller_moves seats seat inside few world.words ghosts (omega (arith, run.long)) run.sound caller (omega (arith, more, c, fits)) (run.knows seat caller found) in
      let next = caller_fed caller (seen_of (caller_request caller) world.words) in
      let now = scene_after seat world.words ghosts caller.phase (caller_request caller) in
      record {
        calls' = run.calls';
        long = length-words_after (caller_request caller) world.words ∙ run.long;
        count = length-set world.callers seat next ∙ run.count;
        sound = moved.sound;
        ends = moved.ends run.ends;
        knows = λ i mate at. elim (cases_eq i seat) [
          | inl same ↦ (
              let is : next ≡ mate = same_some next mate (sym (at_set world.callers seat next (slice_get_within world.callers seat caller found)) ∙ subst (λ k. slice_get (slice_set world.callers seat next) k ≡ Some mate) same at) in
              subst (λ k. IsCallerOf now seats k mate) (sym same) (subst (IsCallerOf now seats seat) is moved.knows))
          | inr other ↦ (
              let was = sym (beside_set world.callers seat i next other) ∙ at in
              caller_later seats seat (scene_of world.words ghosts) now moved.later i other mate (subst (λ n. i < n) run.count (slice_get_within world.callers i mate was)) (run.knows i mate was))
        ];
      }

  step_runs : (seat : ℕ) (world : QueueWorld) (ghosts : Ghosts) → IsRunning seats calls world ghosts → (o : Option Caller) → slice_get world.callers seat ≡ o → IsRunning seats calls (stepped_of o seat world) (ghosts_by o seat world ghosts)
  step_runs seat world ghosts run None found = run
  step_runs seat world ghosts run (Some caller) found =
      elim (cases_Bool (nat_lt caller.made world.calls)) [
        | inl more ↦ subst (λ (w : QueueWorld). IsRunning seats calls w (ghosts_by (Some caller) seat world ghosts)) (sym (cond-true (nat_lt caller.made world.calls) (stepped_by seat caller world) world more))
            (subst (λ (g : Ghosts). IsRunning seats calls (stepped_by seat caller world) g) (sym (cond-true (nat_lt caller.made world.calls) (stepped_ghosts caller) ghosts more)) (after_step seat world ghosts caller run found (ltb-true caller.made world.calls more)))
        | inr over ↦ subst (λ (w : QueueWorld). IsRunning seats calls w (ghosts_by (Some caller) seat world ghosts)) (sym (cond-false (nat_lt caller.made world.calls) (stepped_by seat caller world) world over))
            (subst (λ (g : Ghosts). IsRunning seats calls world g) (sym (cond-false (nat_lt caller.made world.calls) (stepped_ghosts caller) ghosts over)) run)
      ]
    where
      stepped_ghosts : Caller → Ghosts
      stepped_ghosts caller = ghosts_after seat caller.phase (seen_of (caller_request caller) world.words) (slice_index world.words QUEUE) (slice_index (words_after (caller_request caller) world.words) QUEUE) ghosts

  pub every_run : (steps : List ℕ) → IsRunning seats calls (world_of seats calls steps) (ghosts_of seats calls steps)
  every_run [] = opening_runs seats calls
  every_run (seat ∷ older) =
      let world = world_of seats calls older in
      step_runs seat world (ghosts_of seats calls older) (every_run older) (slice_get world.callers seat) refl
