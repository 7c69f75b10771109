-- The bound on overtaking, over the events of every run: the count of a call is tracked through the events of each step.
use Rattle.std.proofs.Common.{◌≡◌, ◌∙◌, refl, sym, ap, subst, ℕ, zero, suc, ◌<◌, ◌≤◌, true, List, [], ◌∷◌, slice_get, Option, Some, None, inl, inr, arith}
use Rattle.std.specs.List.{fold}
use Rattle.lin_report.specs.declared.calls.Op.{Op}
use Rattle.help_queue_laws.proofs.Acts.LearntStays.{done_closed}
use Rattle.std.proofs.lemmas.Option.{slice_get_within}
use Rattle.word_fields.specs.Records.{record_phase, record_number}
use Rattle.normal_traits.specs.NormalForm.{NormalForm}
use Rattle.help_queue.specs.Gathers.{among_seats, holds, is_open}
use Rattle.help_queue_laws.proofs.Known.Scenes.{scene_of}
use Rattle.help_queue_laws.proofs.Known.QueueWords.{not_both}
use Rattle.fast_slow_engine.specs.declared.setup.Setup.{Setup}
use Rattle.fast_slow_engine.specs.Mechs.{Mech}
use Rattle.fast_slow_engine.specs.Runs.{Move, IsMove, AreMoves, begun, moved_by, run_of}
use Rattle.std.proofs.Common.{get_or}
use Rattle.std.proofs.lemmas.List.Recursion.{max_least}
use Rattle.lin_report.specs.declared.events.Event.{Event}
use Rattle.overtaking_law.specs.Order.{publication}
use Rattle.overtaking_law.specs.Overtaking.{overtaken, greatest, greatest_overtaken}
use Rattle.overtaking_law.proofs.States.{State, next, count_of, overtaken_is, state}
use Rattle.overtaking_law.proofs.States.State.{Unpublished, Waiting, Completed}
use Rattle.run_queue.specs.QueueGhosts.{queue_ghosts}
use Rattle.run_queue.specs.Premises.{KeepsQueue}
use Rattle.run_queue.proofs.Runs.RunMoves.{IsQueued, runs_queued, runs_later}
use Rattle.run_overtaking.specs.Accounts.{overtakers, most_overtaken}
use Rattle.run_overtaking.specs.Counts.{counts_moved, counts_of}
use Rattle.run_overtaking.specs.Waiting.{Waits}
use Rattle.fast_slow_engine.specs.Events.{eight_seats}
use Rattle.run_overtaking.specs.Events.{OvertakenBounded, GreatestBounded}
use Rattle.run_overtaking.proofs.Events.Folded.{events_are, events_moved, events_of}
use Rattle.run_overtaking.proofs.Accounts.SeatSums.{fold_append}
use Rattle.run_overtaking.proofs.Accounts.Runs.{inside_of, runs_counted}
use Rattle.run_overtaking.proofs.AccountLaws.{few_returns, record_is}
use Rattle.run_overtaking.proofs.Events.Overtaken.{IsTracked, Steps, step_tracked}

pub eight_has : (x : ℕ) → x < 8 → among_seats x eight_seats ≡ true
eight_has zero less = refl
eight_has (suc zero) less = refl
eight_has (suc (suc zero)) less = refl
eight_has (suc (suc (suc zero))) less = refl
eight_has (suc (suc (suc (suc zero)))) less = refl
eight_has (suc (suc (suc (suc (suc zero))))) less = refl
eight_has (suc (suc (suc (suc (suc (suc zero)))))) less = refl
eight_has (suc (suc (suc (suc (suc (suc (suc zero))))))) less = refl
eight_has (suc (suc (suc (suc (suc (suc (suc (suc n)))))))) less = absurd (omega (arith, less))

begun_seat : {S W : Type 0} (begins : Option Op) (old : Mech S W) → (begun begins old).seat ≡ old.seat
begun_seat None old = refl
begun_seat (Some op) old = refl

module _ {S W : Type 0} (form : NormalForm S W) where
  steps_of : (setup : Setup) (move : Move) (older : List Move) → AreMoves form setup (move ∷ older) → KeepsQueue form setup (move ∷ older) → (x : ℕ) → Steps setup.seats (run_of form setup older).words (run_of form setup (move ∷ older)).words x
  steps_of setup move older are keeps x =
      let words = (run_of form setup older).words in
      let words' = (run_of form setup (move ∷ older)).words in
      let gh = queue_ghosts form setup older in
      let gh' = queue_ghosts form setup (move ∷ older) in
      let l = runs_later form setup move older are keeps in
      let inside = inside_of (scene_of words gh) setup.seats (runs_counted form setup older are.0 keeps.0).beyond x in
      let inside' = inside_of (scene_of words' gh') setup.seats (runs_counted form setup (move ∷ older) are keeps).beyond x in
      let few = setup.few_seats in
      record {
        stays = λ w opened.
            let was = record_is setup.seats few words gh x (inside w.published) in
            let is = record_is setup.seats few words' gh' x (inside w.published) in
            let opens : is_open (record_phase ((scene_of words gh).records x)) ≡ true = ap (λ r. is_open (record_phase r)) was ∙ w.incomplete in (
              record {
                published = elim l.queue [
                  | inl same ↦ subst (λ q. holds q x ≡ true) (sym same) w.published
                  | inr changed ↦ elim (changed.leaves x w.published) [ inl stays ↦ stays | inr gone ↦ absurd (not_both opens (done_closed _ gone.0)) ]
                ];
                incomplete = opened;
              },
              sym (ap record_number is)
                  ∙ elim (l.moves x) [ inl stays ↦ ap record_number stays.same | inr (inl announces) ↦ absurd (not_both w.published announces.out) | inr (inr advances) ↦ advances.number ] ∙ ap record_number was,
            );
        enters' = λ out in'.
            let is = record_is setup.seats few words' gh' x (inside' in') in
            elim l.queue [
              | inl same ↦ absurd (not_both (subst (λ q. holds q x ≡ true) same in') out)
              | inr changed ↦ record { published = in'; incomplete = ap (λ r. is_open (record_phase r)) (sym is ∙ changed.records x) ∙ changed.enters x out in' }
            ];
        eight = λ w. (let less = inside w.published in eight_has x (omega (arith, less, few)));
      }

  moved : (setup : Setup) (move : Move) (older : List Move) (o : Option (Mech S W)) → (let state = run_of form setup older in
      slice_get state.mechs move.seat ≡ o → IsMove form state move → IsQueued setup state (queue_ghosts form setup older) → (x k : ℕ) → Steps setup.seats state.words (moved_by form o move state).words x
      → (Waits state.words x → overtakers setup.seats x ((counts_of form setup older).returned x) ≤ most_overtaken setup.seats)
      → (s : State) → IsTracked setup.seats state.words (counts_of form setup older) x k s
      → IsTracked setup.seats (moved_by form o move state).words (counts_moved form o move state (counts_of form setup older)) x k (fold (next x k) s (events_moved form o move state)))
  moved setup move older None at is q x k steps few s h = h
  moved setup move older (Some old) at is q x k steps few s h =
      let state = run_of form setup older in
      let inside : move.seat < setup.seats = subst (λ n. move.seat < n) q.count (slice_get_within state.mechs move.seat old at) in
      step_tracked setup.seats move.seat inside state.words (moved_by form (Some old) move state).words (counts_of form setup older) (begun move.begins old) (begun_seat move.begins old ∙ (q.seats move.seat old at).seat) x k steps few s h

  tracked : (setup : Setup) (moves : List Move) → AreMoves form setup moves → KeepsQueue form setup moves → (x k : ℕ) → IsTracked setup.seats (run_of form setup moves).words (counts_of form setup moves) x k (state x k (events_of form setup moves))
  tracked setup [] are keeps x k = tt
  tracked setup (move ∷ older) are keeps x k =
      let st = run_of form setup older in
      subst (IsTracked setup.seats (run_of form setup (move ∷ older)).words (counts_of form setup (move ∷ older)) x k)
      (sym (fold_append (next x k) Unpublished (events_of form setup older) (events_moved form (slice_get st.mechs move.seat) move st)))
      (moved setup move older (slice_get st.mechs move.seat) refl are.1 (runs_queued form setup older are.0 keeps.0) x k (steps_of setup move older are keeps x) (few_returns form setup older are.0 keeps.0 x) (state x k (events_of form setup older)) (tracked setup older are.0 keeps.0 x k))

  count_few : (setup : Setup) (moves : List Move) → AreMoves form setup moves → KeepsQueue form setup moves → (x k : ℕ) (s : State) → IsTracked setup.seats (run_of form setup moves).words (counts_of form setup moves) x k s → count_of s ≤ most_overtaken setup.seats
  count_few setup moves are keeps x k Unpublished h = omega arith
  count_few setup moves are keeps x k (Waiting c) h = (let f = few_returns form setup moves are keeps x h.0 in let e = h.2 in omega (arith, f, e))
  count_few setup moves are keeps x k (Completed c) h = h

  pub overtaken_bounded : OvertakenBounded form
  overtaken_bounded setup moves are keeps x k =
      subst (λ es. overtaken es x k ≤ most_overtaken setup.seats) (events_are form setup moves)
      (subst (λ n. n ≤ most_overtaken setup.seats) (overtaken_is x k (events_of form setup moves)) (count_few setup moves are keeps x k (state x k (events_of form setup moves)) (tracked setup moves are keeps x k)))

  pub greatest_bounded : GreatestBounded form
  unfolding greatest_overtaken
  greatest_bounded setup moves are keeps =
      let events = (run_of form setup moves).events in
      let count = λ (event : Event). overtaken events event.seat event.number in
      max_least (greatest count) count refl (λ x xs. refl) events (publication 0 0) (most_overtaken setup.seats)
      (λ i less. overtaken_bounded setup moves are keeps (get_or events i (publication 0 0)).seat (get_or events i (publication 0 0)).number)
