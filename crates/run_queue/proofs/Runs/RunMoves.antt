-- The help queue in every run: its scene is sound, and each machine knows what its seat in the queue knows.
use Rattle.std.proofs.Common.{◌≡◌, refl, ap, sym, subst, ◌∙◌, ℕ, ◌<◌, ◌≤◌, ◌^◌, true, false, List, [], ◌∷◌, length, length-set, map, slice_get, slice_set, Option, Some, None, arith, inl, inr}
use Rattle.std.specs.List.{range_with_len}
use Rattle.std.proofs.lemmas.Bool.{cases_eq}
use Rattle.std.proofs.lemmas.Option.{slice_get-get_or, slice_get_within}
use Rattle.std.proofs.lemmas.List.FromFn.{get_or-map-range_with_len, length-map-range_with_len}
use Rattle.lin_report.specs.declared.calls.Op.{Op}
use Rattle.step_memory.specs.Step.{seen_of}
use Rattle.step_memory.proofs.Words.{length-words_after}
use Rattle.normal_traits.specs.NormalForm.{NormalForm}
use Rattle.help_queue_laws.specs.Ghosts.{Ghosts, no_ghosts}
use Rattle.help_queue_laws.proofs.Known.Scenes.{Scene, scene_of, IsSound, Later}
use Rattle.help_queue_laws.proofs.Acts.SeatKnowledgeStays.{phase_later}
use Rattle.help_queue_laws.proofs.Steps.Results.{scene_after}
use Rattle.help_queue_laws.proofs.Runs.EveryRunHolds.{at_set, beside_set, same_some}
use Rattle.fast_slow_engine.specs.declared.setup.Setup.{Setup}
use Rattle.fast_slow_engine.specs.declared.phases.Phase.{Phase}
use Rattle.fast_slow_engine.specs.declared.phases.Phase.TheVariants.{Idle, Begin, Look, Generate, Apply, Wrap, Announce, Enter, Drive, Help, Collect, Value, End}
use Rattle.fast_slow_engine.specs.Mechs.{Mech}
use Rattle.fast_slow_engine.specs.PhaseTable.{mech_fed, mech_new, mech_request, rests}
use Rattle.fast_slow_engine.specs.Runs.{Move, RunState, IsMove, AreMoves, CanMove, begun, moved_by, opening_run, run_of, stepped_by}
use Rattle.fast_slow_engine.proofs.Commands.{code_fits}
use Rattle.fast_slow_engine.proofs.SameCalls.{same_fed}
use Rattle.run_queue.specs.QueueViews.{phase_view, next_number}
use Rattle.run_queue.specs.Fits.{PhaseFits}
use Rattle.run_queue.specs.QueueGhosts.{ghosts_moved, ghosts_stepped, queue_ghosts}
use Rattle.run_queue.specs.Premises.{HasRounds, LeavesQueue, KeepsQueue, ClientLeavesQueue, MoveLeavesQueue, is_for_client}
use Rattle.run_queue.proofs.Views.CallViews.{KnowsQueue}
use Rattle.run_queue.proofs.Moves.Beside.{Goes}
use Rattle.run_queue.proofs.Moves.PhaseMoves.{phase_goes}
use Rattle.run_queue.proofs.Runs.Openings.{opens_sound, opens_free, opens_long}

module _ {S W : Type 0} where
  -- the machine of a seat: it has that seat and the setup of the run, a call that runs has a number and a code that fit an op
  -- word, and what its phase says by itself
  pub record IsSeatOf (setup : Setup) (i : ℕ) (mech : Mech S W) : Type 0 where
    pub seat : mech.seat ≡ i
    pub setup' : mech.setup ≡ setup
    pub most : mech.number ≤ 65535
    pub runs : rests mech.phase ≡ false → (1 ≤ mech.number) × (mech.op.code < 2 ^ 4)
    pub fits : PhaseFits setup.seats mech.phase

  -- what holds of the state of every run, with its ghosts: the invariant of the main induction
  pub record IsQueued (setup : Setup) (state : RunState S W) (ghosts : Ghosts) : Type 0 where
    pub long : 32 ≤ length state.words
    pub count : length state.mechs ≡ setup.seats
    pub sound : IsSound (scene_of state.words ghosts)
    pub seats : (i : ℕ) (mech : Mech S W) → slice_get state.mechs i ≡ Some mech → IsSeatOf setup i mech
    pub knows : (i : ℕ) (mech : Mech S W) → slice_get state.mechs i ≡ Some mech → KnowsQueue (scene_of state.words ghosts) setup.seats i mech

  resting : (phase : Phase S W) → rests phase ≡ true → phase ≡ Idle
  resting Idle free = refl
  resting Begin free = absurd cc
  resting Look free = absurd cc
  resting (Generate s step) free = absurd cc
  resting (Apply run stores step) free = absurd cc
  resting (Wrap wrap) free = absurd cc
  resting (Announce step) free = absurd cc
  resting (Enter owner) free = absurd cc
  resting Drive free = absurd cc
  resting (Help drives help) free = absurd cc
  resting Collect free = absurd cc
  resting (Value reference) free = absurd cc
  resting (End reply) free = absurd cc

  -- the machine that makes the move, with the call that it begins: it runs, and knows of the queue what it knew before
  pub record Mover (setup : Setup) (i : ℕ) (a : Scene) (mech : Mech S W) : Type 0 where
    pub runs : rests mech.phase ≡ false
    pub is : IsSeatOf setup i mech
    pub knows : KnowsQueue a setup.seats i mech

  module _ (form : NormalForm S W) where
    pub mover : (setup : Setup) (i : ℕ) (a : Scene) (begins : Option Op) (mech : Mech S W) → CanMove form begins mech → IsSeatOf setup i mech → KnowsQueue a setup.seats i mech → Mover setup i a (begun begins mech)
    mover setup i a None mech can is knows = record { runs = can; is = is; knows = knows }
    mover setup i a (Some op) mech can is knows =
        let few = can.1 in
        record {
          runs = refl;
          is = record { seat = is.seat; setup' = is.setup'; most = omega (arith, few); runs = λ _. (omega arith, code_fits form.object form.tellable op can.2.command); fits = tt };
          knows = subst (λ phase. KnowsQueue a setup.seats i (record mech { phase = phase })) (resting mech.phase can.0) knows;
        }

    -- ---- a move

    module _ (setup : Setup) (i : ℕ) (state : RunState S W) (ghosts : Ghosts) (q : IsQueued setup state ghosts) (old mech : Mech S W) (found : slice_get state.mechs i ≡ Some old) (m : Mover setup i (scene_of state.words ghosts) mech) where
      abbrev words : List ℕ
      words = state.words

      abbrev new : Mech S W
      new = mech_fed form mech (seen_of (mech_request form mech) words)

      abbrev after : Scene
      after = scene_after i words ghosts (phase_view mech.phase) (mech_request form mech)

      inside : i < setup.seats
      inside = subst (λ n. i < n) q.count (slice_get_within state.mechs i old found)

      -- the step of the machine
      pub mover_goes : HasRounds words → (is_for_client mech.phase ≡ true → LeavesQueue (mech_request form mech) words) → Goes setup.seats i words ghosts (phase_view mech.phase) (mech_request form mech) (mech_fed form mech)
      mover_goes rounds client =
          let seats : mech.setup.seats ≡ setup.seats = ap (λ (s : Setup). s.seats) m.is.setup' in
          let some = (m.is.runs m.runs).0 in
          let low = (m.is.runs m.runs).1 in
          subst (λ n. Goes n i words ghosts (phase_view mech.phase) (mech_request form mech) (mech_fed form mech)) seats
          (subst (λ k. Goes mech.setup.seats k words ghosts (phase_view mech.phase) (mech_request form mech) (mech_fed form mech)) m.is.seat
          (phase_goes form mech words ghosts mech.setup.few_seats (subst (λ n. mech.seat < n) (sym seats) (subst (λ k. k < setup.seats) (sym m.is.seat) inside)) q.long q.sound some m.is.most low rounds
          mech.phase m.runs
          (subst (λ k. KnowsQueue (scene_of words ghosts) mech.setup.seats k mech) (sym m.is.seat) (subst (λ n. KnowsQueue (scene_of words ghosts) n i mech) (sym seats) m.knows))
          (subst (λ n. PhaseFits n mech.phase) (sym seats) m.is.fits) client))

      new_is : PhaseFits setup.seats new.phase → IsSeatOf setup i new
      new_is fits =
          let same = same_fed form mech (seen_of (mech_request form mech) words) in
          let number : new.number ≡ mech.number = same.number in
          let runs = m.is.runs m.runs in
          record {
            seat = same.seat ∙ m.is.seat;
            setup' = same.setup ∙ m.is.setup';
            most = subst (λ n. n ≤ 65535) (sym number) m.is.most;
            runs = λ _. (subst (λ n. 1 ≤ n) (sym number) runs.0, subst (λ (op : Op). op.code < 2 ^ 4) (sym same.op) runs.1);
            fits = fits;
          }

      pub move_queued : HasRounds words → (is_for_client mech.phase ≡ true → LeavesQueue (mech_request form mech) words) → IsQueued setup (stepped_by form i mech state) (ghosts_stepped form i mech words ghosts)
      move_queued rounds client =
          let goes = mover_goes rounds client in
          record {
            long = subst (λ n. 32 ≤ n) (sym (length-words_after (mech_request form mech) words)) q.long;
            count = length-set state.mechs i new ∙ q.count;
            sound = goes.sound;
            seats = λ k mate at. elim (cases_eq k i) [
              | inl same ↦ subst (λ t. IsSeatOf setup t mate) (sym same) (subst (IsSeatOf setup i) (is_new k mate same at) (new_is goes.fits))
              | inr other ↦ q.seats k mate (sym (beside_set state.mechs i k new other) ∙ at)
            ];
            knows = λ k mate at. elim (cases_eq k i) [
              | inl same ↦ subst (λ t. KnowsQueue after setup.seats t mate) (sym same) (subst (KnowsQueue after setup.seats i) (is_new k mate same at) goes.knows)
              | inr other ↦ (
                  let was = sym (beside_set state.mechs i k new other) ∙ at in
                  phase_later setup.seats i (scene_of words ghosts) after goes.later k other (next_number mate.phase mate.number) (phase_view mate.phase) (subst (λ n. k < n) q.count (slice_get_within state.mechs k mate was)) (q.knows k mate was))
            ];
          }
        where
          is_new : (k : ℕ) (mate : Mech S W) → k ≡ i → slice_get (slice_set state.mechs i new) k ≡ Some mate → new ≡ mate
          is_new k mate same at = same_some new mate (sym (at_set state.mechs i new (slice_get_within state.mechs i old found)) ∙ subst (λ t. slice_get (slice_set state.mechs i new) t ≡ Some mate) same at)

    -- ---- a run

    pub move_later : (setup : Setup) (move : Move) (state : RunState S W) (ghosts : Ghosts) (o : Option (Mech S W)) → slice_get state.mechs move.seat ≡ o → IsMove form state move → MoveLeavesQueue form state move → HasRounds state.words → IsQueued setup state ghosts
        → Later setup.seats move.seat (scene_of state.words ghosts) (scene_of (moved_by form o move state).words (ghosts_moved form o move state ghosts))
    move_later setup move state ghosts None at is leaves rounds q = (let none : None ≡ Some is.mech = sym at ∙ is.seated in absurd cc)
    move_later setup move state ghosts (Some old) at is leaves rounds q =
        let same : is.mech ≡ old = same_some is.mech old (sym is.seated ∙ at) in
        let can = subst (λ (m : Mech S W). CanMove form move.begins m) same is.can in
        (mover_goes setup move.seat state ghosts q old (begun move.begins old) at
        (mover setup move.seat (scene_of state.words ghosts) move.begins old can (q.seats move.seat old at) (q.knows move.seat old at)) rounds (leaves old at)).later

    pub new_mech : (setup : Setup) (i : ℕ) (mech : Mech S W) → slice_get (opening_run form setup).mechs i ≡ Some mech → (mech_new i setup ≡ mech) × (i < setup.seats)
    new_mech setup i mech found =
        let make : ℕ → Mech S W = λ seat. mech_new seat setup in
        let mechs = map make (range_with_len 0 setup.seats) in
        let inside : i < setup.seats = subst (λ n. i < n) (length-map-range_with_len make 0 setup.seats) (slice_get_within mechs i mech found) in
        (same_some (make i) mech (ap Some (sym (get_or-map-range_with_len make 0 setup.seats i i mech inside (omega arith))) ∙ sym (slice_get-get_or mechs i mech (slice_get_within mechs i mech found)) ∙ found), inside)

    opening_queued : (setup : Setup) → IsQueued setup (opening_run form setup) no_ghosts
    opening_queued setup = record {
      long = opens_long form.opening form.opens setup.cap;
      count = (let make : ℕ → Mech S W = λ seat. mech_new seat setup in length-map-range_with_len make 0 setup.seats);
      sound = opens_sound form.opening form.opens setup.cap setup.seats;
      seats = λ i mech found. subst (IsSeatOf setup i) (new_mech setup i mech found).0 (record { seat = refl; setup' = refl; most = omega arith; runs = λ h. absurd cc; fits = tt });
      knows = λ i mech found.
          let inside = (new_mech setup i mech found).1 in
          let few = setup.few_seats in
          subst (KnowsQueue (scene_of (opening_run form setup).words no_ghosts) setup.seats i) (new_mech setup i mech found).0 (opens_free form.opening form.opens setup.cap i (omega (arith, inside, few)));
    }

    moved : (setup : Setup) (move : Move) (state : RunState S W) (ghosts : Ghosts) (o : Option (Mech S W)) → slice_get state.mechs move.seat ≡ o → IsMove form state move → MoveLeavesQueue form state move → HasRounds state.words → IsQueued setup state ghosts
        → IsQueued setup (moved_by form o move state) (ghosts_moved form o move state ghosts)
    moved setup move state ghosts None at is leaves rounds q = q
    moved setup move state ghosts (Some old) at is leaves rounds q =
        let same : is.mech ≡ old = same_some is.mech old (sym is.seated ∙ at) in
        let can = subst (λ (m : Mech S W). CanMove form move.begins m) same is.can in
        move_queued setup move.seat state ghosts q old (begun move.begins old) at
        (mover setup move.seat (scene_of state.words ghosts) move.begins old can (q.seats move.seat old at) (q.knows move.seat old at)) rounds (leaves old at)

    pub runs_queued : (setup : Setup) (moves : List Move) → AreMoves form setup moves → KeepsQueue form setup moves → IsQueued setup (run_of form setup moves) (queue_ghosts form setup moves)
    runs_queued setup [] are keeps = opening_queued setup
    runs_queued setup (move ∷ older) are keeps =
        let state = run_of form setup older in
        moved setup move state (queue_ghosts form setup older) (slice_get state.mechs move.seat) refl are.1 keeps.1 keeps.2 (runs_queued setup older are.0 keeps.0)

    -- what a move leaves of the scene
    pub runs_later : (setup : Setup) (move : Move) (older : List Move) → AreMoves form setup (move ∷ older) → KeepsQueue form setup (move ∷ older)
        → Later setup.seats move.seat (scene_of (run_of form setup older).words (queue_ghosts form setup older)) (scene_of (run_of form setup (move ∷ older)).words (queue_ghosts form setup (move ∷ older)))
    runs_later setup move older are keeps =
        let state = run_of form setup older in
        move_later setup move state (queue_ghosts form setup older) (slice_get state.mechs move.seat) refl are.1 keeps.1 keeps.2 (runs_queued setup older are.0 keeps.0)
