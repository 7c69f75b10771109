-- Each list that took effect, and whose call isn't announced, is followed after a move: its seat holds it, or it is dead, or it has
-- made its change.
use Rattle.std.proofs.Common.{◌≡◌, ◌≢◌, ◌∙◌, refl, sym, subst, ap, ℕ, ◌<◌, false, inl, inr, List, ◌∷◌, length, slice_get, Option, Some}
use Rattle.std.proofs.lemmas.Bool.{cases_eq}
use Rattle.arrayvec.specs.ArrayVec.{ArrayVec}
use Rattle.lin_report.specs.declared.calls.Outcome.{Outcome}
use Rattle.step_memory.specs.declared.steps.Seen.{Seen}
use Rattle.word_fields.specs.Records.{record_number, record_phase}
use Rattle.node_arena.specs.MemoryMap.{record_place}
use Rattle.help_queue.specs.Gathers.{is_open}
use Rattle.help_queue_laws.specs.Runs.{record_in}
use Rattle.help_queue_laws.proofs.Known.Scenes.{Scene, scene_of}
use Rattle.help_queue_laws.proofs.Steps.Results.{seat_word}
use Rattle.normal_traits.specs.declared.form.Wrapped.{Wrapped}
use Rattle.normal_traits.specs.declared.form.Wrapped.TheVariants as wrapped
use Rattle.normal_traits.specs.World.{Among, Called, Change, ChangedBy, Listed, Took, World}
use Rattle.normal_traits.specs.NormalForm.{NormalForm}
use Rattle.normal_traits.specs.Laws.{Laws, WrappedWell}
use Rattle.cas_executor.specs.declared.fast_run.Execution.{Execution}
use Rattle.cas_executor.specs.declared.fast_run.Execution.TheVariants as execution
use Rattle.cas_executor.specs.FastRuns.{FastWalk, fast_execution, fast_fed}
use Rattle.fast_slow_engine.specs.declared.phases.Phase.{Phase}
use Rattle.fast_slow_engine.specs.declared.phases.Phase.TheVariants as phase
use Rattle.fast_slow_engine.specs.declared.phases.Applying.TheVariants.{Fill, Execute}
use Rattle.fast_slow_engine.specs.declared.setup.Setup.{Setup}
use Rattle.fast_slow_engine.specs.Mechs.{Mech}
use Rattle.fast_slow_engine.specs.PhaseTable.{executed, spent, stepped, wrapped_up}
use Rattle.fast_slow_engine.specs.Runs.{AreMoves, Move, begun, run_of}
use Rattle.offered_blocks.specs.Blocks.{Offer, record_for}
use Rattle.move_kinds.specs.Kinds.{IsUnannounced}
use Rattle.move_kinds.specs.Owned.{IsOwned}
use Rattle.move_kinds.specs.Owned.IsOwned.{unannounced, named, dead, changed}
use Rattle.move_kinds.proofs.OutcomesKept.{among_after}
use Rattle.helper_knowledge.specs.Callers.{Caller}
use Rattle.helper_knowledge.specs.Carried.{OfSome}
use Rattle.run_queue.specs.Premises.{KeepsQueue}
use Rattle.run_queue.specs.QueueGhosts.{queue_ghosts}
use Rattle.run_queue.proofs.Runs.RunMoves.{runs_later}
use Rattle.kept_knowledge.specs.Ghosts.{Held, SeatGhost, stopped_at, stopped_in}
use Rattle.kept_knowledge.specs.Lists.{HoldsIn, IsOffering}
use Rattle.kept_knowledge.specs.RunGhosts.{ghost_of, world_of}
use Rattle.kept_knowledge.specs.SeatSteps.{held_in, list_after}
use Rattle.kept_knowledge.specs.Known.{KnowsRun, KnowsWrap}
use Rattle.kept_knowledge.specs.Moves.{Enters, RestsMove, StepsIn}
use Rattle.kept_knowledge.specs.Kept.{IsKept, callers_in, held_in_seats}
use Rattle.kept_knowledge.specs.Tells.{AllFollowed, IsFollowed}
use Rattle.kept_knowledge.specs.Tells.IsFollowed.{with_seat, dead as is_dead, changed as has_changed}
use Rattle.kept_knowledge.proofs.Words.Grow.{others_stay}
use Rattle.kept_knowledge.proofs.Words.Moved.{made_seat, seen_by}
use Rattle.kept_knowledge.proofs.InRuns.Leaves.{allowed, holds_after, leaves}
use Rattle.kept_knowledge.proofs.InRuns.MoveSteps.{moves_step}
use Rattle.kept_knowledge.proofs.InRuns.MovesKinds.{is_inside}
use Rattle.kept_knowledge.proofs.InRuns.Rests.{known, rests_move}
use Rattle.kept_knowledge.proofs.Counted.ChangesBelow.{held_call}
use Rattle.run_invariant.proofs.Tells.ClosedRecords.{none_some, open_not}
use Rattle.run_invariant.proofs.Tells.OwnLists.{run_ends, wrap_goes}
use Rattle.run_invariant.proofs.Records.NewLists.{NewList, new_lists}
use Rattle.run_invariant.proofs.Records.NewLists.NewList.{of_mover, executed_now}

module _ {S W : Type 0} (form : NormalForm S W) (laws : Laws form) (setup : Setup) (older : List Move) (move : Move) (mech : Mech S W) (are : AreMoves form setup (move ∷ older))
    (at : slice_get (run_of form setup older).mechs move.seat ≡ Some mech) (kept : IsKept form setup older) where
  abbrev world : World
  world = world_of form setup older

  abbrev after : World
  after = world_of form setup (move ∷ older)

  abbrev offers : ℕ → Option (Offer S)
  offers = (ghost_of form setup older).offers

  abbrev offers' : ℕ → Option (Offer S)
  offers' = (ghost_of form setup (move ∷ older)).offers

  abbrev callers : ℕ → Caller
  callers = callers_in (run_of form setup older) (ghost_of form setup older)

  abbrev one : Mech S W
  one = begun move.begins mech

  abbrev own : SeatGhost S
  own = (ghost_of form setup older).seats move.seat

  abbrev seen : Seen
  seen = seen_by form setup older move mech

  abbrev held_by : ℕ → Option (Held S)
  held_by = held_in_seats (ghost_of form setup older)

  abbrev held_then : ℕ → Option (Held S)
  held_then = held_in_seats (ghost_of form setup (move ∷ older))

  abbrev Followed : Listed → Type 0
  Followed list = IsFollowed form after held_then list

  -- ---- what becomes of a list that the mover holds

  still_held : (h k : Held S) → h.list.call.seat ≡ move.seat → held_then move.seat ≡ Some k → k.list ≡ h.list → Followed h.list
  still_held h k seat holds same = with_seat k (subst (λ s. held_then s ≡ Some k) (sym seat) holds) same

  changed_followed : (list : Listed) (outcome : Outcome) → ChangedBy after list outcome → Followed list
  changed_followed list outcome by = has_changed (record { list = list; reply = by.reply }) by.change refl

  -- what the seat that moves holds then, by its phase before
  abbrev left_in : Phase S W → Option (Held S)
  left_in p = held_in (stepped form p seen one).phase (list_after form (length older) p seen own (stepped form p seen one))

  left_is : (p : Phase S W) → one.phase ≡ p → held_then move.seat ≡ left_in p
  left_is p is = ap (λ (o : SeatGhost S). o.held) (made_seat form setup older move mech at) ∙ ap left_in is

  -- a wrap-up goes on, or tells of the change, or has found the list dead
  wrapped_followed : (what : Wrapped) (w fed : W) (stop : ℕ) (new : Mech S W) (left : Option (Held S)) (h k : Held S) → h.list.call.seat ≡ move.seat → held_then move.seat ≡ held_in (wrapped_up form what w new).phase left → left ≡ Some k
      → k.list ≡ h.list → WrappedWell form after h.list stop fed what → Followed h.list
  wrapped_followed wrapped.Going w fed stop new left h k seat holds is same well = still_held h k seat (holds ∙ is) same
  wrapped_followed (wrapped.Done outcome) w fed stop new left h k seat holds is same well = changed_followed h.list outcome well.0
  wrapped_followed wrapped.Restart w fed stop new left h k seat holds is same well = is_dead well

  abbrev Rests : Phase S W → Type 0
  Rests p = RestsMove form world offers callers p one own

  abbrev Steps : Phase S W → Type 0
  Steps p = StepsIn form world after offers offers' p one own ((ghost_of form setup (move ∷ older)).seats move.seat) (length older) seen

  run_followed : (run : FastWalk) (stores : ArrayVec (ℕ × ℕ)) (h : Held S) (ends : Execution) → one.phase ≡ phase.Apply run stores Execute → own.held ≡ Some h → h.list.call.seat ≡ move.seat → fast_execution run seen ≡ ends
      → ((stop : ℕ) → ends ≡ execution.Stopped stop → WrappedWell form after h.list stop (form.begin_wrap_of one.op run.entries stop) (form.wrap_begun_of one.op run.entries stop)) → Followed h.list
  run_followed run stores h execution.Running is holds seat ends well =
      let left = ap (λ (e : Execution). held_in (executed form e (fast_fed run seen) stores one).phase (stopped_in e own.held)) ends in
      still_held h h seat (left_is (phase.Apply run stores Execute) is ∙ left ∙ ap (stopped_in execution.Running) holds) refl
  run_followed run stores h (execution.Stopped stop) is holds seat ends well =
      let left = ap (λ (e : Execution). held_in (executed form e (fast_fed run seen) stores one).phase (stopped_in e own.held)) ends in
      let begins = form.begin_wrap_of one.op run.entries stop in
      wrapped_followed (form.wrap_begun_of one.op run.entries stop) begins begins stop (spent form stop one) (stopped_in (execution.Stopped stop) own.held) h (stopped_at (execution.Stopped stop) h) seat
      (left_is (phase.Apply run stores Execute) is ∙ left) (ap (stopped_in (execution.Stopped stop)) holds) refl (well stop refl)

  shape : form.shape after
  shape = (holds_after form laws setup older move mech are at kept).shape

  own_run : (run : FastWalk) (stores : ArrayVec (ℕ × ℕ)) (h : Held S) → Rests (phase.Apply run stores Execute) → Steps (phase.Apply run stores Execute) → own.held ≡ Some h
      → (stop : ℕ) → fast_execution run seen ≡ execution.Stopped stop → WrappedWell form after h.list stop (form.begin_wrap_of one.op run.entries stop) (form.wrap_begun_of one.op run.entries stop)
  own_run run stores h rests steps holds stop is =
      let offering : OfSome (IsOffering form run stores one) (Some h) = subst (OfSome (IsOffering form run stores one)) holds rests.lists in
      let knows : OfSome (KnowsRun form world run) (Some h) = subst (OfSome (KnowsRun form world run)) holds rests.knows in
      let enters : Enters form world after offers offers' run (Some h) seen = subst (λ (held : Option (Held S)). Enters form world after offers offers' run held seen) holds steps.1 in
      run_ends form laws world after offers offers' callers seen (leaves form laws setup older move mech are at kept) kept.holds.shape shape one run stores h stop offering knows enters is

  own_wrap : (w : W) (h : Held S) → Rests (phase.Wrap w) → Steps (phase.Wrap w) → own.held ≡ Some h → WrappedWell form after h.list h.stop (form.feed_wrap_of w seen) (form.wrap_found_of w seen)
  own_wrap w h rests steps holds =
      let knows : OfSome (KnowsWrap form world w) (Some h) = subst (OfSome (KnowsWrap form world w)) holds rests.knows in
      wrap_goes form laws world after offers offers' callers seen (leaves form laws setup older move mech are at kept) kept.holds.shape shape w h knows steps.1

  phase_followed : (p : Phase S W) (h : Held S) → one.phase ≡ p → Rests p → Steps p → own.held ≡ Some h → h.list.call.seat ≡ move.seat → Followed h.list
  phase_followed (phase.Apply run stores (Fill made)) h is rests steps holds seat = still_held h h seat (left_is (phase.Apply run stores (Fill made)) is ∙ holds) refl
  phase_followed (phase.Apply run stores Execute) h is rests steps holds seat =
      run_followed run stores h (fast_execution run seen) is holds seat refl (own_run run stores h rests steps holds)
  phase_followed (phase.Wrap w) h is rests steps holds seat =
      wrapped_followed (form.wrap_found_of w seen) (form.feed_wrap_of w seen) (form.feed_wrap_of w seen) h.stop one own.held h h seat (left_is (phase.Wrap w) is) holds refl (own_wrap w h rests steps holds)
  phase_followed phase.Idle h is rests steps holds seat = none_some own.held h rests.lists holds
  phase_followed phase.Begin h is rests steps holds seat = none_some own.held h rests.lists holds
  phase_followed phase.Look h is rests steps holds seat = none_some own.held h rests.lists holds
  phase_followed (phase.Generate s step) h is rests steps holds seat = none_some own.held h rests.lists holds
  phase_followed (phase.Announce step) h is rests steps holds seat = none_some own.held h rests.lists holds
  phase_followed (phase.Enter owner) h is rests steps holds seat = none_some own.held h rests.lists holds
  phase_followed phase.Drive h is rests steps holds seat = none_some own.held h rests.lists holds
  phase_followed (phase.Help drives help) h is rests steps holds seat = none_some own.held h rests.lists holds
  phase_followed phase.Collect h is rests steps holds seat = none_some own.held h rests.lists holds
  phase_followed (phase.Value reference) h is rests steps holds seat = none_some own.held h rests.lists holds
  phase_followed (phase.End answer) h is rests steps holds seat = none_some own.held h rests.lists holds

  mover_followed : (h : Held S) → own.held ≡ Some h → Followed h.list
  mover_followed h holds =
      let k = known form laws setup older move mech are at kept in
      let rests = rests_move form laws setup older move mech are at kept in
      phase_followed one.phase h refl rests (moves_step form setup older move mech at (is_inside form laws setup older move mech are at kept)) holds
      (ap (λ (c : Called). c.seat) (held_call form one.phase one h (subst (HoldsIn form one.phase one) holds k.lists)) ∙ k.seat_is)

  -- ---- what was followed is followed still

  dead_followed : (list : Listed) → form.dead list world → Followed list
  dead_followed list gone = is_dead (laws.dead_kept world after list kept.holds.shape gone (allowed form laws setup older move mech are at kept))

  changed_still : (list : Listed) (change : Change) → Among change world.changes → change.list ≡ list → Followed list
  changed_still list change among of =
      let grows = (leaves form laws setup older move mech are at kept).grows.changes in
      has_changed change (subst (Among change) (sym grows.1) (among_after change grows.0 world.changes among)) of

  followed_still : (list : Listed) → IsFollowed form world held_by list → Followed list
  followed_still list (with_seat h holds same) =
      elim (cases_eq list.call.seat move.seat) [
        | inl here ↦ subst Followed same (mover_followed h (subst (λ s. held_by s ≡ Some h) here holds))
        | inr apart ↦ with_seat h (ap (λ (o : SeatGhost S). o.held) (others_stay form setup older move list.call.seat apart) ∙ holds) same
      ]
  followed_still list (is_dead gone) = dead_followed list gone
  followed_still list (has_changed change among of) = changed_still list change among of

  -- ---- whose call is announced

  module _ (keeps : KeepsQueue form setup (move ∷ older)) where
    abbrev scene : List Move → Scene
    scene moves = scene_of (run_of form setup moves).words (queue_ghosts form setup moves)

    record_at : (t : ℕ) (moves : List Move) → t < 8 → (scene moves).records t ≡ record_in (run_of form setup moves).words t
    record_at t moves few = seat_word t _ few

    -- where the number of a record is another after the move, the record was closed
    renumbered : (t : ℕ) → t < 8 → record_number (after.words (record_place t)) ≢ record_number (world.words (record_place t)) → is_open (record_phase (world.words (record_place t))) ≡ false
    renumbered t few differs =
        let was = record_at t older few in
        let is = record_at t (move ∷ older) few in
        elim ((runs_later form setup move older are keeps).moves t) [
          | inl stays ↦ absurd (differs (ap record_number (sym is ∙ stays.same ∙ was)))
          | inr (inl announces) ↦ ap (λ w. is_open (record_phase w)) (sym was) ∙ announces.closed
          | inr (inr advances) ↦ absurd (differs (ap record_number (sym is) ∙ advances.number ∙ ap record_number was))
        ]

    -- so its lists are dead, or have made their change
    owned_followed : (list : Listed) → record_number (record_for world list) ≡ list.call.number → is_open (record_phase (record_for world list)) ≡ false → IsOwned form world offers list → Followed list
    owned_followed list same closed (unannounced fast) = absurd (fast.1 same)
    owned_followed list same closed (named now) = open_not _ closed now.phase
    owned_followed list same closed (dead gone) = dead_followed list gone
    owned_followed list same closed (changed change among of) = changed_still list change among of

    closed_of : (list : Listed) → IsUnannounced after list → record_number (record_for world list) ≡ list.call.number → is_open (record_phase (record_for world list)) ≡ false
    closed_of list fast same = renumbered list.call.seat fast.0 (λ e. fast.1 (e ∙ same))

    old_followed : (list : Listed) → Took world list 0 → IsUnannounced after list → Followed list
    old_followed list took fast =
        elim (cases_eq (record_number (record_for world list)) list.call.number) [
          | inl same ↦ owned_followed list same (closed_of list fast same) (kept.owned list took)
          | inr differs ↦ followed_still list (kept.followed list took (fast.0, differs))
        ]

    new_followed : (list : Listed) → IsUnannounced after list → NewList world own.held list → Followed list
    new_followed list fast (of_mover h holds same) = subst Followed same (mover_followed h holds)
    new_followed list fast (executed_now executing) = open_not _ (closed_of list fast executing.number) (inl executing.phase)

    pub followed_after : AllFollowed form after held_then
    followed_after list took fast =
        elim (new_lists form laws setup older move mech are at kept list took) [
          | inl old ↦ old_followed list old fast
          | inr new ↦ new_followed list fast new
        ]
