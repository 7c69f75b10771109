-- What the record of each seat tells of its call is right after a move.
use Rattle.std.proofs.Common.{◌≡◌, ◌≢◌, ◌∙◌, refl, sym, subst, ap, ℕ, ◌<◌, Bool, true, false, inl, inr, List, ◌∷◌, slice_get, Option, Some, None, arith}
use Rattle.std.proofs.lemmas.Bool.{cases_Bool}
use Rattle.lin_report.specs.declared.calls.Op.{Op}
use Rattle.word_fields.specs.declared.records.RecordPhase.{RecordPhase as Mark}
use Rattle.word_fields.specs.declared.records.RecordPhase.TheVariants as marks
use Rattle.word_fields.specs.Records.{record_number, record_of, record_payload, record_word}
use Rattle.word_fields.proofs.RecordWords.{phase-word}
use Rattle.node_arena.specs.MemoryMap.{record_place}
use Rattle.op_record.specs.Outcomes.{outcome_of}
use Rattle.normal_traits.specs.World.{Called, World}
use Rattle.normal_traits.specs.NormalForm.{NormalForm}
use Rattle.normal_traits.specs.Laws.{Laws}
use Rattle.normal_traits.proofs.Stays.{word_put}
use Rattle.fast_slow_engine.specs.declared.phases.Phase.{Phase}
use Rattle.fast_slow_engine.specs.declared.phases.Phase.TheVariants as phase
use Rattle.fast_slow_engine.specs.declared.phases.Announcing.TheVariants as announcing
use Rattle.fast_slow_engine.specs.declared.help.Help as helper
use Rattle.fast_slow_engine.specs.declared.setup.Setup.{Setup}
use Rattle.fast_slow_engine.specs.Mechs.{Mech}
use Rattle.fast_slow_engine.specs.Runs.{AreMoves, Move, begun, run_of}
use Rattle.fast_slow_engine.proofs.SameCalls.{same_fed}
use Rattle.offered_blocks.specs.Blocks.{Offer}
use Rattle.offered_blocks.specs.Records.{MadeNone, RecordIsRight, RecordTells}
use Rattle.move_kinds.specs.Owned.{RecordKnown}
use Rattle.move_kinds.proofs.LawsOfKinds.{records_kept}
use Rattle.helper_knowledge.specs.Callers.{Caller, called, caller_of}
use Rattle.run_queue.specs.Premises.{KeepsQueue}
use Rattle.run_queue.proofs.Runs.RunMoves.{runs_queued}
use Rattle.kept_knowledge.specs.RunGhosts.{ghost_of, world_of}
use Rattle.kept_knowledge.specs.SeatSteps.{begun_after}
use Rattle.kept_knowledge.specs.Moves.{is_unannounced}
use Rattle.kept_knowledge.specs.Kept.{IsKept, caller_at, callers_in}
use Rattle.kept_knowledge.specs.Tells.{TellsIn}
use Rattle.kept_knowledge.proofs.Words.Moved.{seat_after, seen_by}
use Rattle.kept_knowledge.proofs.Words.Seats.{machine_after}
use Rattle.kept_knowledge.proofs.Bounds.InKept.{keeps_queue}
use Rattle.kept_knowledge.proofs.InRuns.Leaves.{kind}
use Rattle.kept_knowledge.proofs.InRuns.Rests.{known, rests_move}
use Rattle.run_invariant.proofs.Records.RecordMoves.{RecordMoves, record_moves}
use Rattle.run_invariant.proofs.Records.RecordMoves.RecordMoves.{stays, won, announced}
use Rattle.run_invariant.proofs.Tells.Stays.{few_seats, mover_tells}

-- a call has its seat, and what its seat makes
one_call : (call other : Called) (begun_at other_begun : ℕ) → call.seat ≡ other.seat → caller_of call begun_at ≡ caller_of other other_begun → call ≡ other
one_call call other begun_at other_begun seat same = λ i. record { seat = seat i; number = (same i).number; op = (same i).op }

-- only the first step of a call draws its begin tick
begun_still : {S W : Type 0} (p : Phase S W) (count before : ℕ) → is_unannounced p ≡ false → begun_after p count before ≡ before
begun_still phase.Begin count before other = absurd cc
begun_still _ count before other = refl

begun_helping : {S W : Type 0} (p : Phase S W) (count before : ℕ) (drives : Bool) (help : helper.Help S W) → p ≡ phase.Help drives help → begun_after p count before ≡ before
begun_helping p count before drives help is = ap (λ q. begun_after q count before) is

module _ {S W : Type 0} (form : NormalForm S W) (laws : Laws form) (setup : Setup) (older : List Move) (move : Move) (mech : Mech S W) (are : AreMoves form setup (move ∷ older))
    (at : slice_get (run_of form setup older).mechs move.seat ≡ Some mech) (kept : IsKept form setup older) (keeps : KeepsQueue form setup (move ∷ older)) where
  abbrev world : World
  world = world_of form setup older

  abbrev after : World
  after = world_of form setup (move ∷ older)

  abbrev offers : ℕ → Option (Offer S)
  offers = (ghost_of form setup older).offers

  abbrev offers' : ℕ → Option (Offer S)
  offers' = (ghost_of form setup (move ∷ older)).offers

  abbrev callers : ℕ → Caller
  callers = callers_in (run_of form setup older) (ghost_of form setup older)

  abbrev begun_at : ℕ → ℕ
  begun_at seat = ((ghost_of form setup older).seats seat).begun

  abbrev one : Mech S W
  one = begun move.begins mech

  module _ (seat : ℕ) (mate : Mech S W) (found : slice_get (run_of form setup older).mechs seat ≡ Some mate) where
    seat_is : mate.seat ≡ seat
    seat_is = ((runs_queued form setup older are.0 (keeps_queue form setup older are.0 kept)).seats seat mate found).seat

    -- a record that stays tells of a call that goes on what is right
    stays_known : after.words (record_place seat) ≡ world.words (record_place seat) → RecordKnown form after offers' (called mate) (begun_at seat)
    stays_known same number' =
        let here : after.words (record_place mate.seat) ≡ world.words (record_place mate.seat) = subst (λ s. after.words (record_place s) ≡ world.words (record_place s)) (sym seat_is) same in
        let number : record_number (world.words (record_place mate.seat)) ≡ mate.number = ap record_number (sym here) ∙ number' in
        (records_kept form laws world after offers offers' move.seat mech.hand (called mate) (begun_at seat) kept.holds kept.owned (kind form laws setup older move mech are at kept) number).1 here
        (kept.seats seat mate found).record_tells number'

    -- so does one that a helper exchanged
    won_known : (call : Called) (since : ℕ) → callers seat ≡ caller_of call since → call.seat ≡ seat → RecordIsRight form after offers' call since (record_of (after.words (record_place seat)))
        → RecordKnown form after offers' (called mate) (begun_at seat)
    won_known call since is there tells number' =
        let makes : caller_of (called mate) (begun_at seat) ≡ caller_of call since = sym (ap (λ (o : Option (Mech S W)). caller_at o (begun_at seat)) found) ∙ is in
        let same : called mate ≡ call = one_call (called mate) call (begun_at seat) since (seat_is ∙ sym there) makes in
        let early : begun_at seat ≡ since = ap (λ (c : Caller). c.begun) makes in
        subst (λ s. RecordIsRight form after offers' (called mate) (begun_at seat) (record_of (after.words (record_place s)))) (sym seat_is)
        (subst (λ (c : Called). RecordIsRight form after offers' c (begun_at seat) (record_of (after.words (record_place seat)))) (sym same)
        (subst (λ b. RecordIsRight form after offers' call b (record_of (after.words (record_place seat)))) (sym early) tells))

    -- ---- a seat that doesn't move

    pub other_record_tells_after : seat ≢ move.seat → RecordKnown form after offers' (called mate) (begun_at seat)
    other_record_tells_after apart =
        elim (record_moves form laws setup older move mech are at kept keeps seat (few_seats form laws setup older move mech are at kept seat mate found)) [
          | stays same ↦ stays_known same
          | won drives help call since is makes there opened tells ↦ won_known call since makes there tells
          | announced is here made same ↦ absurd (apart (here ∙ (known form laws setup older move mech are at kept).seat_is))
        ]

  -- ---- the seat that moves

  -- until its call is announced its record is of an earlier one
  unannounced_known : (since : ℕ) → is_unannounced one.phase ≡ true → after.words (record_place one.seat) ≡ world.words (record_place one.seat) → RecordKnown form after offers' (called one) since
  unannounced_known since not same number' =
      let before = (rests_move form laws setup older move mech are at kept).earlier not in
      let number : record_number (world.words (record_place one.seat)) ≡ one.number = ap record_number (sym same) ∙ number' in
      absurd (omega (arith, before, number))

  own_stays : (begins : Option Op) → is_unannounced (begun begins mech).phase ≡ false → after.words (record_place move.seat) ≡ world.words (record_place move.seat) → RecordKnown form after offers' (called (begun begins mech)) (begun_at move.seat)
  own_stays None other same = stays_known move.seat mech at same
  own_stays (Some op) other same = absurd cc

  own_won : (begins : Option Op) (drives : Bool) (help : helper.Help S W) (call : Called) (since : ℕ) → (begun begins mech).phase ≡ phase.Help drives help → callers move.seat ≡ caller_of call since → call.seat ≡ move.seat
      → RecordIsRight form after offers' call since (record_of (after.words (record_place move.seat))) → RecordKnown form after offers' (called (begun begins mech)) (begun_at move.seat)
  own_won None drives help call since is makes there tells = won_known move.seat mech at call since makes there tells
  own_won (Some op) drives help call since is makes there tells = absurd cc

  -- a record that the seat announces is in Generate, and the call made no change
  announced_known : (since : ℕ) → one.phase ≡ phase.Announce announcing.Record → after.words (record_place one.seat) ≡ record_word marks.Generate one.number 0 0 → RecordKnown form after offers' (called one) since
  announced_known since is now number' =
      let none : MadeNone after (called one) = subst (λ (p : Phase S W). TellsIn form p one ((ghost_of form setup older).seats move.seat) after) is (mover_tells form laws setup older move mech are at kept) in
      let word = record_word marks.Generate one.number 0 0 in
      subst (λ w. RecordIsRight form after offers' (called one) since (record_of w)) (sym now)
      (subst (λ (m : Mark). RecordTells form after offers' (called one) since m (record_payload word) (outcome_of (record_of word))) (sym (phase-word marks.Generate one.number 0 0)) none)

  abbrev since_after : ℕ
  since_after = (seat_after form setup older move mech).begun

  moved_known : RecordMoves form laws setup older move mech are at kept move.seat → RecordKnown form after offers' (called one) since_after
  moved_known (stays same) =
      elim (cases_Bool (is_unannounced one.phase)) [
        | inl not ↦ unannounced_known since_after not (subst (λ s. after.words (record_place s) ≡ world.words (record_place s)) (sym (known form laws setup older move mech are at kept).seat_is) same)
        | inr other ↦ subst (RecordKnown form after offers' (called one)) (sym (begun_still one.phase _ (begun_at move.seat) other)) (own_stays move.begins other same)
      ]
  moved_known (won drives help call since is makes there opened tells) =
      subst (RecordKnown form after offers' (called one)) (sym (begun_helping one.phase _ (begun_at move.seat) drives help is)) (own_won move.begins drives help call since is makes there tells)
  moved_known (announced is here made same) =
      announced_known since_after is (ap (λ (w : World). w.words (record_place one.seat)) made ∙ word_put (record_place one.seat) _ world.words (record_place one.seat) refl)

  pub own_record_tells_after : RecordKnown form after offers' (called (machine_after form setup older move mech)) (seat_after form setup older move mech).begun
  own_record_tells_after =
      let same = same_fed form one (seen_by form setup older move mech) in
      let k = known form laws setup older move mech are at kept in
      let one_is : called (machine_after form setup older move mech) ≡ called one = λ i. record { seat = same.seat i; number = same.number i; op = same.op i } in
      subst (λ (c : Called). RecordKnown form after offers' c since_after) (sym one_is)
      (moved_known (record_moves form laws setup older move mech are at kept keeps move.seat (subst (λ s. s < 8) k.seat_is k.few)))
