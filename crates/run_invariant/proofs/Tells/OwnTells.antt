-- What the machine that moves tells after its move. A published call ends with the outcome of its record, which tells what is
-- right.
use Rattle.std.proofs.Common.{◌≡◌, ◌∙◌, refl, sym, subst, ap, ℕ, true, false, List, ◌∷◌, length, slice_get, slice_index, Option, Some, None}
use Rattle.lin_report.specs.declared.calls.Op.{Op}
use Rattle.lin_report.specs.declared.calls.Outcome.{Outcome}
use Rattle.lin_report.specs.declared.calls.Outcome.TheVariants.{Plain, ValueOf}
use Rattle.lin_report.specs.declared.calls.Reply.TheVariants.{Done}
use Rattle.std.specs.Prelude.{unwrap_or}
use Rattle.step_memory.specs.declared.steps.Seen.{Seen}
use Rattle.step_memory.specs.Step.{seen_of, words_after}
use Rattle.step_memory.proofs.Words.{load_keeps, load_tells}
use Rattle.word_fields.specs.declared.records.RecordPhase.{RecordPhase as Mark}
use Rattle.word_fields.specs.declared.records.RecordPhase.TheVariants.{Completed}
use Rattle.word_fields.specs.Records.{record_number, record_of, record_payload, record_phase}
use Rattle.node_arena.specs.declared.places.TheConstants.{NODE_VALUE}
use Rattle.node_arena.specs.MemoryMap.{node_place, record_place}
use Rattle.op_record.specs.Outcomes.{outcome_of}
use Rattle.help_queue.specs.Enters.{outcome_or_done}
use Rattle.help_queue.specs.Gathers.{is_open}
use Rattle.normal_traits.specs.World.{Called, World}
use Rattle.normal_traits.specs.NormalForm.{NormalForm}
use Rattle.normal_traits.specs.Laws.{Laws}
use Rattle.fast_slow_engine.specs.declared.phases.Phase.{Phase}
use Rattle.fast_slow_engine.specs.declared.phases.Phase.TheVariants as phase
use Rattle.fast_slow_engine.specs.declared.setup.Setup.{Setup}
use Rattle.fast_slow_engine.specs.Mechs.{Mech}
use Rattle.fast_slow_engine.specs.PhaseTable.{mech_request, request_in, rests}
use Rattle.fast_slow_engine.specs.Runs.{AreMoves, CanMove, Move, RunState, begun, run_of}
use Rattle.fast_slow_engine.proofs.SameCalls.{same_fed}
use Rattle.offered_blocks.specs.Blocks.{Offer}
use Rattle.offered_blocks.specs.Records.{MadeBy, MadeNone, RecordTells, TellsRight}
use Rattle.helper_knowledge.specs.Callers.{called}
use Rattle.helper_knowledge.specs.Carried.{OfSome}
use Rattle.helper_knowledge.specs.HelperStep.{UsedSmall}
use Rattle.run_laws.proofs.Steps.{move_steps}
use Rattle.run_queue.specs.QueueLaws.{EndsCompleted, outcome_in}
use Rattle.run_queue.proofs.OutcomeLaws.{outcomes_hold}
use Rattle.run_queue.proofs.Runs.RunMoves.{runs_queued}
use Rattle.kept_knowledge.specs.Ghosts.{SeatGhost}
use Rattle.kept_knowledge.specs.Lists.{HoldsIn}
use Rattle.kept_knowledge.specs.RunGhosts.{ghost_of, world_of}
use Rattle.kept_knowledge.specs.Worlds.{world_stepped}
use Rattle.kept_knowledge.specs.Kept.{IsKept, callers_in}
use Rattle.kept_knowledge.specs.Tells.{CountsIn, TellsIn}
use Rattle.kept_knowledge.proofs.Holding.HeldLists.{lists_held}
use Rattle.kept_knowledge.proofs.Words.Moved.{seat_after, seen_by}
use Rattle.kept_knowledge.proofs.Words.Seats.{machine_after}
use Rattle.kept_knowledge.proofs.Bounds.InKept.{keeps_queue}
use Rattle.kept_knowledge.proofs.InRuns.Leaves.{allowed, holds_after, leaves}
use Rattle.kept_knowledge.proofs.InRuns.MoveSteps.{moves_step}
use Rattle.kept_knowledge.proofs.InRuns.MovesKinds.{is_inside}
use Rattle.kept_knowledge.proofs.InRuns.Rests.{can, rests_move}
use Rattle.run_invariant.proofs.Tells.Stays.{few_seats, mover_tells, right_still}
use Rattle.run_invariant.proofs.Tells.StepTells.{step_tells}
use Rattle.run_invariant.proofs.Tells.Values.{AnswersWell, answers_kept}

-- what is told of a completed record is its outcome
told_outcome : (outcome one : Outcome) (given : Option Outcome) → outcome ≡ unwrap_or given (Plain Done) → given ≡ Some one → outcome ≡ one
told_outcome outcome one given is told = is ∙ ap (λ (o : Option Outcome). unwrap_or o (Plain Done)) told

module _ {S W : Type 0} (form : NormalForm S W) where
  -- what a machine tells is told by one of the same call
  tells_same : (p : Phase S W) (new one : Mech S W) (own : SeatGhost S) (world : World) → called new ≡ called one → TellsIn form p one own world → TellsIn form p new own world
  tells_same phase.Idle new one own world same told = tt
  tells_same phase.Begin new one own world same told = subst (MadeNone world) (sym same) told
  tells_same phase.Look new one own world same told = subst (MadeNone world) (sym same) told
  tells_same (phase.Generate s step) new one own world same told = subst (MadeNone world) (sym same) told
  tells_same (phase.Apply run stores step) new one own world same told = subst (λ (c : Called). OfSome (λ h. MadeBy world c h.list) own.held) (sym same) told
  tells_same (phase.Wrap w) new one own world same told = subst (λ (c : Called). OfSome (λ h. MadeBy world c h.list) own.held) (sym same) told
  tells_same (phase.Announce step) new one own world same told = subst (MadeNone world) (sym same) told
  tells_same (phase.Enter owner) new one own world same told = tt
  tells_same phase.Drive new one own world same told = tt
  tells_same (phase.Help true help) new one own world same told = tt
  tells_same (phase.Help false help) new one own world same told = subst (MadeNone world) (sym same) told
  tells_same phase.Collect new one own world same told = tt
  tells_same (phase.Value reference) new one own world same told = subst (λ (c : Called). TellsRight form world c own.begun (ValueOf reference)) (sym same) told
  tells_same (phase.End answer) new one own world same told = subst (λ (c : Called). TellsRight form world c own.begun (Plain answer)) (sym same) told

  -- a record that is Completed tells the outcome with which its call ends
  record_right : (world : World) (offers : ℕ → Option (Offer S)) (call : Called) (begun_at : ℕ) (mark : Mark) (payload : ℕ) (given : Option Outcome) (outcome : Outcome) → mark ≡ Completed → outcome ≡ unwrap_or given (Plain Done)
      → RecordTells form world offers call begun_at mark payload given → TellsRight form world call begun_at outcome
  record_right world offers call begun_at mark payload given outcome done told tells =
      let right = subst (λ (m : Mark). RecordTells form world offers call begun_at m payload given) done tells in
      subst (TellsRight form world call begun_at) (sym (told_outcome outcome right.0 given told right.1)) right.2

module _ {S W : Type 0} (form : NormalForm S W) (laws : Laws form) (setup : Setup) (older : List Move) (move : Move) (mech : Mech S W) (are : AreMoves form setup (move ∷ older))
    (at : slice_get (run_of form setup older).mechs move.seat ≡ Some mech) (kept : IsKept form setup older) where
  abbrev world : World
  world = world_of form setup older

  abbrev after : World
  after = world_of form setup (move ∷ older)

  abbrev words : List ℕ
  words = (run_of form setup older).words

  abbrev one : Mech S W
  one = begun move.begins mech

  abbrev own : SeatGhost S
  own = (ghost_of form setup older).seats move.seat

  abbrev seen : Seen
  seen = seen_by form setup older move mech

  -- ---- a published call ends

  -- a call that ends at the queue holds no list
  ends_holds : (p : Phase S W) (saw : Seen) (outcome : Outcome) → outcome_in p saw ≡ Some outcome → HoldsIn form p mech own.held → own.held ≡ None
  ends_holds (phase.Apply run stores step) saw outcome is holds = absurd cc
  ends_holds (phase.Wrap w) saw outcome is holds = absurd cc
  ends_holds phase.Idle saw outcome is holds = holds
  ends_holds phase.Begin saw outcome is holds = holds
  ends_holds phase.Look saw outcome is holds = holds
  ends_holds (phase.Generate s step) saw outcome is holds = holds
  ends_holds (phase.Announce step) saw outcome is holds = holds
  ends_holds (phase.Enter owner) saw outcome is holds = holds
  ends_holds phase.Drive saw outcome is holds = holds
  ends_holds (phase.Help drives help) saw outcome is holds = holds
  ends_holds phase.Collect saw outcome is holds = holds
  ends_holds (phase.Value reference) saw outcome is holds = holds
  ends_holds (phase.End reply) saw outcome is holds = holds

  ends_right : (outcome : Outcome) → mech.seat ≡ move.seat → EndsCompleted words move.seat mech outcome → own.held ≡ None → TellsRight form after (called mech) own.begun outcome
  ends_right outcome seat ends empty =
      let here = ap record_place (sym seat) in
      let tells = (kept.seats move.seat mech at).record_tells (ap (λ p. record_number (world.words p)) (sym here) ∙ ends.number) in
      let right =
      record_right form world (ghost_of form setup older).offers (called mech) own.begun (record_phase (world.words (record_place mech.seat))) (record_payload (world.words (record_place mech.seat)))
      (outcome_of (record_of (world.words (record_place mech.seat)))) outcome (ap (λ p. record_phase (world.words p)) (sym here) ∙ ends.completed)
      (ends.told ∙ ap (λ p. outcome_or_done (world.words p)) here) tells in
      right_still form laws setup older move mech are at kept move.seat (few_seats form laws setup older move mech are at kept move.seat mech at) mech seat (ap is_open ends.completed) empty own.begun outcome right

  ends_from : (begins : Option Op) → (outcome : Outcome) → outcome_in (begun begins mech).phase (seen_of (mech_request form (begun begins mech)) words) ≡ Some outcome → TellsRight form after (called (begun begins mech)) own.begun outcome
  ends_from None outcome is =
      let keeps = keeps_queue form setup older are.0 kept in
      ends_right outcome ((runs_queued form setup older are.0 keeps).seats move.seat mech at).seat (outcomes_hold form setup older are.0 keeps move.seat mech at outcome is)
      (ends_holds mech.phase (seen_of (mech_request form mech) words) outcome is (lists_held form setup older are.0 move.seat mech at))
  ends_from (Some op) outcome is = absurd cc

  -- ---- what is loaded of the value of a node

  loaded : (reference : ℕ) → one.phase ≡ phase.Value reference → seen.before ≡ after.words (node_place reference NODE_VALUE)
  loaded reference is =
      let place = node_place reference NODE_VALUE in
      ap (λ (p : Phase S W). (seen_of (request_in form p one) words).before) is ∙ load_tells place words
      ∙ sym (ap (λ (s : RunState S W). slice_index s.words place) (move_steps form (run_of form setup older) move mech at) ∙ ap (λ (p : Phase S W). slice_index (words_after (request_in form p one) words) place) is
      ∙ ap (λ l. slice_index l place) (load_keeps place words))

  -- ---- the move

  runs_from : (begins : Option Op) → CanMove form begins mech → rests (begun begins mech).phase ≡ false
  runs_from None moves = moves
  runs_from (Some op) moves = refl

  counts_from : (begins : Option Op) → CountsIn (begun begins mech).phase own
  counts_from None = (kept.seats move.seat mech at).counts
  counts_from (Some op) = tt

  -- what it tells then, where the used blocks are of an arena and values are in range
  pub own_tells_after : UsedSmall after → AnswersWell form world → TellsIn form (machine_after form setup older move mech).phase (machine_after form setup older move mech) (seat_after form setup older move mech) after
  own_tells_after used well =
      let new = machine_after form setup older move mech in
      let more = seat_after form setup older move mech in
      let same = same_fed form one seen in
      tells_same form new.phase new one more after (λ i. record { seat = same.seat i; number = same.number i; op = same.op i })
      (step_tells form laws world after (ghost_of form setup older).offers (ghost_of form setup (move ∷ older)).offers (callers_in (run_of form setup older) (ghost_of form setup older)) one own (length older) seen
      (leaves form laws setup older move mech are at kept) (holds_after form laws setup older move mech are at kept).shape used (answers_kept form laws world after kept.holds.shape (allowed form laws setup older move mech are at kept) well)
      one.phase ((ghost_of form setup (move ∷ older)).seats move.seat) (length (world_stepped form one.phase own.held (ghost_of form setup older).offers seen world).changes) more.carried
      (runs_from move.begins (can form laws setup older move mech are at kept)) (counts_from move.begins) (rests_move form laws setup older move mech are at kept)
      (moves_step form setup older move mech at (is_inside form laws setup older move mech are at kept))
      (ends_from move.begins) loaded (mover_tells form laws setup older move mech are at kept))
