-- What the step of the machine that moves rests on, in a run of which the invariant holds; so its move is one of the kinds.
use Rattle.std.proofs.Common.{◌≡◌, ◌∙◌, refl, sym, subst, ap, ◌<◌, false, List, ◌∷◌, length, slice_get, Option, Some, None}
use Rattle.lin_report.specs.declared.calls.Op.{Op}
use Rattle.step_memory.specs.Step.{seen_of}
use Rattle.word_fields.specs.Records.{record_number, record_phase}
use Rattle.node_arena.specs.MemoryMap.{record_place}
use Rattle.help_queue.specs.Gathers.{is_open}
use Rattle.normal_traits.specs.World.{World}
use Rattle.normal_traits.specs.NormalForm.{NormalForm}
use Rattle.normal_traits.specs.Laws.{Laws}
use Rattle.fast_slow_engine.specs.declared.phases.Phase.{Phase}
use Rattle.fast_slow_engine.specs.declared.phases.Phase.TheVariants as phase
use Rattle.fast_slow_engine.specs.declared.setup.Setup.{Setup}
use Rattle.fast_slow_engine.specs.Mechs.{Mech}
use Rattle.fast_slow_engine.specs.PhaseTable.{mech_request}
use Rattle.fast_slow_engine.specs.Runs.{AreMoves, CanMove, Move, begun, run_of}
use Rattle.move_kinds.specs.Kinds.{Kind}
use Rattle.run_laws.proofs.Steps.{some_same}
use Rattle.run_world.specs.Ghosts.{SeatGhost}
use Rattle.run_world.specs.RunGhosts.{ghost_of, world_of}
use Rattle.step_knowledge.specs.Moves.{RestsIn, RestsMove}
use Rattle.step_knowledge.proofs.OfKinds.EachPhase.{steps_are_kinds}
use Rattle.run_knowledge.specs.InMemory.{IsInside}
use Rattle.run_knowledge.specs.Kept.{IsKept, callers_in}
use Rattle.run_knowledge.proofs.Bounds.InKept.{has_room, keeps_queue}
use Rattle.run_knowledge.proofs.InRuns.Helped.{help_rests}
use Rattle.run_knowledge.proofs.InRuns.MoveSteps.{moves_step}
use Rattle.run_knowledge.proofs.InRuns.Mover.{KnowsMover, apart, mover_knows}
use Rattle.run_knowledge.proofs.InRuns.Unannounced.{movers_before}

module _ {S W : Type 0} (form : NormalForm S W) (laws : Laws form) (setup : Setup) (older : List Move) (move : Move) (mech : Mech S W) (are : AreMoves form setup (move ∷ older))
    (at : slice_get (run_of form setup older).mechs move.seat ≡ Some mech) (kept : IsKept form setup older) where
  abbrev world : World
  world = world_of form setup older

  abbrev one : Mech S W
  one = begun move.begins mech

  abbrev own : SeatGhost S
  own = (ghost_of form setup older).seats move.seat

  pub can : CanMove form move.begins mech
  can = (let same : are.1.mech ≡ mech = some_same are.1.mech mech (sym are.1.seated ∙ at) in subst (CanMove form move.begins) same are.1.can)

  pub known : KnowsMover form setup older are.0 kept move.seat one
  known = mover_knows form setup older are.0 kept move.seat mech at move.begins can

  -- of a helper, what holds of its head's call
  rests_in : (p : Phase S W) → mech.phase ≡ p → RestsIn form world (ghost_of form setup older).offers (callers_in (run_of form setup older) (ghost_of form setup older)) p mech.hand own.carried.filled
  rests_in (phase.Help drives help) is = help_rests form laws setup older are.0 kept move.seat mech at drives help is
  rests_in phase.Idle is = tt
  rests_in phase.Begin is = tt
  rests_in phase.Look is = tt
  rests_in (phase.Generate s step) is = tt
  rests_in (phase.Apply run stores step) is = tt
  rests_in (phase.Wrap w) is = tt
  rests_in (phase.Announce step) is = tt
  rests_in (phase.Enter owner) is = tt
  rests_in phase.Drive is = tt
  rests_in phase.Collect is = tt
  rests_in (phase.Value reference) is = tt
  rests_in (phase.End reply) is = tt

  rests_begun : (begins : Option Op) → RestsIn form world (ghost_of form setup older).offers (callers_in (run_of form setup older) (ghost_of form setup older)) (begun begins mech).phase (begun begins mech).hand own.carried.filled
  rests_begun None = rests_in mech.phase refl
  rests_begun (Some op) = tt

  -- what its step rests on
  pub rests_move : RestsMove form world (ghost_of form setup older).offers (callers_in (run_of form setup older) (ghost_of form setup older)) one.phase one own
  rests_move =
      let k = known in
      let here = ap record_place (sym k.seat_is) in
      let keeps = keeps_queue form setup older are.0 kept in
      record {
        holds = kept.holds;
        room = has_room form setup older are.0 kept laws;
        few = k.few;
        number = k.number;
        command = k.command;
        knows = k.knows;
        lists = k.lists;
        block = k.block;
        spare = k.spare;
        apart = λ block offer held stands has. apart form setup older are.0 kept move.seat block offer held stands has;
        earlier = λ not. subst (λ p. record_number (world.words p) < one.number) here (movers_before form setup older move mech are keeps at not).earlier;
        closed = λ not. subst (λ p. is_open (record_phase (world.words p)) ≡ false) here (movers_before form setup older move mech are keeps at not).closed;
        helps = rests_begun move.begins;
      }

  -- so its move is one of the kinds, where its request is inside the memory
  pub move_kind : IsInside form one.phase one own.held (run_of form setup older).words
      → Kind form world (world_of form setup (move ∷ older)) (ghost_of form setup older).offers (ghost_of form setup (move ∷ older)).offers one.seat one.hand
  move_kind inside =
      steps_are_kinds form laws world (world_of form setup (move ∷ older)) (ghost_of form setup older).offers (ghost_of form setup (move ∷ older)).offers (callers_in (run_of form setup older) (ghost_of form setup older))
      one.phase one own ((ghost_of form setup (move ∷ older)).seats move.seat) (length older) (seen_of (mech_request form one) (run_of form setup older).words) rests_move
      (moves_step form setup older move mech at inside)
