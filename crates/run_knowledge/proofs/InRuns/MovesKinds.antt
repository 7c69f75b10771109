-- Each move of a run of which the invariant holds is one of the kinds.
use Rattle.std.proofs.Common.{◌≡◌, refl, sym, subst, ℕ, ◌^◌, ◌<◌, ◌≤◌, List, ◌∷◌, slice_get, Option, Some, None, arith}
use Rattle.lin_report.specs.declared.calls.Op.{Op}
use Rattle.normal_traits.specs.NormalForm.{NormalForm}
use Rattle.normal_traits.specs.Laws.{Laws}
use Rattle.fast_slow_engine.specs.declared.phases.Phase.{Phase}
use Rattle.fast_slow_engine.specs.declared.phases.Phase.TheVariants as phase
use Rattle.fast_slow_engine.specs.declared.phases.Generating.TheVariants.{Search, LookForBlock, Claim}
use Rattle.fast_slow_engine.specs.declared.phases.Applying.TheVariants.{Fill, Execute}
use Rattle.fast_slow_engine.specs.declared.setup.Setup.{Setup}
use Rattle.fast_slow_engine.specs.declared.help.Helping.{Helping}
use Rattle.fast_slow_engine.specs.declared.help.Helping.TheVariants.{Record, Known, Remove}
use Rattle.fast_slow_engine.specs.Mechs.{Mech}
use Rattle.fast_slow_engine.specs.Runs.{AreMoves, Move, begun, run_of}
use Rattle.move_kinds.specs.Kinds.{Kind}
use Rattle.helper_knowledge.specs.Callers.{Caller}
use Rattle.run_queue.specs.Fits.{HelpingFits, PhaseFits}
use Rattle.run_queue.proofs.Runs.RunMoves.{runs_queued}
use Rattle.run_world.specs.Ghosts.{SeatGhost}
use Rattle.run_world.specs.InHand.{BlockIn}
use Rattle.run_world.specs.Lists.{HoldsIn}
use Rattle.run_world.specs.RunGhosts.{ghost_of, world_of}
use Rattle.run_hands.proofs.Blocks.Spare.{hands_spare}
use Rattle.step_knowledge.specs.Known.{KnowsHelp, KnowsIn, MakesCommand}
use Rattle.run_knowledge.specs.InMemory.{HelpInside, IsInside, PhaseInside}
use Rattle.run_knowledge.specs.Kept.{IsKept, MovesAreKinds, callers_in}
use Rattle.run_knowledge.proofs.Bounds.InKept.{keeps_claims, keeps_queue}
use Rattle.run_knowledge.proofs.InRuns.Helped.{head_few}
use Rattle.run_knowledge.proofs.InRuns.Inside.{asks_inside, fill_inside, run_inside, wrap_inside}
use Rattle.run_knowledge.proofs.InRuns.Mover.{KnowsMover}
use Rattle.run_knowledge.proofs.InRuns.MoverInside.{work_inside}
use Rattle.run_knowledge.proofs.InRuns.Rests.{known, move_kind}

module _ {S W : Type 0} (form : NormalForm S W) (laws : Laws form) (setup : Setup) (older : List Move) (move : Move) (mech : Mech S W) (are : AreMoves form setup (move ∷ older))
    (at : slice_get (run_of form setup older).mechs move.seat ≡ Some mech) (kept : IsKept form setup older) where
  abbrev words : List ℕ
  words = (run_of form setup older).words

  abbrev own : SeatGhost S
  own = (ghost_of form setup older).seats move.seat

  abbrev callers : ℕ → Caller
  callers = callers_in (run_of form setup older) (ghost_of form setup older)

  -- the block in hand is one of the run
  pub hand_within : (block : ℕ) → mech.hand ≡ Some block → (0 < block) × (block ≤ setup.cap)
  hand_within block has = (let is = hands_spare form setup older are.0 (keeps_claims form setup older are.0 kept) move.seat mech at block has in (is.some, is.within))

  help_inside : (head : ℕ) (help : Helping S W) → HelpingFits help → KnowsHelp form (world_of form setup older) (ghost_of form setup older).offers (callers head) head mech.hand own.carried help → HelpInside form help words
  help_inside head (Record loaded) fits knows = tt
  help_inside head (Known word does) fits knows = work_inside form laws setup older are.0 kept (callers head) head word mech.hand own.carried does (λ block has. (hand_within block has).1) fits knows.1
  help_inside head (Remove removal) fits knows = tt

  phase_inside : (p : Phase S W) → mech.phase ≡ p → MakesCommand form p mech → KnowsIn form p mech own (world_of form setup older) (ghost_of form setup older).offers callers → HoldsIn form p mech own.held → BlockIn form p mech own.held
      → PhaseFits setup.seats p → PhaseInside form p words
  phase_inside (phase.Generate s Search) is command knows lists block fits =
      asks_inside form laws setup older are.0 kept (form.request_of s) (laws.of_world.search_asks_well (world_of form setup older) s mech.op own.carried.since command kept.holds.shape knows.0 knows.1)
  phase_inside (phase.Generate s LookForBlock) is command knows lists block fits = tt
  phase_inside (phase.Generate s Claim) is command knows lists block fits = tt
  phase_inside (phase.Apply run stores (Fill made)) is command knows lists block fits = fill_inside form laws setup older are.0 kept run stores made mech own.held hand_within block.0 block.2 lists knows
  phase_inside (phase.Apply run stores Execute) is command knows lists block fits = run_inside form laws setup older are.0 kept run stores mech own.held lists knows
  phase_inside (phase.Wrap w) is command knows lists block fits = wrap_inside form laws setup older are.0 kept w own.held knows
  phase_inside (phase.Help drives help) is command knows lists block fits =
      (head_few form laws setup older are.0 kept move.seat mech at drives help is, help_inside help.head help.at fits.1 knows)
  phase_inside phase.Idle is command knows lists block fits = tt
  phase_inside phase.Begin is command knows lists block fits = tt
  phase_inside phase.Look is command knows lists block fits = tt
  phase_inside (phase.Announce step) is command knows lists block fits = tt
  phase_inside (phase.Enter owner) is command knows lists block fits = tt
  phase_inside phase.Drive is command knows lists block fits = tt
  phase_inside phase.Collect is command knows lists block fits = tt
  phase_inside (phase.Value reference) is command knows lists block fits = tt
  phase_inside (phase.End reply) is command knows lists block fits = tt

  asks_begun : (begins : Option Op) → KnowsMover form setup older are.0 kept move.seat (begun begins mech) → PhaseInside form (begun begins mech).phase words
  asks_begun None k =
      let q = (runs_queued form setup older are.0 (keeps_queue form setup older are.0 kept)).seats move.seat mech at in
      phase_inside mech.phase refl k.command k.knows k.lists k.block q.fits
  asks_begun (Some op) k = tt

  pub is_inside : IsInside form (begun move.begins mech).phase (begun move.begins mech) own.held words
  is_inside =
      let k = known form laws setup older move mech are at kept in
      let few = setup.few_blocks in
      let q = runs_queued form setup older are.0 (keeps_queue form setup older are.0 kept) in
      record {
        first = q.long;
        few = k.few;
        lists = k.lists;
        asks = asks_begun move.begins k;
        cap = subst (λ (s : Setup). s.cap < 2 ^ 17) (sym k.setup_is) (omega (arith, few));
        small = λ block has. (let within = k.within block has in omega (arith, within, few));
      }

  pub hand_begun : (begins : Option Op) → (begun begins mech).hand ≡ mech.hand
  hand_begun None = refl
  hand_begun (Some op) = refl

module _ {S W : Type 0} (form : NormalForm S W) (laws : Laws form) where
  pub moves_are_kinds : MovesAreKinds form
  moves_are_kinds setup older move mech are at kept =
      let k = known form laws setup older move mech are at kept in
      let IsKind = λ (seat : ℕ) (hand : Option ℕ). Kind form (world_of form setup older) (world_of form setup (move ∷ older)) (ghost_of form setup older).offers (ghost_of form setup (move ∷ older)).offers seat hand in
      subst (IsKind move.seat) (hand_begun form laws setup older move mech are at kept move.begins)
      (subst (λ s. IsKind s (begun move.begins mech).hand) k.seat_is
      (move_kind form laws setup older move mech are at kept (is_inside form laws setup older move mech are at kept)))
