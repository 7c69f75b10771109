-- What the machine that moved knows in its next phase, of the world after the move and of the calls that seats make then.
use Rattle.std.proofs.Common.{◌≡◌, ◌∙◌, sym, subst, ap, ℕ, List, ◌∷◌, length, slice_get, Option, Some, inl, inr}
use Rattle.normal_traits.specs.World.{World}
use Rattle.normal_traits.specs.NormalForm.{NormalForm}
use Rattle.normal_traits.specs.Laws.{Laws}
use Rattle.fast_slow_engine.specs.declared.phases.Phase.{Phase}
use Rattle.fast_slow_engine.specs.declared.setup.Setup.{Setup}
use Rattle.fast_slow_engine.specs.Mechs.{Mech}
use Rattle.fast_slow_engine.specs.PhaseTable.{stepped}
use Rattle.fast_slow_engine.specs.Runs.{AreMoves, Move, begun, run_of}
use Rattle.offered_blocks.specs.Blocks.{Offer}
use Rattle.helper_knowledge.specs.Callers.{Caller}
use Rattle.run_knowledge.specs.Ghosts.{SeatGhost}
use Rattle.run_knowledge.specs.RunGhosts.{ghost_of, world_of}
use Rattle.run_knowledge.specs.SeatSteps.{seat_stepped}
use Rattle.run_knowledge.specs.Known.{KnowsIn}
use Rattle.run_knowledge.specs.Moves.{StepsIn}
use Rattle.run_knowledge.specs.Kept.{IsKept, callers_in}
use Rattle.run_knowledge.proofs.Words.Moved.{made_moved, made_seat, seat_after, seen_by}
use Rattle.run_knowledge.proofs.Words.Seats.{machine_after}
use Rattle.run_knowledge.proofs.Goes.EachPhase.{steps_know}
use Rattle.run_knowledge.proofs.InRuns.MoveSteps.{moves_step}
use Rattle.run_knowledge.proofs.InRuns.MovesKinds.{is_inside}
use Rattle.run_knowledge.proofs.InRuns.Rests.{rests_move}
use Rattle.kept_knowledge.proofs.Mover.Callers.{begin_or, callers_stay}
use Rattle.kept_knowledge.proofs.Mover.Fresh.{move_leaves}

module _ {S W : Type 0} (form : NormalForm S W) (laws : Laws form) (setup : Setup) (older : List Move) (move : Move) (mech : Mech S W) (are : AreMoves form setup (move ∷ older))
    (at : slice_get (run_of form setup older).mechs move.seat ≡ Some mech) (kept : IsKept form setup older) where
  abbrev after : World
  after = world_of form setup (move ∷ older)

  abbrev offers' : ℕ → Option (Offer S)
  offers' = (ghost_of form setup (move ∷ older)).offers

  abbrev callers : ℕ → Caller
  callers = callers_in (run_of form setup older) (ghost_of form setup older)

  abbrev callers' : ℕ → Caller
  callers' = callers_in (run_of form setup (move ∷ older)) (ghost_of form setup (move ∷ older))

  abbrev new : Mech S W
  new = machine_after form setup older move mech

  abbrev own : SeatGhost S
  own = (ghost_of form setup older).seats move.seat

  -- what is known of the seat, where there are so many changes
  abbrev own_with : ℕ → SeatGhost S
  own_with count = seat_stepped form (length older) count (begun move.begins mech) (seen_by form setup older move mech) own

  -- there are as many changes as after the step
  counts : (ghost_of form setup (move ∷ older)).seats move.seat ≡ own_with (length after.changes)
  counts = made_seat form setup older move mech at ∙ ap (λ (w : World). own_with (length w.changes)) (made_moved form setup older move mech at)

  abbrev KnowsWith : SeatGhost S → (ℕ → Caller) → Type 0
  KnowsWith seat calls = KnowsIn form new.phase new seat after offers' calls

  -- with the calls that seats made before
  knows_stepped : KnowsWith (own_with (length after.changes)) callers
  knows_stepped =
      let one = begun move.begins mech in
      let seen = seen_by form setup older move mech in
      steps_know form laws (world_of form setup older) after (ghost_of form setup older).offers offers' callers one own (length older) seen (rests_move form laws setup older move mech are at kept)
      (subst (λ (o : SeatGhost S). StepsIn form (world_of form setup older) after (ghost_of form setup older).offers offers' one.phase one own o (length older) seen) counts
      (moves_step form setup older move mech at (is_inside form laws setup older move mech are at kept)))
      (move_leaves form laws setup older move mech are at kept)

  -- where it drew the begin tick it knows nothing yet; else seats make the calls that they made
  pub knows_after : KnowsWith (seat_after form setup older move mech) callers'
  knows_after =
      elim (begin_or (begun move.begins mech).phase) [
        | inl begins ↦
            let one = begun move.begins mech in
            let seen = seen_by form setup older move mech in
            subst (λ (p : Phase S W). KnowsIn form (stepped form p seen one).phase (stepped form p seen one) (seat_after form setup older move mech) after offers' callers') (sym begins) tt
        | inr stays ↦
            subst (KnowsWith (seat_after form setup older move mech)) (sym (callers_stay form laws setup older move mech are at kept stays))
            (subst (λ (o : SeatGhost S). KnowsWith o callers) (sym counts ∙ made_seat form setup older move mech at) knows_stepped)
      ]
