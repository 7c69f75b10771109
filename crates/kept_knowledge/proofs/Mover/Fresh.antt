-- What a move leaves of what others may rest on: the used blocks are those of an arena, and a list that it names is new.
use Rattle.std.proofs.Common.{◌≡◌, refl, List, ◌∷◌, length, slice_get, Some, arith}
use Rattle.normal_traits.specs.NormalForm.{NormalForm}
use Rattle.normal_traits.specs.Laws.{Laws}
use Rattle.fast_slow_engine.specs.declared.setup.Setup.{Setup}
use Rattle.fast_slow_engine.specs.Mechs.{Mech}
use Rattle.fast_slow_engine.specs.Runs.{AreMoves, Move, begun, run_of}
use Rattle.helper_knowledge.specs.HelperStep.{UsedSmall}
use Rattle.run_knowledge.specs.RunGhosts.{ghost_of, world_of}
use Rattle.run_knowledge.specs.Known.{NoneFrom}
use Rattle.run_knowledge.specs.Moves.{MoveLeaves}
use Rattle.run_knowledge.specs.Kept.{IsKept}
use Rattle.run_knowledge.proofs.Names.Journal.{journal_before}
use Rattle.run_knowledge.proofs.Blocks.Used.{used_claimed}
use Rattle.run_knowledge.proofs.InRuns.Leaves.{holds_after, leaves}
use Rattle.run_knowledge.proofs.InRuns.MovesKinds.{is_inside}
use Rattle.kept_knowledge.proofs.Premises.Moves.{claims_after}

module _ {S W : Type 0} (form : NormalForm S W) (laws : Laws form) (setup : Setup) (older : List Move) (move : Move) (mech : Mech S W) (are : AreMoves form setup (move ∷ older))
    (at : slice_get (run_of form setup older).mechs move.seat ≡ Some mech) (kept : IsKept form setup older) where
  -- each used block was claimed, so it is one of the run
  pub used_after : UsedSmall (world_of form setup (move ∷ older))
  used_after block on =
      let within = (used_claimed form setup (move ∷ older) are (claims_after form laws setup older move mech are at kept) block on).within in
      let few = setup.few_blocks in
      omega (arith, within, few)

  -- an exchange of the move is of a list that was named before it, so none is of the list that the move names
  pub none_named : NoneFrom (world_of form setup (move ∷ older)) (length older) 0
  none_named other j same least took = (let below = journal_before form setup older move _ other j took.won refl in omega (arith, below, same))

  pub move_leaves : MoveLeaves form (world_of form setup older) (world_of form setup (move ∷ older)) (ghost_of form setup older).offers (ghost_of form setup (move ∷ older)).offers (begun move.begins mech) (length older)
  move_leaves =
      let inside = is_inside form laws setup older move mech are at kept in
      record {
        leaves = leaves form laws setup older move mech are at kept;
        holds = holds_after form laws setup older move mech are at kept;
        used = used_after;
        fresh = none_named;
        cap = inside.cap;
        small = inside.small;
      }
