-- What a move leaves in a run of which the invariant holds: it is an allowed step of the client, what holds of all blocks holds
-- after it, and all that others may rest on.
use Rattle.std.proofs.Common.{◌≡◌, ℕ, List, ◌∷◌, slice_get, Option, Some, None}
use Rattle.normal_traits.specs.World.{World}
use Rattle.normal_traits.specs.NormalForm.{NormalForm}
use Rattle.normal_traits.specs.Steps.{IsStep}
use Rattle.normal_traits.specs.Laws.{Laws}
use Rattle.fast_slow_engine.specs.declared.setup.Setup.{Setup}
use Rattle.fast_slow_engine.specs.Mechs.{Mech}
use Rattle.fast_slow_engine.specs.Runs.{AreMoves, Move, run_of}
use Rattle.offered_blocks.specs.Blocks.{Offer}
use Rattle.offered_blocks.specs.Holds.{HasOffers}
use Rattle.move_kinds.specs.Kinds.{Kind}
use Rattle.move_kinds.specs.Moves.{Leaves}
use Rattle.move_kinds.proofs.KindsLeave.{kind_leaves}
use Rattle.move_kinds.proofs.LawsOfKinds.{kinds_keep_blocks}
use Rattle.run_world.specs.RunGhosts.{ghost_of, world_of}
use Rattle.run_knowledge.specs.Kept.{IsKept}
use Rattle.run_knowledge.proofs.InRuns.MovesKinds.{moves_are_kinds}

none_in : {A : Type 0} (block : ℕ) → None ≡ Some block → A
none_in block e = absurd cc

module _ {S W : Type 0} (form : NormalForm S W) (laws : Laws form) (setup : Setup) (older : List Move) (move : Move) (mech : Mech S W) (are : AreMoves form setup (move ∷ older))
    (at : slice_get (run_of form setup older).mechs move.seat ≡ Some mech) (kept : IsKept form setup older) where
  abbrev world : World
  world = world_of form setup older

  abbrev after : World
  after = world_of form setup (move ∷ older)

  abbrev offers : ℕ → Option (Offer S)
  offers = (ghost_of form setup older).offers

  abbrev offers' : ℕ → Option (Offer S)
  offers' = (ghost_of form setup (move ∷ older)).offers

  pub kind : Kind form world after offers offers' move.seat mech.hand
  kind = moves_are_kinds form laws setup older move mech are at kept

  pub allowed : IsStep form world after
  allowed = (kinds_keep_blocks form laws world after offers offers' move.seat mech.hand kept.holds kind).0

  -- what holds of all blocks holds after the move
  pub holds_after : HasOffers form after offers'
  holds_after = (kinds_keep_blocks form laws world after offers offers' move.seat mech.hand kept.holds kind).1

  pub leaves : Leaves form world after offers offers' None
  leaves = kind_leaves form laws world after offers offers' kept.holds move.seat mech.hand kind None (λ block e. none_in block e) (λ block e. none_in block e)
