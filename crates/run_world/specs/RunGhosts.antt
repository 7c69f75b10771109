-- What is known of a run beside what code holds, as a fold over its moves, and the client's world of it.
use Rattle.std.specs.Prelude.{ℕ, List, [], ◌∷◌, length, slice_get, Option, Some, None}
use Rattle.step_memory.specs.declared.steps.Seen.{Seen}
use Rattle.step_memory.specs.Step.{seen_of}
use Rattle.normal_traits.specs.World.{World}
use Rattle.normal_traits.specs.NormalForm.{NormalForm}
use Rattle.fast_slow_engine.specs.declared.setup.Setup.{Setup}
use Rattle.fast_slow_engine.specs.Mechs.{Mech}
use Rattle.fast_slow_engine.specs.PhaseTable.{mech_request}
use Rattle.fast_slow_engine.specs.Runs.{Move, RunState, begun, run_of}
use Rattle.run_world.specs.Ghosts.{Ghost, opening_ghost, with_seat, world_with}
use Rattle.run_world.specs.SeatSteps.{offers_after, seat_stepped}
use Rattle.run_world.specs.Worlds.{world_stepped}

module _ {S W : Type 0} (form : NormalForm S W) where
  -- after a step of a seat whose machine is this, by the world that the step leaves
  abbrev pub ghost_with : ℕ → ℕ → Mech S W → Seen → World → Ghost S → Ghost S
  ghost_with identity seat mech seen after ghost =
      record {
        changes = after.changes;
        used = after.used;
        journal = after.journal;
        seats = with_seat seat (seat_stepped form identity (length after.changes) mech seen (ghost.seats seat)) ghost.seats;
        offers = offers_after mech.phase seen (ghost.seats seat).carried.filled ghost.offers;
      }

  abbrev pub ghost_stepped : ℕ → ℕ → Mech S W → List ℕ → Ghost S → Ghost S
  ghost_stepped identity seat mech words ghost =
      ghost_with identity seat mech (seen_of (mech_request form mech) words)
      (world_stepped form mech.phase (ghost.seats seat).held ghost.offers (seen_of (mech_request form mech) words) (world_with words ghost)) ghost

  -- after a move; a list that is named by it has this identity
  abbrev pub ghost_moved : ℕ → Option (Mech S W) → Move → RunState S W → Ghost S → Ghost S
  ghost_moved identity None move state ghost = ghost
  ghost_moved identity (Some mech) move state ghost = ghost_stepped identity move.seat (begun move.begins mech) state.words ghost

  -- of a run, its newest move first; the identity of a list is how many moves were made before its naming
  abbrev pub ghost_of : Setup → List Move → Ghost S
  ghost_of setup [] = opening_ghost S
  ghost_of setup (move ∷ older) =
      ghost_moved (length older) (slice_get (run_of form setup older).mechs move.seat) move (run_of form setup older) (ghost_of setup older)

  -- the client's world of a run; the client's laws are applied to it
  abbrev pub world_of : Setup → List Move → World
  world_of setup moves = world_with (run_of form setup moves).words (ghost_of setup moves)
