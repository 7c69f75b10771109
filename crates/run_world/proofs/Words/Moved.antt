-- What is known after a move of a seat, and the world after it.
use Rattle.std.proofs.Common.{◌≡◌, ◌≢◌, ◌∙◌, sym, ap, ℕ, ◌==◌, if◌then◌else◌, true, false, List, ◌∷◌, length, slice_get, slice_index, Option, Some, arith}
use Rattle.std.proofs.lemmas.Bool.Decides.{nat_tests}
use Rattle.step_memory.specs.declared.steps.Seen.{Seen}
use Rattle.step_memory.specs.Step.{seen_of, words_after}
use Rattle.normal_traits.specs.World.{World}
use Rattle.normal_traits.specs.NormalForm.{NormalForm}
use Rattle.fast_slow_engine.specs.declared.setup.Setup.{Setup}
use Rattle.fast_slow_engine.specs.Mechs.{Mech}
use Rattle.fast_slow_engine.specs.PhaseTable.{mech_request}
use Rattle.fast_slow_engine.specs.Runs.{Move, RunState, begun, run_of}
use Rattle.offered_blocks.specs.Blocks.{Offer}
use Rattle.run_laws.proofs.Steps.{move_steps}
use Rattle.run_world.specs.Ghosts.{Ghost, Held, SeatGhost, with_seat, world_with}
use Rattle.run_world.specs.SeatSteps.{offers_after, seat_stepped}
use Rattle.run_world.specs.Worlds.{world_stepped}
use Rattle.run_world.specs.RunGhosts.{ghost_moved, ghost_of, ghost_stepped, world_of}

-- a world with the words of a list
abbrev pub with_list : List ℕ → World → World
with_list words world = record { words = λ place. slice_index words place; changes = world.changes; used = world.used; journal = world.journal }

-- the others at a seat that is not this one
pub other_seat : {S : Type 0} (seat : ℕ) (own : SeatGhost S) (seats : ℕ → SeatGhost S) (at : ℕ) → at ≢ seat → with_seat seat own seats at ≡ seats at
other_seat seat own seats at apart =
    let test : (at == seat) ≡ false = grind (arith, nat_tests) in
    ap (λ b. if b then own else seats at) test

pub own_seat : {S : Type 0} (seat : ℕ) (own : SeatGhost S) (seats : ℕ → SeatGhost S) → with_seat seat own seats seat ≡ own
own_seat seat own seats =
    let test : (seat == seat) ≡ true = grind (arith, nat_tests) in
    ap (λ b. if b then own else seats seat) test

module _ {S W : Type 0} (form : NormalForm S W) where
  -- what is known after a move of a seat
  pub ghost_moves : (identity : ℕ) (move : Move) (state : RunState S W) (ghost : Ghost S) (mech : Mech S W) → slice_get state.mechs move.seat ≡ Some mech
      → ghost_moved form identity (slice_get state.mechs move.seat) move state ghost ≡ ghost_stepped form identity move.seat (begun move.begins mech) state.words ghost
  ghost_moves identity move state ghost mech at = ap (λ o. ghost_moved form identity o move state ghost) at

  -- the world after a step of a machine, with its words
  abbrev pub world_made : Mech S W → Option (Held S) → (ℕ → Option (Offer S)) → List ℕ → World → World
  world_made mech held offers words world =
      with_list (words_after (mech_request form mech) words) (world_stepped form mech.phase held offers (seen_of (mech_request form mech) words) world)

  -- what a move asks, and what that sees
  abbrev pub seen_by : Setup → List Move → Move → Mech S W → Seen
  seen_by setup older move mech = seen_of (mech_request form (begun move.begins mech)) (run_of form setup older).words

  -- what is known of its seat after a move of this machine
  abbrev pub seat_after : Setup → List Move → Move → Mech S W → SeatGhost S
  seat_after setup older move mech =
      let one = begun move.begins mech in
      let seen = seen_by setup older move mech in
      let ghost = ghost_of form setup older in
      seat_stepped form (length older) (length (world_stepped form one.phase (ghost.seats move.seat).held ghost.offers seen (world_of form setup older)).changes) one seen (ghost.seats move.seat)

  module _ (setup : Setup) (older : List Move) (move : Move) (mech : Mech S W) (at : slice_get (run_of form setup older).mechs move.seat ≡ Some mech) where
    -- what is known after the move is that after the step of its machine
    pub made_ghost : ghost_of form setup (move ∷ older) ≡ ghost_stepped form (length older) move.seat (begun move.begins mech) (run_of form setup older).words (ghost_of form setup older)
    made_ghost = ghost_moves (length older) move (run_of form setup older) (ghost_of form setup older) mech at

    -- and so is the world
    pub made_moved : world_made (begun move.begins mech) ((ghost_of form setup older).seats move.seat).held (ghost_of form setup older).offers (run_of form setup older).words (world_of form setup older)
        ≡ world_of form setup (move ∷ older)
    made_moved =
        ap (λ (s : RunState S W). world_with s.words (ghost_stepped form (length older) move.seat (begun move.begins mech) (run_of form setup older).words (ghost_of form setup older)))
        (sym (move_steps form (run_of form setup older) move mech at))
        ∙ ap (λ (g : Ghost S). world_with (run_of form setup (move ∷ older)).words g) (sym made_ghost)

    -- what is known of the seat that moves
    pub made_seat : (ghost_of form setup (move ∷ older)).seats move.seat ≡ seat_after setup older move mech
    made_seat = ap (λ (g : Ghost S). g.seats move.seat) made_ghost ∙ own_seat move.seat _ (ghost_of form setup older).seats

    -- and of the blocks that records have named
    pub made_offers : (ghost_of form setup (move ∷ older)).offers
        ≡ offers_after (begun move.begins mech).phase (seen_by setup older move mech) ((ghost_of form setup older).seats move.seat).carried.filled (ghost_of form setup older).offers
    made_offers = ap (λ (g : Ghost S). g.offers) made_ghost
