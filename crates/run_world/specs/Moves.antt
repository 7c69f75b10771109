-- What a move does to the client's world of a run.
use Rattle.std.specs.Prelude.{◌≡◌, ◌≢◌, ℕ, ◌<◌, ◌≤◌, List, [], ◌∷◌, length, slice_get, Some}
use Rattle.step_memory.specs.declared.steps.Request.{Request}
use Rattle.step_memory.specs.Step.{requested_place, word_after}
use Rattle.normal_traits.specs.NormalForm.{NormalForm}
use Rattle.normal_traits.specs.Steps.{with_word}
use Rattle.normal_traits.specs.Laws.{opening_world}
use Rattle.fast_slow_engine.specs.declared.setup.Setup.{Setup}
use Rattle.fast_slow_engine.specs.Mechs.{Mech}
use Rattle.fast_slow_engine.specs.PhaseTable.{mech_request}
use Rattle.fast_slow_engine.specs.Runs.{Move, begun, run_of}
use Rattle.move_kinds.specs.Moves.{Grows}
use Rattle.run_world.specs.RunGhosts.{ghost_of, world_of}

-- a request on so many words leaves these words of those: at its place stands what it leaves there, and a
-- request that leaves the word as it was, or is past the end, changes nothing
pub record WordsMove (request : Request) (count : ℕ) (before after : ℕ → ℕ) : Type 0 where
  pub written : requested_place request < count → after ≡ with_word (requested_place request) (word_after request (before (requested_place request))) before
  pub kept : word_after request (before (requested_place request)) ≡ before (requested_place request) → after ≡ before
  pub past : count ≤ requested_place request → after ≡ before

module _ {S W : Type 0} (form : NormalForm S W) where
  -- the words of the world after a move are those that its request leaves
  abbrev pub WorldWords : Type 0
  WorldWords =
      (setup : Setup) (older : List Move) (move : Move) (mech : Mech S W) → slice_get (run_of form setup older).mechs move.seat ≡ Some mech
      → WordsMove (mech_request form (begun move.begins mech)) (length (run_of form setup older).words)
      (world_of form setup older).words (world_of form setup (move ∷ older)).words

  -- what is known of a run only grows
  abbrev pub WorldGrows : Type 0
  WorldGrows = (setup : Setup) (older : List Move) (move : Move) → Grows (world_of form setup older) (world_of form setup (move ∷ older))

  -- what is known of a seat stays where another seat moves
  abbrev pub OthersStay : Type 0
  OthersStay =
      (setup : Setup) (older : List Move) (move : Move) (seat : ℕ) → seat ≢ move.seat
      → (ghost_of form setup (move ∷ older)).seats seat ≡ (ghost_of form setup older).seats seat

  -- the world of a run that made no move is the client's opening world
  abbrev pub WorldOpens : Type 0
  WorldOpens = (setup : Setup) → world_of form setup [] ≡ opening_world form
