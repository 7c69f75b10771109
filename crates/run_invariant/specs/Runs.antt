-- The laws of every run of the whole phase table, for any client with its laws.
use Rattle.std.specs.Prelude.{◌≡◌, List, ◌∷◌, slice_get, Some}
use Rattle.normal_traits.specs.NormalForm.{NormalForm}
use Rattle.normal_traits.specs.Steps.{IsStep}
use Rattle.fast_slow_engine.specs.declared.setup.Setup.{Setup}
use Rattle.fast_slow_engine.specs.Mechs.{Mech}
use Rattle.fast_slow_engine.specs.Runs.{Move, AreMoves, run_of}
use Rattle.move_kinds.specs.Kinds.{Kind}
use Rattle.run_laws.specs.Claims.{KeepsClaims}
use Rattle.run_laws.specs.Ticks.{KeepsTicks}
use Rattle.run_queue.specs.Premises.{KeepsQueue}
use Rattle.kept_knowledge.specs.RunGhosts.{ghost_of, world_of}

module _ {S W : Type 0} (form : NormalForm S W) where
  -- each move is an allowed step of the client's world
  abbrev pub MovesAllowed : Type 0
  MovesAllowed = (setup : Setup) (older : List Move) (move : Move) → AreMoves form setup (move ∷ older) → IsStep form (world_of form setup older) (world_of form setup (move ∷ older))

  -- and one of the kinds of moves, be it of a fast path, of an announced call or of a helper
  abbrev pub MovesOfKinds : Type 0
  MovesOfKinds =
      (setup : Setup) (older : List Move) (move : Move) (mech : Mech S W) → AreMoves form setup (move ∷ older) → slice_get (run_of form setup older).mechs move.seat ≡ Some mech
      → Kind form (world_of form setup older) (world_of form setup (move ∷ older)) (ghost_of form setup older).offers (ghost_of form setup (move ∷ older)).offers move.seat mech.hand

  -- nothing but a begin or a return draws a tick, and nothing but a claim changes the claim counter
  abbrev pub CountersKept : Type 0
  CountersKept = (setup : Setup) (moves : List Move) → AreMoves form setup moves → KeepsTicks form setup moves × KeepsClaims form setup moves

  -- the client's requests leave the words of the help queue, and each record can count its rounds: what the laws of the
  -- queue ask of a run
  abbrev pub QueuesKept : Type 0
  QueuesKept = (setup : Setup) (moves : List Move) → AreMoves form setup moves → KeepsQueue form setup moves
