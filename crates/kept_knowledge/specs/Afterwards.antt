-- What is so after each move of a run of which the invariant holds: parts of the invariant, each by itself.
use Rattle.std.specs.Prelude.{List, [], ◌∷◌}
use Rattle.normal_traits.specs.NormalForm.{NormalForm}
use Rattle.fast_slow_engine.specs.declared.setup.Setup.{Setup}
use Rattle.fast_slow_engine.specs.Runs.{Move, AreMoves, run_of}
use Rattle.run_laws.specs.Claims.{KeepsClaims}
use Rattle.run_laws.specs.Seats.{EachMech}
use Rattle.run_laws.specs.Ticks.{KeepsTicks}
use Rattle.run_queue.specs.Premises.{KeepsQueue}
use Rattle.run_knowledge.specs.RunGhosts.{ghost_of, world_of}
use Rattle.run_knowledge.specs.Known.{KnowsIn}
use Rattle.run_knowledge.specs.Kept.{AllContents, IsKept, VersionsCount, callers_in}

module _ {S W : Type 0} (form : NormalForm S W) where
  -- this holds after each move that can come next in a run of which the invariant holds: the form of the laws below
  abbrev pub AfterMoves : (Setup → List Move → Type 0) → Type 0
  AfterMoves Holds = (setup : Setup) (older : List Move) (move : Move) → AreMoves form setup (move ∷ older) → IsKept form setup older → Holds setup (move ∷ older)

  -- the invariant holds where a run opens
  abbrev pub OpeningsKept : Type 0
  OpeningsKept = (setup : Setup) → IsKept form setup []

  -- what the laws of ticks, of claims and of the help queue ask of a run
  abbrev pub PremisesKept : Type 0
  PremisesKept = AfterMoves (λ setup moves. KeepsTicks form setup moves × KeepsClaims form setup moves × KeepsQueue form setup moves)

  -- each named block holds the operation and the list of its call
  abbrev pub ContentsKept : Type 0
  ContentsKept = AfterMoves (λ setup moves. AllContents form (world_of form setup moves) (ghost_of form setup moves).offers)

  -- no version is above the number of won exchanges
  abbrev pub VersionsKept : Type 0
  VersionsKept = AfterMoves (λ setup moves. VersionsCount form (world_of form setup moves))

  -- each machine, the one that moved and all others, knows what it must in its phase
  abbrev pub MachinesKnow : Type 0
  MachinesKnow =
      AfterMoves
      (λ setup moves. EachMech
      (λ seat mech. KnowsIn form mech.phase mech ((ghost_of form setup moves).seats seat) (world_of form setup moves) (ghost_of form setup moves).offers (callers_in (run_of form setup moves) (ghost_of form setup moves)))
      (run_of form setup moves).mechs)
