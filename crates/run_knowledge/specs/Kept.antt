-- What holds of every run of the whole phase table, for any client with its laws: of the client's world and the blocks that
-- records have named, and of what each machine knows and tells. And the laws of one move and of all.
use Rattle.std.specs.Prelude.{◌≡◌, ℕ, ◌≤◌, true, List, ◌∷◌, length, slice_get, Option, Some, None}
use Rattle.lin_report.specs.Object.{IsCommandOf}
use Rattle.word_fields.specs.Versioned.{versioned_version}
use Rattle.node_arena.specs.declared.places.TheConstants.{TICKS, CLAIMS}
use Rattle.node_arena.specs.MemoryMap.{MayBeClients}
use Rattle.normal_traits.specs.World.{World}
use Rattle.normal_traits.specs.NormalForm.{NormalForm}
use Rattle.fast_slow_engine.specs.declared.setup.Setup.{Setup}
use Rattle.fast_slow_engine.specs.Mechs.{Mech}
use Rattle.fast_slow_engine.specs.Runs.{Move, RunState, AreMoves, run_of}
use Rattle.offered_blocks.specs.Blocks.{Offer}
use Rattle.offered_blocks.specs.Holds.{HasOffers}
use Rattle.move_kinds.specs.Contents.{HasContents}
use Rattle.move_kinds.specs.Kinds.{Kind}
use Rattle.move_kinds.specs.Owned.{AllOwned, RecordKnown}
use Rattle.helper_knowledge.specs.Callers.{Caller, called, caller_of}
use Rattle.run_laws.specs.Premises.{ClientLeaves}
use Rattle.run_laws.specs.Seats.{EachMech}
use Rattle.run_queue.specs.Premises.{ClientLeavesQueue}
use Rattle.run_world.specs.Ghosts.{Ghost, Held, SeatGhost}
use Rattle.run_world.specs.RunGhosts.{ghost_of, world_of}
use Rattle.step_knowledge.specs.Known.{KnowsIn}
use Rattle.run_knowledge.specs.Tells.{AllFollowed, ChangesBelow, CountsIn, IsAnnounced, TellsIn}

-- the call that a seat makes; of a seat that there isn't, none
abbrev pub caller_at : {S W : Type 0} → Option (Mech S W) → ℕ → Caller
caller_at None begun = record { number = 0; op = record { code = 0; key = 0; value = 0 }; begun = begun }
caller_at (Some mech) begun = caller_of (called mech) begun

-- the calls that all seats make
abbrev pub callers_in : {S W : Type 0} → RunState S W → Ghost S → ℕ → Caller
callers_in state ghost seat = caller_at (slice_get state.mechs seat) (ghost.seats seat).begun

-- the lists that all seats hold
abbrev pub held_in_seats : {S : Type 0} → Ghost S → ℕ → Option (Held S)
held_in_seats ghost seat = (ghost.seats seat).held

module _ {S W : Type 0} (form : NormalForm S W) where
  -- no version is above the number of won exchanges, so that none wraps
  abbrev pub VersionsCount : World → Type 0
  VersionsCount world = (place : ℕ) → form.is_versioned place ≡ true → MayBeClients place → versioned_version (world.words place) ≤ length world.journal

  -- each named block holds the operation and the list of its call
  abbrev pub AllContents : World → (ℕ → Option (Offer S)) → Type 0
  AllContents world offers = (block : ℕ) (offer : Offer S) → offers block ≡ Some offer → HasContents world offer

  -- what holds of a seat
  pub record KnowsWell (mech : Mech S W) (own : SeatGhost S) (world : World) (offers : ℕ → Option (Offer S)) (callers : ℕ → Caller) : Type 0 where
    -- the operation of its call is a command, also once that is over
    pub command : 1 ≤ mech.number → IsCommandOf form.object mech.op
    pub knows : KnowsIn form mech.phase mech own world offers callers
    pub tells : TellsIn form mech.phase mech own world
    pub counts : CountsIn mech.phase own
    pub early : own.begun ≤ length world.changes
    pub announced : IsAnnounced world mech own.begun
    pub below : ChangesBelow world mech
    -- where its record is of its call, that tells what is right
    pub record_tells : RecordKnown form world offers (called mech) own.begun

  -- what holds of a run
  pub record IsKept (setup : Setup) (moves : List Move) : Type 0 where
    -- the premises of the laws of ticks, claims and the help queue
    pub ticks : ClientLeaves form TICKS setup moves
    pub claims : ClientLeaves form CLAIMS setup moves
    pub queue : ClientLeavesQueue form setup moves
    -- the client's world, and the blocks that records have named
    pub holds : HasOffers form (world_of form setup moves) (ghost_of form setup moves).offers
    pub contents : AllContents (world_of form setup moves) (ghost_of form setup moves).offers
    pub owned : AllOwned form (world_of form setup moves) (ghost_of form setup moves).offers
    pub followed : AllFollowed form (world_of form setup moves) (held_in_seats (ghost_of form setup moves))
    pub versions : VersionsCount (world_of form setup moves)
    -- the seats
    pub seats : EachMech
        (λ seat mech. KnowsWell mech ((ghost_of form setup moves).seats seat) (world_of form setup moves) (ghost_of form setup moves).offers (callers_in (run_of form setup moves) (ghost_of form setup moves)))
        (run_of form setup moves).mechs

  -- ---- laws

  -- each move is one of the kinds
  abbrev pub MovesAreKinds : Type 0
  MovesAreKinds =
      (setup : Setup) (older : List Move) (move : Move) (mech : Mech S W) → AreMoves form setup (move ∷ older) → slice_get (run_of form setup older).mechs move.seat ≡ Some mech → IsKept setup older
      → Kind form (world_of form setup older) (world_of form setup (move ∷ older)) (ghost_of form setup older).offers (ghost_of form setup (move ∷ older)).offers move.seat mech.hand

  -- each move keeps it
  abbrev pub MovesKeep : Type 0
  MovesKeep = (setup : Setup) (older : List Move) (move : Move) → AreMoves form setup (move ∷ older) → IsKept setup older → IsKept setup (move ∷ older)

  -- it holds of all runs
  abbrev pub RunsAreKept : Type 0
  RunsAreKept = (setup : Setup) (moves : List Move) → AreMoves form setup moves → IsKept setup moves
