-- The identities of all lists of a run: of those that seats hold, that helpers carry, and that records have named.
use Rattle.std.specs.Prelude.{◌≡◌, ℕ, ◌<◌, false, List, length, Option, Some, None}
use Rattle.normal_traits.specs.World.{Among, Listed, Won}
use Rattle.normal_traits.specs.World.Maker.{By}
use Rattle.normal_traits.specs.NormalForm.{NormalForm}
use Rattle.fast_slow_engine.specs.declared.setup.Setup.{Setup}
use Rattle.fast_slow_engine.specs.Runs.{Move}
use Rattle.offered_blocks.specs.Blocks.{Offer, has_taken}
use Rattle.run_world.specs.Ghosts.{Ghost, Held}
use Rattle.run_world.specs.RunGhosts.{ghost_of, world_of}

-- where a list is: with a seat that executes it itself, with a helper that carries it, or with its block, which a record
-- has named
pub data Keeper : Type 0 where
  holder : (seat : ℕ) → Keeper
  carrier : (seat : ℕ) → Keeper
  named : (block : ℕ) → Keeper

abbrev pub list_held : {S : Type 0} → Option (Held S) → Option Listed
list_held None = None
list_held (Some held) = Some held.list

abbrev pub list_offered : {S : Type 0} → Option (Offer S) → Option Listed
list_offered None = None
list_offered (Some offer) = Some offer.list

-- the list that is there, if there is one
abbrev pub kept_list : {S : Type 0} → Ghost S → Keeper → Option Listed
kept_list ghost (holder seat) = list_held (ghost.seats seat).held
kept_list ghost (carrier seat) = list_offered (ghost.seats seat).carried.filled
kept_list ghost (named block) = list_offered (ghost.offers block)

-- of a list with a won exchange: so many moves made its identity an old one, and a list that is kept anywhere with this
-- identity is that very list
pub record IsIdentified {S : Type 0} (count : ℕ) (ghost : Ghost S) (list : Listed) : Type 0 where
  pub below : list.identity < count
  pub own : (keeper : Keeper) (other : Listed) → kept_list ghost keeper ≡ Some other → other.identity ≡ list.identity → other ≡ list

module _ {S W : Type 0} (form : NormalForm S W) where
  -- the identity of a list that is kept is below the number of moves, so a list that is named has a new one
  abbrev pub IdentitiesBelow : Type 0
  IdentitiesBelow =
      (setup : Setup) (moves : List Move) (keeper : Keeper) (list : Listed) → kept_list (ghost_of form setup moves) keeper ≡ Some list → list.identity < length moves

  -- no two lists have one identity
  abbrev pub IdentitiesDiffer : Type 0
  IdentitiesDiffer =
      (setup : Setup) (moves : List Move) (keeper other : Keeper) (list mate : Listed) → kept_list (ghost_of form setup moves) keeper ≡ Some list → kept_list (ghost_of form setup moves) other ≡ Some mate
      → list.identity ≡ mate.identity → keeper ≡ other

  -- the journal knows no list that was not named, and each by its identity
  abbrev pub JournalIdentities : Type 0
  JournalIdentities =
      (setup : Setup) (moves : List Move) (won : Won) (list : Listed) (j : ℕ) → Among won (world_of form setup moves).journal → won.maker ≡ By list j
      → IsIdentified (length moves) (ghost_of form setup moves) list

  -- no exchange was made for a list that a helper carries
  abbrev pub CarriedFresh : Type 0
  CarriedFresh =
      (setup : Setup) (moves : List Move) (seat : ℕ) (offer : Offer S) (j : ℕ) → ((ghost_of form setup moves).seats seat).carried.filled ≡ Some offer
      → has_taken (world_of form setup moves).journal offer.list j ≡ false
