-- What there is of a run beside what code holds: the changes, the won exchanges, the used blocks, the lists that seats
-- hold or carry, and the lists that records have named.
use Rattle.std.specs.Prelude.{ℕ, ◌==◌, ◌&&◌, nat_lt, if◌then◌else◌, Bool, List, [], slice_index, Option, Some, None}
use Rattle.normal_traits.specs.World.{Listed, Change, Won, World}
use Rattle.cas_executor.specs.declared.fast_run.Execution.{Execution}
use Rattle.cas_executor.specs.declared.fast_run.Execution.TheVariants.{Running, Stopped}
use Rattle.offered_blocks.specs.Blocks.{Offer}
use Rattle.offered_blocks.specs.Holds.{no_offers}
use Rattle.helper_knowledge.specs.Carried.{Carried}

-- the list that a seat executes itself, which it holds from its naming to the end of its wrap-up, with the search that
-- offered it, how many changes there were when that search began, and the place at which the list stopped, 0 until it did
pub record Held (S : Type 0) : Type 0 where
  pub list : Listed
  pub offering : S
  pub since : ℕ
  pub stop : ℕ

-- of one seat: how many changes there were when its begin tick was drawn, the list that it holds, and what it carries as
-- a helper. What is carried also has how many changes there were when the seat's present search began, be it for its own
-- call or for that of a head
pub record SeatGhost (S : Type 0) : Type 0 where
  pub begun : ℕ
  pub held : Option (Held S)
  pub carried : Carried S

-- of a run: the changes and the won exchanges, the newest first, the used blocks, what is known of each seat, and by
-- block the lists that records have named
pub record Ghost (S : Type 0) : Type 0 where
  pub changes : List Change
  pub used : ℕ → Bool
  pub journal : List Won
  pub seats : ℕ → SeatGhost S
  pub offers : ℕ → Option (Offer S)

-- the client's world of these words and what is known beside them
abbrev pub world_with : {S : Type 0} → List ℕ → Ghost S → World
world_with words ghost = record { words = λ place. slice_index words place; changes = ghost.changes; used = ghost.used; journal = ghost.journal }

-- of a seat that made no call
abbrev pub opening_seat : (S : Type 0) → SeatGhost S
opening_seat S = record { begun = 0; held = None; carried = record { since = 0; filled = None } }

-- nothing was changed yet, block 0 alone is used, and no record has named a block; the world with it is the client's
-- opening world
abbrev pub opening_ghost : (S : Type 0) → Ghost S
opening_ghost S = record { changes = []; used = λ block. block == 0; journal = []; seats = λ seat. opening_seat S; offers = no_offers }

-- what is known of the seats, with another at one seat
abbrev pub with_seat : {S : Type 0} → ℕ → SeatGhost S → (ℕ → SeatGhost S) → ℕ → SeatGhost S
with_seat seat own seats at = if at == seat then own else seats at

-- a list with its search, as a seat holds it that executes it itself
abbrev pub held_of : {S : Type 0} → Offer S → ℕ → Held S
held_of offer stop = record { list = offer.list; offering = offer.offering; since = offer.since; stop = stop }

-- where the list stopped, if it did
abbrev pub stopped_at : {S : Type 0} → Execution → Held S → Held S
stopped_at Running held = held
stopped_at (Stopped stop) held = record { list = held.list; offering = held.offering; since = held.since; stop = stop }

abbrev pub stopped_in : {S : Type 0} → Execution → Option (Held S) → Option (Held S)
stopped_in execution None = None
stopped_in execution (Some held) = Some (stopped_at execution held)

-- from the first entry of a list on its block is used, where it has one
abbrev pub uses_block : Listed → ℕ → Bool
uses_block list j = j == 0 && nat_lt 0 list.block
