-- What a move leaves of a client's world, whoever makes it.
use Rattle.std.specs.Prelude.{◌≡◌, ◌≢◌, ℕ, ◌+◌, ◌<◌, ◌++◌, true, List, Option, Some}
use Rattle.node_arena.specs.declared.places.TheConstants.{STATE_FIELD}
use Rattle.node_arena.specs.MemoryMap.{block_place}
use Rattle.normal_traits.specs.World.{Change, Won, World}
use Rattle.normal_traits.specs.NormalForm.{NormalForm}
use Rattle.normal_traits.specs.Steps.{IsStep}
use Rattle.cas_executor_laws.specs.Parts.{Deed}
use Rattle.offered_blocks.specs.Blocks.{Offer, has_taken, site_of}

-- changes and won exchanges have but come in front, and used blocks are used still
pub record Grows (before after : World) : Type 0 where
  pub changes : (newer : List Change) × (after.changes ≡ newer ++ before.changes)
  pub journal : (newer : List Won) × (after.journal ≡ newer ++ before.journal)
  pub used : (block : ℕ) → before.used block ≡ true → after.used block ≡ true

-- the words of a block are the same in both worlds: so it is with the block in hand, whatever others do
abbrev pub BlockStays : ℕ → World → World → Type 0
BlockStays block world after = (field : ℕ) → field < 32 → after.words (block_place block field) ≡ world.words (block_place block field)

-- the notes of a block and the entries of its list are the same; the states of the entries may differ. So it is with
-- a block that a record has named
abbrev pub NotesStay : ℕ → World → World → Type 0
NotesStay block world after =
    (field : ℕ) → field < 12 → field ≢ STATE_FIELD → field ≢ STATE_FIELD + 1 → after.words (block_place block field) ≡ world.words (block_place block field)

-- what a move leaves to a helper that has this block in hand: it is an allowed step by which what is known grows, the
-- offers that stood stand, their blocks go on as blocks do, and the block in hand stays
pub record Leaves {S W : Type 0} (form : NormalForm S W) (world after : World) (offers offers' : ℕ → Option (Offer S)) (hand : Option ℕ) : Type 0 where
  pub step : IsStep form world after
  pub grows : Grows world after
  pub offered : (block : ℕ) (offer : Offer S) → offers block ≡ Some offer → offers' block ≡ Some offer
  pub deeds : (block : ℕ) (offer : Offer S) → offers block ≡ Some offer → Deed (site_of offer) world.words (has_taken world.journal offer.list) after.words (has_taken after.journal offer.list)
  pub notes : (block : ℕ) (offer : Offer S) → offers block ≡ Some offer → NotesStay block world after
  pub hand_stays : (block : ℕ) → hand ≡ Some block → BlockStays block world after
