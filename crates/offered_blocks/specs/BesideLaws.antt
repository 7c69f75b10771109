-- Which steps are exchanges beside the offered lists: those of searches and wrap-ups, and entries of other lists.
use Rattle.std.specs.Prelude.{◌≡◌, ◌≢◌, ℕ, ◌+◌, ◌⊎◌, Bool, true, slice_get, Option, Some}
use Rattle.step_memory.specs.declared.steps.Request.{Request}
use Rattle.step_memory.specs.declared.steps.Seen.{Seen}
use Rattle.word_fields.specs.Versioned.{versioned_version}
use Rattle.normal_traits.specs.declared.lists.Entry.{Entry}
use Rattle.normal_traits.specs.World.{Listed, World}
use Rattle.normal_traits.specs.World.Maker.{By, Beside}
use Rattle.normal_traits.specs.NormalForm.{NormalForm}
use Rattle.normal_traits.specs.Steps.{IsOffered, IsStep, Requested, exchanged, listed_if}
use Rattle.normal_traits.specs.Laws.{AsksWell}
use Rattle.offered_blocks.specs.Blocks.{Offer}
use Rattle.offered_blocks.specs.Holds.{IsUnnamed}
use Rattle.offered_blocks.specs.OtherSteps.{IsExchange}

module _ {S W : Type 0} (form : NormalForm S W) where
  -- a request of a search or a wrap-up leaves the world as it is, or is one
  abbrev pub RequestsBeside : Type 0
  RequestsBeside =
      (world after : World) (offers : ℕ → Option (Offer S)) (request : Request) (seen : Seen) → AsksWell form world request → Requested form request world after seen → IsStep form world after
      → (after ≡ world) ⊎ ((entry : Entry) × IsExchange form world after offers Beside (form.adds_beside world entry) entry)

  -- the world in which entry j of a list took effect with its bit clear, and these blocks are used
  abbrev pub list_entered : World → Listed → ℕ → Entry → (ℕ → Bool) → World
  list_entered world list j entry used =
      let after = exchanged form (By list j) (listed_if (form.adds list j) list) entry entry.to world in record { words = after.words; changes = after.changes; used = used; journal = after.journal }

  -- an entry of a list that no record has named is one
  abbrev pub EntriesBeside : Type 0
  EntriesBeside =
      (world : World) (offers : ℕ → Option (Offer S)) (list : Listed) (search : S) (since j : ℕ) (entry : Entry) (used : ℕ → Bool) → form.shape world → IsOffered form world list search since
      → ((block : ℕ) (offer : Offer S) → offers block ≡ Some offer → list.identity ≢ offer.list.identity)
      → ((block : ℕ) → world.used block ≡ true → used block ≡ true) → ((block : ℕ) → used block ≡ true → (world.used block ≡ true) ⊎ IsUnnamed offers block)
      → slice_get list.entries j ≡ Some entry → world.words entry.target ≡ entry.from → versioned_version entry.to ≡ versioned_version entry.from + 1
      → IsStep form world (list_entered world list j entry used) → IsExchange form world (list_entered world list j entry used) offers (By list j) (listed_if (form.adds list j) list) entry
