-- What holds of all blocks at every moment: of those that records have named, of those that none has, and of the
-- client's world besides.
use Rattle.std.specs.Prelude.{◌≡◌, ◌≢◌, ℕ, ◌<◌, true, false, Option, Some, None, Bool}
use Rattle.normal_traits.specs.World.{Among, Won, World, is_word}
use Rattle.normal_traits.specs.NormalForm.{NormalForm}
use Rattle.normal_traits.specs.Steps.{IsFilled}
use Rattle.cas_executor.specs.SlowRuns.{state_place}
use Rattle.offered_blocks.specs.Blocks.{Offer, HasBlocks, has_taken}

-- no record has named the block
abbrev pub IsUnnamed : {S : Type 0} → (ℕ → Option (Offer S)) → ℕ → Type 0
IsUnnamed {S} offers block = (offer : Offer S) → offers block ≢ Some offer

abbrev pub no_offers : {S : Type 0} → ℕ → Option (Offer S)
no_offers block = None

-- the states of the entries of a block that no record has named are 0: its list, when it comes, is pending
abbrev pub StatesPending : {S : Type 0} → World → (ℕ → Option (Offer S)) → Type 0
StatesPending world offers = (block j : ℕ) → 0 < block → j < 2 → IsUnnamed offers block → world.words (state_place block j) ≡ 0

-- each won exchange was made at a word of the structure, by its roots
abbrev pub JournalWords : (ℕ → Bool) → World → Type 0
JournalWords is_root world = (won : Won) → Among won world.journal → is_word is_root world won.place ≡ true

module _ {S W : Type 0} (form : NormalForm S W) where
  -- the block holds what was stored for its list
  abbrev pub FilledFor : World → Offer S → Type 0
  FilledFor world offer = IsFilled world offer.list (form.offer_of offer.offering offer.list.call.op offer.list.block).stores

  -- until its first entry took effect the block of an offered list is not used, and stays as it was filled
  abbrev pub Waits : World → Offer S → Type 0
  Waits world offer = has_taken world.journal offer.list 0 ≡ false → (world.used offer.list.block ≡ false) × FilledFor world offer

  -- the blocks that records have named, with their lists
  pub record HasOffers (world : World) (offers : ℕ → Option (Offer S)) : Type 0 where
    pub shape : form.shape world
    pub blocks : HasBlocks form world offers
    pub waits : (block : ℕ) (offer : Offer S) → offers block ≡ Some offer → Waits world offer
    pub pending : StatesPending world offers
    pub journal : JournalWords form.is_root world
