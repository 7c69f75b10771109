-- The offer of a block for the call in a record, and where its list has stopped.
use Rattle.std.specs.Prelude.{◌≡◌, ℕ, Option, Some}
use Rattle.normal_traits.specs.World.{World}
use Rattle.cas_executor_laws.specs.Parts.{KnowsStop}
use Rattle.offered_blocks.specs.Blocks.{Offer, has_taken, site_of}

-- the offer of this block, which is for this call of this seat
pub record IsOfferFor {S : Type 0} (offers : ℕ → Option (Offer S)) (block seat number : ℕ) (offer : Offer S) : Type 0 where
  pub stands : offers block ≡ Some offer
  pub seat_is : offer.list.call.seat ≡ seat
  pub number_is : offer.list.call.number ≡ number

-- the list of an offer has stopped there, as whoever executes it finds
abbrev pub ListStopsAt : {S : Type 0} → World → Offer S → ℕ → Type 0
ListStopsAt world offer stop = KnowsStop (site_of offer) world.words (has_taken world.journal offer.list) stop
