-- What holds of an offered block holds after any step that is a deed of it.
use Rattle.std.proofs.Common.{◌≡◌, ℕ, true, ◌⊎◌, inl, inr}
use Rattle.normal_traits.specs.World.{World, Took, is_word}
use Rattle.normal_traits.specs.NormalForm.{NormalForm}
use Rattle.normal_traits.specs.Steps.{IsStep}
use Rattle.normal_traits.specs.Laws.{Laws}
use Rattle.cas_executor_laws.specs.Parts.{Deed, KnowsStop}
use Rattle.cas_executor_laws.proofs.OfferedPartsKept.{offered_kept, stop_kept}
use Rattle.offered_blocks.specs.Blocks.{Offer, site_of, has_taken, IsOffer, IsExecuting}

module _ {S W : Type 0} (form : NormalForm S W) (laws : Laws form) (world after : World) (shape : form.shape world) (step : IsStep form world after)
    (words : (place : ℕ) → is_word form.is_root world place ≡ true → is_word form.is_root after place ≡ true) (block : ℕ) (offer : Offer S) (is : IsOffer form world block offer)
    (deed : Deed (site_of offer) world.words (has_taken world.journal offer.list) after.words (has_taken after.journal offer.list))
    (taken : (j : ℕ) → has_taken after.journal offer.list j ≡ true → Took after offer.list j) where
  -- a list that has stopped has stopped there
  stopped_still : (stop : ℕ) × KnowsStop (site_of offer) world.words (has_taken world.journal offer.list) stop
      → (stop : ℕ) × KnowsStop (site_of offer) after.words (has_taken after.journal offer.list) stop
  stopped_still s = (s.0, stop_kept (site_of offer) is.site world.words (has_taken world.journal offer.list) after.words (has_taken after.journal offer.list) deed is.parts.lives s.0 s.1)

  -- the record still names the block, or the list has stopped by the step that took it away
  pub offer_kept : (IsExecuting world offer.list → IsExecuting after offer.list ⊎ ((stop : ℕ) × KnowsStop (site_of offer) world.words (has_taken world.journal offer.list) stop)) → IsOffer form after block offer
  offer_kept named = record {
    block_is = is.block_is;
    some = is.some;
    offered = record {
      command = is.offered.command;
      knows = laws.knows_kept world after offer.offering offer.list.call.op offer.since is.offered.command shape is.offered.knows step;
      ready = is.offered.ready;
      small = is.offered.small;
      entries = is.offered.entries;
    };
    site = is.site;
    targets = λ j entry listed. (let at = is.targets j entry listed in (words entry.target at.0, at.1, at.2));
    taken = taken;
    parts = offered_kept (site_of offer) is.site world.words (has_taken world.journal offer.list) after.words (has_taken after.journal offer.list) deed is.parts;
    settled = elim is.settled [
      | inl executing ↦ elim (named executing) [ inl still ↦ inl still | inr stopped ↦ inr (stopped_still stopped) ]
      | inr stopped ↦ inr (stopped_still stopped)
    ];
  }
