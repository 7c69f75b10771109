-- All that holds of offered blocks holds after any other step: one that is a deed of each, sets no bit, and leaves
-- which lists are executed.
use Rattle.std.proofs.Common.{◌≡◌, ◌∙◌, sym, ap, ℕ, true, inl, Option, Some}
use Rattle.word_fields.specs.Versioned.{versioned_bit}
use Rattle.normal_traits.specs.World.{Listed, World, Took, is_word}
use Rattle.normal_traits.specs.NormalForm.{NormalForm}
use Rattle.normal_traits.specs.Steps.{IsStep}
use Rattle.normal_traits.specs.Laws.{Laws}
use Rattle.cas_executor_laws.specs.Parts.{Deed}
use Rattle.offered_blocks.specs.Blocks.{Offer, site_of, has_taken, IsBit, HasBlocks, MayBeMarked, IsExecuting, JournalRises}
use Rattle.offered_blocks.proofs.Blocks.Kept.{offer_kept}

module _ {S W : Type 0} (form : NormalForm S W) (laws : Laws form) (world after : World) (shape : form.shape world) (step : IsStep form world after)
    (words : (place : ℕ) → is_word form.is_root world place ≡ true → is_word form.is_root after place ≡ true)
    (offers : ℕ → Option (Offer S)) (blocks : HasBlocks form world offers)
    (deeds : (block : ℕ) (offer : Offer S) → offers block ≡ Some offer → Deed (site_of offer) world.words (has_taken world.journal offer.list) after.words (has_taken after.journal offer.list))
    (taken : (block : ℕ) (offer : Offer S) → offers block ≡ Some offer → (j : ℕ) → has_taken after.journal offer.list j ≡ true → Took after offer.list j)
    (executes : (list : Listed) → IsExecuting world list → IsExecuting after list) (executed : (list : Listed) → IsExecuting after list → IsExecuting world list)
    (grows : (list : Listed) (j : ℕ) → has_taken world.journal list j ≡ true → has_taken after.journal list j ≡ true)
    (no_new : (place : ℕ) → MayBeMarked form place → versioned_bit (after.words place) ≡ 1 → after.words place ≡ world.words place) where
  bit_after : (place : ℕ) → after.words place ≡ world.words place → IsBit form world offers place → IsBit form after offers place
  bit_after place same is = record {
    block = is.block;
    offer = is.offer;
    j = is.j;
    entry = is.entry;
    stands = is.stands;
    listed = is.listed;
    here = is.here;
    shows = same ∙ is.shows;
    executing = executes is.offer.list is.executing;
    took = grows is.offer.list is.j is.took;
  }

  pub others_kept : JournalRises after → HasBlocks form after offers
  others_kept rises = record {
    offered = λ block offer stands.
        offer_kept form laws world after shape step words block offer (blocks.offered block offer stands) (deeds block offer stands) (taken block offer stands) (λ is. inl (executes offer.list is));
    apart = blocks.apart;
    one = λ list other is is'. blocks.one list other (executed list is) (executed other is');
    bits = λ place may bit. (let same = no_new place may bit in bit_after place same (blocks.bits place may (ap versioned_bit (sym same) ∙ bit)));
    journal = rises;
  }
