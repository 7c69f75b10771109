-- At a won exchange of a record three halves meet: what the queue has of the head, what the head's seat makes, and what
-- the record tells. And what such an exchange is, and leaves.
use Rattle.std.specs.Prelude.{◌≡◌, ◌≢◌, ℕ, ◌+◌, ◌^◌, ◌<◌, true, false, Bool, Option, Some}
use Rattle.word_fields.specs.declared.records.RecordPhase.TheVariants.{Generate}
use Rattle.word_fields.specs.Records.{record_of, record_phase, record_number, record_payload, packed_record}
use Rattle.word_fields.specs.Versioned.{versioned_version}
use Rattle.node_arena.specs.MemoryMap.{record_place}
use Rattle.normal_traits.specs.World.{Called, Listed, World, is_word}
use Rattle.normal_traits.specs.NormalForm.{NormalForm}
use Rattle.normal_traits.specs.Steps.{put_word}
use Rattle.op_record.specs.Outcomes.{outcome_of}
use Rattle.fast_slow_engine.specs.HelpWords.{is_executing, named_block}
use Rattle.offered_blocks.specs.Blocks.{Offer, IsExecuting, has_taken}
use Rattle.offered_blocks.specs.Holds.{HasOffers}
use Rattle.offered_blocks.specs.OtherSteps.{IsSpare, with_offer}
use Rattle.offered_blocks.specs.Records.{RecordIsRight, RecordTells}
use Rattle.move_kinds.specs.Kinds.{Kind}

-- of a block that is named: it is spare, no exchange was made for its list, whose identity is that of no offer, and no
-- version comes to the end of its bits
pub record IsNew {S W : Type 0} (form : NormalForm S W) (world : World) (offers : ℕ → Option (Offer S)) (block : ℕ) (offer : Offer S) : Type 0 where
  pub spare : IsSpare world offers block
  pub fresh : (j : ℕ) → has_taken world.journal offer.list j ≡ false
  pub identity : (other : ℕ) (mate : Offer S) → offers other ≡ Some mate → mate.list.identity ≢ offer.list.identity
  pub room : (place : ℕ) → is_word form.is_root world place ≡ true → form.is_versioned place ≡ true → versioned_version (world.words place) + 1 < 2 ^ 39

-- the record word that a helper loaded still stands, so its call is the one that the head's seat makes now, the record
-- tells of that call, and where it is in Generate no list is executed
pub record Meets {S W : Type 0} (form : NormalForm S W) (world : World) (offers : ℕ → Option (Offer S)) (head word : ℕ) (call : Called) (begun : ℕ) : Type 0 where
  pub small : head < 8
  pub stood : world.words (record_place head) ≡ packed_record (record_of word)
  pub seat_is : call.seat ≡ head
  pub number_is : record_number word ≡ call.number
  pub tells : RecordTells form world offers call begun (record_phase word) (record_payload word) (outcome_of (record_of word))
  pub none : record_phase word ≡ Generate → (list : Listed) → ¬ IsExecuting world list

-- the world after the exchange
abbrev pub won_world : World → ℕ → ℕ → World
won_world world head to = put_word (record_place head) to world

-- the offers after it: one more where it names a block
abbrev pub offers_if : {S : Type 0} → Bool → ℕ → Option (Offer S) → (ℕ → Option (Offer S)) → ℕ → Option (Offer S)
offers_if true block (Some offer) offers = with_offer block offer offers
offers_if _ block filled offers = offers

abbrev pub won_offers : {S : Type 0} → ℕ → Option (Offer S) → (ℕ → Option (Offer S)) → ℕ → Option (Offer S)
won_offers to filled offers = offers_if (is_executing (record_phase to)) (named_block to) filled offers

-- what a won exchange to this word is and leaves: it is one of the kinds, what holds of all blocks holds after it, and
-- the record tells what is right of the call
pub record HasWon {S W : Type 0} (form : NormalForm S W) (world : World) (offers : ℕ → Option (Offer S)) (head : ℕ) (call : Called) (begun mover : ℕ) (hand : Option ℕ) (filled : Option (Offer S)) (to : ℕ) : Type 0 where
  pub kind : Kind form world (won_world world head to) offers (won_offers to filled offers) mover hand
  pub holds : HasOffers form (won_world world head to) (won_offers to filled offers)
  pub tells : RecordIsRight form (won_world world head to) (won_offers to filled offers) call begun (record_of ((won_world world head to).words (record_place head)))
