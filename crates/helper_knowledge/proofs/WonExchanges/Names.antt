-- A won exchange by which a record names the block in hand: the block may be named, and the record tells of it.
use Rattle.std.proofs.Common.{◌≡◌, ◌∙◌, refl, sym, subst, ap, ℕ, ◌<◌, ◌^◌, List, length, Option, arith}
use Rattle.word_fields.specs.declared.records.RecordPhase.{RecordPhase as Mark}
use Rattle.word_fields.specs.declared.records.RecordPhase.TheVariants.{Generate, Executing}
use Rattle.word_fields.specs.Payloads.{payload_block}
use Rattle.word_fields.specs.Records.{record_of, record_number, record_round, record_payload, record_phase, number_below, round_below}
use Rattle.word_fields.proofs.RecordWords.{phase-word, number-word, payload-word}
use Rattle.word_fields.proofs.PayloadParts.{block-payload}
use Rattle.node_arena.specs.MemoryMap.{record_place}
use Rattle.normal_traits.specs.World.{Called, World}
use Rattle.normal_traits.specs.NormalForm.{NormalForm}
use Rattle.normal_traits.specs.Laws.{Laws}
use Rattle.op_record.specs.Outcomes.{outcome_of}
use Rattle.fast_slow_engine.specs.HelpWords.{executing_word}
use Rattle.offered_blocks.specs.Blocks.{Offer}
use Rattle.offered_blocks.specs.Holds.{HasOffers}
use Rattle.offered_blocks.specs.OtherSteps.{CanName, with_offer}
use Rattle.offered_blocks.specs.Records.{MadeNone, RecordIsRight, RecordTells}
use Rattle.offered_blocks.proofs.Records.Naming.{with_here}
use Rattle.offered_blocks.proofs.Records.Puts.{put, put_there}
use Rattle.offered_blocks.proofs.Records.RecordSteps.{offers_right}
use Rattle.helper_knowledge.specs.Callers.{caller_of}
use Rattle.helper_knowledge.specs.Knowing.{KnowsOffer}
use Rattle.helper_knowledge.specs.Meetings.{IsNew, Meets}
use Rattle.helper_knowledge.proofs.Offers.Filled.{filled_now}

module _ {S W : Type 0} (form : NormalForm S W) (laws : Laws form) (world : World) (offers : ℕ → Option (Offer S)) (holds : HasOffers form world offers)
    (head word : ℕ) (call : Called) (begun : ℕ) (m : Meets form world offers head word call begun)
    (generates : record_phase word ≡ Generate) (block : ℕ) (stores : List (ℕ × ℕ)) (offer : Offer S)
    (knows : KnowsOffer form world (caller_of call begun) head word block stores (length stores) offer) (new : IsNew form world offers block offer) where
  abbrev to : ℕ
  to = executing_word word block

  abbrev after : World
  after = put form laws world offers holds head to m.small

  abbrev offers' : ℕ → Option (Offer S)
  offers' = with_offer block offer offers

  pub block_small : block < 2 ^ 17
  block_small = subst (λ b. b < 2 ^ 17) knows.block_is knows.offered.small

  there : after.words (record_place head) ≡ to
  there = put_there form laws world offers holds head to m.small

  pub payload_is : payload_block (record_payload to) ≡ block
  payload_is =
      let small = block_small in
      ap payload_block (payload-word Executing (record_number word) (record_round word) block (number_below word) (round_below word) (omega (arith, small))) ∙ block-payload block block_small

  pub can_name : CanName form world offers block offer to
  can_name = record {
    spare = new.spare;
    block_is = knows.block_is;
    seated = (let seat = knows.seat_is in let few = m.small in omega (arith, seat, few));
    offered = knows.offered;
    filled = filled_now form world (caller_of call begun) head word block stores offer knows;
    identity = new.identity;
    fresh = new.fresh;
    room = new.room;
    none = m.none generates;
    phase = phase-word Executing (record_number word) (record_round word) block;
    number = number-word Executing (record_number word) (record_round word) block (number_below word) ∙ sym knows.number_is;
    named = payload_is;
  }

  -- the list is of the call that the head's seat makes
  call_is : offer.list.call ≡ call
  call_is =
      let seat : offer.list.call.seat ≡ call.seat = knows.seat_is ∙ sym m.seat_is in
      let number : offer.list.call.number ≡ call.number = knows.number_is ∙ m.number_is in
      let op : offer.list.call.op ≡ call.op = knows.op_is (sym m.number_is) in
      λ i. record { seat = seat i; number = number i; op = op i }

  -- the call made no change so far, and only this list may make one
  made_none : MadeNone world call
  made_none = subst (λ (p : Mark). RecordTells form world offers call begun p (record_payload word) (outcome_of (record_of word))) generates m.tells

  pub names_tells : RecordIsRight form after offers' call begun (record_of (after.words (record_place head)))
  names_tells =
      subst (λ w. RecordIsRight form after offers' call begun (record_of w)) (sym there)
      (offers_right form laws after offers' call begun
      (record_number word) (record_round word) block offer (number_below word) (round_below word) block_small (with_here block block offer offers refl) call_is made_none)
