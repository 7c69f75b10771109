-- What a helper knows of a search, of its answer, and of a block that it fills, for the call in a record word that it
-- has loaded.
use Rattle.std.specs.Prelude.{◌≡◌, ℕ, ◌<◌, ◌≤◌, List, slice_get, Some}
use Rattle.lin_report.specs.declared.calls.Op.{Op}
use Rattle.lin_report.specs.declared.calls.Outcome.{Outcome}
use Rattle.lin_report.specs.Object.{IsCommandOf}
use Rattle.word_fields.specs.Records.{record_number}
use Rattle.op_record.specs.Outcomes.{FitsPayload}
use Rattle.normal_traits.specs.World.{RightSince, World}
use Rattle.normal_traits.specs.NormalForm.{NormalForm}
use Rattle.normal_traits.specs.Steps.{IsOffered}
use Rattle.normal_traits.specs.Laws.{IsFixed}
use Rattle.fast_slow_engine.specs.declared.phases.Generating.{Generating}
use Rattle.fast_slow_engine.specs.declared.phases.Generating.TheVariants.{Search, LookForBlock, Claim}
use Rattle.fast_slow_engine.specs.HelpWords.{fitted}
use Rattle.fast_slow_engine.specs.OfferStores.{offer_stores}
use Rattle.offered_blocks.specs.Blocks.{Offer}
use Rattle.helper_knowledge.specs.Callers.{Caller, IfStill}

-- an outcome that a record can tell whole
abbrev pub ToldWhole : Outcome → Type 0
ToldWhole outcome = FitsPayload outcome × (fitted outcome ≡ outcome)

module _ {S W : Type 0} (form : NormalForm S W) (world : World) where
  -- a search for the call in the record, which began after the call did
  pub record KnowsSearch (caller : Caller) (word : ℕ) (op : Op) (search : S) (since : ℕ) : Type 0 where
    pub command : IsCommandOf form.object op
    pub knows : form.knows search op world since
    pub op_is : IfStill caller (record_number word) (op ≡ caller.op)
    pub early : IfStill caller (record_number word) (caller.begun ≤ since)

  -- where it stands
  abbrev pub GeneratesAt : S → Generating → Type 0
  GeneratesAt search Search = form.asks search
  GeneratesAt search LookForBlock = form.is_ready search
  GeneratesAt search Claim = form.is_ready search

  -- it has answered. That the call made no change is no part of it: the record tells that while it is in Generate, and
  -- it may be false before the helper's exchange is lost
  pub record KnowsAnswer (caller : Caller) (word since : ℕ) (op : Op) (outcome : Outcome) : Type 0 where
    pub right : RightSince form.object world op since outcome
    pub fixed : IsFixed form outcome
    pub op_is : IfStill caller (record_number word) (op ≡ caller.op)
    pub early : IfStill caller (record_number word) (caller.begun ≤ since)

  -- so many stores of a list were made into a block, for the call in the record, and all of them stand
  pub record KnowsOffer (caller : Caller) (head word block : ℕ) (stores : List (ℕ × ℕ)) (made : ℕ) (offer : Offer S) : Type 0 where
    pub offered : IsOffered form world offer.list offer.offering offer.since
    pub block_is : offer.list.block ≡ block
    pub seat_is : offer.list.call.seat ≡ head
    pub number_is : offer.list.call.number ≡ record_number word
    pub op_is : IfStill caller (record_number word) (offer.list.call.op ≡ caller.op)
    pub stores_are : stores ≡ offer_stores block head (record_number word) offer.list.call.op offer.list.entries (form.offer_of offer.offering offer.list.call.op block).stores
    pub stored : (k : ℕ) (store : ℕ × ℕ) → k < made → slice_get stores k ≡ Some store → world.words store.0 ≡ store.1
