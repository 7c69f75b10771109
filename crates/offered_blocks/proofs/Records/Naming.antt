-- A record that names a spare block, filled for a new list of its call: what holds of all blocks holds after it.
use Rattle.std.proofs.Common.{◌≡◌, ◌≢◌, ◌∙◌, refl, sym, subst, ap, ℕ, ◌+◌, if◌then◌else◌, Bool, inl, inr, Option, Some}
use Rattle.std.proofs.lemmas.Bool.{cases_eq, eq-eqb, ne_eqb}
use Rattle.word_fields.specs.Payloads.{payload_block}
use Rattle.word_fields.specs.Records.{record_phase, record_number, record_payload}
use Rattle.node_arena.specs.MemoryMap.{record_place}
use Rattle.normal_traits.specs.World.{World}
use Rattle.normal_traits.specs.NormalForm.{NormalForm}
use Rattle.normal_traits.specs.Laws.{Laws}
use Rattle.offered_blocks.specs.Blocks.{Offer, HasBlocks, IsExecuting}
use Rattle.offered_blocks.specs.Holds.{FilledFor, HasOffers, Waits}
use Rattle.offered_blocks.specs.OtherSteps.{CanName, with_offer}
use Rattle.offered_blocks.proofs.Blocks.HoldsKept.{filled_stays, waits_kept}
use Rattle.offered_blocks.proofs.Blocks.Named.{some_offer}
use Rattle.offered_blocks.proofs.Records.Names.{names_kept}
use Rattle.offered_blocks.proofs.Records.Puts.{block_stays, put, put_beside, put_rises, put_step, put_there}

pub with_here : {S : Type 0} (block at : ℕ) (offer : Offer S) (offers : ℕ → Option (Offer S)) → at ≡ block → with_offer block offer offers at ≡ Some offer
with_here block at offer offers same = ap (λ (b : Bool). if b then Some offer else offers at) (eq-eqb at block same)

pub with_beside : {S : Type 0} (block at : ℕ) (offer : Offer S) (offers : ℕ → Option (Offer S)) → at ≢ block → with_offer block offer offers at ≡ offers at
with_beside block at offer offers apart = ap (λ (b : Bool). if b then Some offer else offers at) (ne_eqb at block apart)

module _ {S W : Type 0} (form : NormalForm S W) (laws : Laws form) (world : World) (offers : ℕ → Option (Offer S)) (is : HasOffers form world offers)
    (block : ℕ) (offer : Offer S) (word : ℕ) (can : CanName form world offers block offer word) where
  abbrev pub named_offers : ℕ → Option (Offer S)
  named_offers = with_offer block offer offers

  abbrev seat : ℕ
  seat = offer.list.call.seat

  abbrev pub named_world : World
  named_world = put form laws world offers is seat word can.seated

  there : named_world.words (record_place seat) ≡ word
  there = put_there form laws world offers is seat word can.seated

  pub executes_now : IsExecuting named_world offer.list
  executes_now = record {
    seated = can.seated;
    phase = ap record_phase there ∙ can.phase;
    number = ap record_number there ∙ can.number;
    block = ap (λ w. payload_block (record_payload w)) there ∙ can.named ∙ sym can.block_is;
  }

  named_blocks : HasBlocks form named_world named_offers
  named_blocks =
      names_kept form laws world named_world is.shape (put_step form laws world offers is seat word can.seated) offers named_offers is.blocks block offer
      (with_here block block offer offers refl) (λ other apart. with_beside block other offer offers apart) can.identity can.offered can.block_is can.spare.some can.room
      (λ j few. is.pending block j can.spare.some few can.spare.unnamed) can.fresh can.none can.seated (put_beside form laws world offers is seat word can.seated) refl refl executes_now
      (put_rises form laws world offers is seat word can.seated)

  -- the old ones wait as they did, and the new one is filled
  named_waits : (other : ℕ) (mate : Offer S) → named_offers other ≡ Some mate → Waits form named_world mate
  named_waits other mate stands =
      elim (cases_eq other block) [
        | inl same ↦
            let one : offer ≡ mate = some_offer offer mate (named_offers other) (with_here block other offer offers same) stands in
            subst (λ (o : Offer S). Waits form named_world o) one (λ none. (ap world.used can.block_is ∙ can.spare.unused, filled_now))
        | inr apart ↦
            waits_kept form laws world named_world offers is (put_step form laws world offers is seat word can.seated) (λ b o s free field small stored. block_stays form laws world offers is seat word can.seated b field)
            (λ b o s none free. free) (λ list j took. took) (λ b j some small unnamed. block_stays form laws world offers is seat word can.seated b (9 + j)) other mate (sym (with_beside block other offer offers apart) ∙ stands)
      ]
    where
      filled_now : FilledFor form named_world offer
      filled_now =
          let list = offer.list in
          let good = (laws.of_world.offers world offer.offering list.call.op offer.since list.block can.offered.command is.shape can.offered.knows can.offered.ready can.offered.small).stores in
          filled_stays form list.block world named_world (λ field small stored. block_stays form laws world offers is seat word can.seated list.block field) list
          (form.offer_of offer.offering list.call.op list.block).stores refl good can.filled

  pub name_kept : HasOffers form named_world named_offers
  name_kept = record {
    shape = laws.shape_kept world named_world is.shape (put_step form laws world offers is seat word can.seated);
    blocks = named_blocks;
    waits = named_waits;
    pending = λ b j some few unnamed.
        block_stays form laws world offers is seat word can.seated b (9 + j) ∙ is.pending b j some few
        (λ mate stands. elim (cases_eq b block) [
          | inl same ↦ unnamed offer (with_here block b offer offers same)
          | inr apart ↦ unnamed mate (with_beside block b offer offers apart ∙ stands)
        ]);
    journal = is.journal;
  }
