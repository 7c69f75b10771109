-- After a step of a helper each set bit is that of an entry of the executed list.
use Rattle.std.proofs.Common.{◌≡◌, ◌≢◌, ◌∙◌, refl, sym, subst, ap, ℕ, ◌<◌, true, false, inl, inr, Option, Some, arith}
use Rattle.std.proofs.lemmas.Bool.{cases_eq}
use Rattle.step_memory.specs.declared.steps.Seen.{Seen}
use Rattle.word_fields.specs.Payloads.{payload_block}
use Rattle.word_fields.specs.Records.{record_phase, record_number, record_payload}
use Rattle.word_fields.specs.Versioned.{versioned_bit}
use Rattle.node_arena.specs.MemoryMap.{record_place}
use Rattle.normal_traits.specs.declared.lists.Entry.{Entry}
use Rattle.normal_traits.specs.World.{Listed, World}
use Rattle.normal_traits.specs.NormalForm.{NormalForm}
use Rattle.cas_executor.specs.declared.slow_run.SlowStep.{SlowStep}
use Rattle.cas_executor.specs.declared.slow_run.SlowStep.TheVariants.{LoadState, Install, LoadTarget, Succeed, Fail, LoadDecision, Clear}
use Rattle.cas_executor.specs.SlowRuns.{SlowWalk, installs, slow_request, state_place, step_request}
use Rattle.cas_executor_laws.specs.ExecRuns.{IsEntry}
use Rattle.cas_executor_laws.specs.Parts.{RequestMade, Knows, TookBy}
use Rattle.cas_executor_laws.proofs.Exchanges.{load_leaves, exchange_did}
use Rattle.cas_executor_laws.proofs.Exchanges.Exchanged.{won, lost}
use Rattle.cas_executor_laws.proofs.OfferedPartsKept.{entry_at}
use Rattle.cas_executor_laws.proofs.StepsAreDeeds.{request_is}
use Rattle.offered_blocks.specs.Blocks.{Offer, site_of, has_taken, IsOffer, IsBit, HasBlocks, MayBeMarked, IsExecuting}
use Rattle.offered_blocks.proofs.Helpers.OwnDeeds.{installs_named}

-- the record of a list's call stays
pub executing_same : (world after : World) (list : Listed) → after.words (record_place list.call.seat) ≡ world.words (record_place list.call.seat) → IsExecuting world list → IsExecuting after list
executing_same world after list same is = record {
  seated = is.seated;
  phase = ap record_phase same ∙ is.phase;
  number = ap record_number same ∙ is.number;
  block = ap (λ w. payload_block (record_payload w)) same ∙ is.block;
}

module _ {S W : Type 0} (form : NormalForm S W) (world after : World) (offers : ℕ → Option (Offer S)) (blocks : HasBlocks form world offers)
    (block : ℕ) (offer : Offer S) (stands : offers block ≡ Some offer) (walk : SlowWalk) (seen : Seen)
    (knows : Knows (site_of offer) world.words (has_taken world.journal offer.list) walk) (made : RequestMade (slow_request walk) world.words after.words seen)
    (by : TookBy walk seen (has_taken world.journal offer.list) (has_taken after.journal offer.list))
    (states_plain : (i : ℕ) → i < 2 → form.is_versioned (state_place offer.list.block i) ≡ false)
    (grows : (list : Listed) (j : ℕ) → has_taken world.journal list j ≡ true → has_taken after.journal list j ≡ true)
    (records : (seat : ℕ) → seat < 8 → after.words (record_place seat) ≡ world.words (record_place seat)) where
  mine : IsOffer form world block offer
  mine = blocks.offered block offer stands

  abbrev own : Entry
  own = (entry_at offer.list.entries walk.next knows.within).0

  own_listed : IsEntry offer.list.entries walk.next own
  own_listed = (entry_at offer.list.entries walk.next knows.within).1

  own_few : walk.next < 2
  own_few = omega (arith, knows.within, mine.site.short)

  made_on : RequestMade (step_request offer.list.block walk.next own walk.step) world.words after.words seen
  made_on = subst (λ r. RequestMade r world.words after.words seen) (request_is (site_of offer) mine.site world.words after.words (has_taken world.journal offer.list) (has_taken world.journal offer.list) walk seen knows own own_listed) made

  -- a bit that was there, at a word that stays
  old_bit : (place : ℕ) → after.words place ≡ world.words place → IsBit form world offers place → IsBit form after offers place
  old_bit place same is = record {
    block = is.block;
    offer = is.offer;
    j = is.j;
    entry = is.entry;
    stands = is.stands;
    listed = is.listed;
    here = is.here;
    shows = same ∙ is.shows;
    executing = executing_same world after is.offer.list (records is.offer.list.call.seat is.executing.seated) is.executing;
    took = grows is.offer.list is.j is.took;
  }

  kept_bit : (place : ℕ) → MayBeMarked form place → versioned_bit (after.words place) ≡ 1 → after.words place ≡ world.words place → IsBit form after offers place
  kept_bit place may bit same = old_bit place same (blocks.bits place may (ap versioned_bit (sym same) ∙ bit))

  at_own : (place : ℕ) → MayBeMarked form place → versioned_bit (after.words place) ≡ 1 → ((at : ℕ) → at ≢ own.target → after.words at ≡ world.words at) → (place ≡ own.target → IsBit form after offers place) → IsBit form after offers place
  at_own place may bit beside here = elim (cases_eq place own.target) [ inl same ↦ here same | inr apart ↦ kept_bit place may bit (beside place apart) ]

  at_state : (place : ℕ) → MayBeMarked form place → versioned_bit (after.words place) ≡ 1 → ((at : ℕ) → at ≢ state_place offer.list.block walk.next → after.words at ≡ world.words at) → IsBit form after offers place
  at_state place may bit beside =
      elim (cases_eq place (state_place offer.list.block walk.next)) [
        | inr apart ↦ kept_bit place may bit (beside place apart)
        | inl same ↦ (
            let plain = states_plain walk.next own_few in
            let versioned : form.is_versioned (state_place offer.list.block walk.next) ≡ true = subst (λ p. form.is_versioned p ≡ true) same may.versioned in
            absurd cc)
      ]

  bit_at : (step : SlowStep) → walk.step ≡ step → RequestMade (step_request offer.list.block walk.next own step) world.words after.words seen → (place : ℕ) → MayBeMarked form place → versioned_bit (after.words place) ≡ 1 → IsBit form after offers place
  bit_at LoadState is made' place may bit = kept_bit place may bit (load_leaves _ world.words after.words seen made' place)
  bit_at LoadTarget is made' place may bit = kept_bit place may bit (load_leaves _ world.words after.words seen made' place)
  bit_at LoadDecision is made' place may bit = kept_bit place may bit (load_leaves _ world.words after.words seen made' place)
  bit_at Succeed is made' place may bit = at_state place may bit made'.beside
  bit_at Fail is made' place may bit = at_state place may bit made'.beside
  bit_at Install is made' place may bit =
      elim (exchange_did _ _ _ world.words after.words seen made') [
        | lost differs leaves saw ↦ kept_bit place may bit (leaves place)
        | won at there others saw ↦ at_own place may bit others (λ same. record {
          block = block;
          offer = offer;
          j = walk.next;
          entry = own;
          stands = stands;
          listed = own_listed;
          here = sym same;
          shows = ap after.words same ∙ there;
          executing = (let named = installs_named form world offers blocks block offer stands walk seen after.words (has_taken after.journal offer.list) knows made by at in
              executing_same world after offer.list (records offer.list.call.seat named.seated) named);
          took = by.won (ap installs is) saw;
        })
      ]
  bit_at Clear is made' place may bit =
      elim (exchange_did _ _ _ world.words after.words seen made') [
        | lost differs leaves saw ↦ kept_bit place may bit (leaves place)
        | won at there others saw ↦ at_own place may bit others (λ same. (
            let clear = (mine.site.raised walk.next own own_listed).to_clear in
            let none : versioned_bit (after.words place) ≡ 0 = ap (λ p. versioned_bit (after.words p)) same ∙ ap versioned_bit there ∙ clear in
            absurd (omega (arith, bit, none))))
      ]

  pub bits_after : (place : ℕ) → MayBeMarked form place → versioned_bit (after.words place) ≡ 1 → IsBit form after offers place
  bits_after = bit_at walk.step refl made_on
