-- A won exchange from Executing to Wrapping, and one from Wrapping back to Generate.
use Rattle.std.proofs.Common.{◌≡◌, ◌∙◌, refl, sym, subst, ap, ℕ, ◌+◌, ◌<◌, ◌^◌, ◌%◌, Option, None, arith}
use Rattle.word_fields.specs.declared.records.RecordPhase.{RecordPhase as Mark}
use Rattle.word_fields.specs.declared.records.RecordPhase.TheVariants.{Generate, Executing, Wrapping}
use Rattle.word_fields.specs.Payloads.{payload_block, payload_stop, wrapping_payload}
use Rattle.word_fields.specs.Records.{record_of, record_phase, record_number, record_round, record_payload, number_below, round_below}
use Rattle.word_fields.proofs.RecordWords.{phase-word, payload-word}
use Rattle.word_fields.proofs.PayloadParts.{block-wrapping, stop-wrapping, wrapping_below}
use Rattle.node_arena.specs.MemoryMap.{record_place}
use Rattle.normal_traits.specs.World.{Called, World}
use Rattle.normal_traits.specs.NormalForm.{NormalForm}
use Rattle.normal_traits.specs.Laws.{Laws}
use Rattle.op_record.specs.Outcomes.{outcome_of}
use Rattle.cas_executor_laws.specs.Parts.{KnowsStop}
use Rattle.cas_executor_laws.proofs.OfferedPartsKept.{stop_kept}
use Rattle.fast_slow_engine.specs.HelpWords.{again_word, named_block, wrapping_word}
use Rattle.offered_blocks.specs.Blocks.{Offer, site_of, has_taken}
use Rattle.offered_blocks.specs.Holds.{HasOffers}
use Rattle.offered_blocks.specs.Records.{MadeNone, Names, RecordIsRight, RecordTells}
use Rattle.offered_blocks.proofs.Records.Puts.{put, put_there}
use Rattle.offered_blocks.proofs.Records.RecordSteps.{restarts}
use Rattle.move_kinds.specs.Kinds.{Kind}
use Rattle.move_kinds.specs.Kinds.Kind.{settles}
use Rattle.move_kinds.specs.Offering.{IsOfferFor, ListStopsAt}
use Rattle.move_kinds.proofs.Does.{does_of}
use Rattle.move_kinds.proofs.KindDeeds.{does_deed}
use Rattle.helper_knowledge.specs.Meetings.{Meets}
use Rattle.helper_knowledge.proofs.WonExchanges.Completes.{one_offer, told_named}

module _ {S W : Type 0} (form : NormalForm S W) (laws : Laws form) (world : World) (offers : ℕ → Option (Offer S)) (holds : HasOffers form world offers)
    (head word : ℕ) (call : Called) (begun : ℕ) (m : Meets form world offers head word call begun) (offer : Offer S) (of : IsOfferFor offers (named_block word) head (record_number word) offer) where
  block_small : named_block word < 2 ^ 17
  block_small = (let mine = holds.blocks.offered (named_block word) offer of.stands in subst (λ b. b < 2 ^ 17) mine.block_is mine.offered.small)

  -- ---- Executing to Wrapping

  module _ (executes : record_phase word ≡ Executing) (stop : ℕ) (stopped : ListStopsAt world offer stop) where
    abbrev to : ℕ
    to = wrapping_word word stop

    abbrev after : World
    after = put form laws world offers holds head to m.small

    there : after.words (record_place head) ≡ to
    there = put_there form laws world offers holds head to m.small

    pub kind_settles : (mover : ℕ) (hand : Option ℕ) → Kind form world after offers offers mover hand
    kind_settles mover hand = settles head word stop offer executes of stopped (record { small = m.small; stood = m.stood; after_is = refl }) refl

    pub phase_to : record_phase to ≡ Wrapping
    phase_to = phase-word Wrapping (record_number word) (record_round word) (wrapping_payload (named_block word) stop)

    stop_small : stop < 4
    stop_small = (let mine = holds.blocks.offered (named_block word) offer of.stands in let within = stopped.within in let short = mine.site.short in omega (arith, within, short))

    payload_is : record_payload to ≡ wrapping_payload (named_block word) stop
    payload_is =
        let below = wrapping_below (named_block word) stop block_small stop_small in
        payload-word Wrapping (record_number word) (record_round word) (wrapping_payload (named_block word) stop) (number_below word) (round_below word) (omega (arith, below))

    told : Names form world offers call begun (named_block word)
    told = subst (λ (p : Mark). RecordTells form world offers call begun p (record_payload word) (outcome_of (record_of word))) executes m.tells

    -- the block and the stop of the new word are those of the list that has stopped
    tells_at : (block stop' : ℕ) → block ≡ named_block word → stop' ≡ stop
        → (names : Names form after offers call begun block) × KnowsStop (site_of names.offer) after.words (has_taken after.journal names.offer.list) stop'
    tells_at block stop' b s =
        let same = one_offer form laws world offers holds head word call begun m told offer of in
        let mine = holds.blocks.offered (named_block word) offer of.stands in
        let deed = does_deed form laws world after offers holds None (does_of form world after offers None laws holds offers 0 (kind_settles 0 None)) (named_block word) offer of.stands in
        let kept = stop_kept (site_of offer) mine.site world.words (has_taken world.journal offer.list) after.words (has_taken after.journal offer.list) deed mine.parts.lives stop stopped in (
          record { offer = told.offer; stands = ap offers b ∙ told.stands; call_is = told.call_is; only = told.only },
          subst (λ n. KnowsStop (site_of told.offer) after.words (has_taken after.journal told.offer.list) n) (sym s)
              (subst (λ (o : Offer S). KnowsStop (site_of o) after.words (has_taken after.journal o.list) stop) (sym same) kept),
        )

    pub settles_tells : RecordIsRight form after offers call begun (record_of (after.words (record_place head)))
    settles_tells =
        subst (λ w. RecordIsRight form after offers call begun (record_of w)) (sym there)
        (subst (λ (p : Mark). RecordTells form after offers call begun p (record_payload to) (outcome_of (record_of to))) (sym phase_to)
        (tells_at (payload_block (record_payload to)) (payload_stop (record_payload to)) (ap payload_block payload_is ∙ block-wrapping (named_block word) stop block_small)
        (ap payload_stop payload_is ∙ stop-wrapping (named_block word) stop block_small stop_small)))

  -- ---- Wrapping to Generate

  module _ (wraps : record_phase word ≡ Wrapping) (dead : form.dead offer.list world) where
    abbrev again : ℕ
    again = again_word word

    abbrev begun_again : World
    begun_again = put form laws world offers holds head again m.small

    pub phase_again : record_phase again ≡ Generate
    phase_again = phase-word Generate (record_number word) ((record_round word + 1) % 2 ^ 17) 0

    none : MadeNone world call
    none =
        let told = told_named form laws world offers holds head word call begun m wraps in
        restarts form laws world offers call begun holds.shape (named_block word) told.0
        (subst (λ (o : Offer S). form.dead o.list world) (sym (one_offer form laws world offers holds head word call begun m told.0 offer of)) dead)

    pub restarts_tells : RecordIsRight form begun_again offers call begun (record_of (begun_again.words (record_place head)))
    restarts_tells =
        subst (λ w. RecordIsRight form begun_again offers call begun (record_of w)) (sym (put_there form laws world offers holds head again m.small))
        (subst (λ (p : Mark). RecordTells form begun_again offers call begun p (record_payload again) (outcome_of (record_of again))) (sym phase_again) none)
