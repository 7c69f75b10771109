-- A won exchange of a record that completes a call: what the helper carried makes the record right.
use Rattle.std.proofs.Common.{◌≡◌, refl, sym, subst, ℕ, [], Option}
use Rattle.lin_report.specs.declared.calls.Op.{Op}
use Rattle.lin_report.specs.declared.calls.Outcome.{Outcome}
use Rattle.lin_report.specs.declared.calls.Outcome.TheVariants.{Plain}
use Rattle.lin_report.specs.declared.calls.Reply.TheVariants.{Exhausted}
use Rattle.word_fields.specs.declared.records.RecordPhase.{RecordPhase as Mark}
use Rattle.word_fields.specs.declared.records.RecordPhase.TheVariants.{Generate, Wrapping}
use Rattle.word_fields.specs.Payloads.{payload_stop}
use Rattle.word_fields.specs.Records.{record_of, record_phase, record_number, record_payload}
use Rattle.node_arena.specs.MemoryMap.{record_place}
use Rattle.normal_traits.specs.World.{Called, ChangedBy, RightSince, World}
use Rattle.normal_traits.specs.NormalForm.{NormalForm}
use Rattle.normal_traits.specs.Steps.{IsStep}
use Rattle.normal_traits.specs.Laws.{Laws, IsFixed}
use Rattle.op_record.specs.Outcomes.{FitsPayload, completed_word, outcome_of}
use Rattle.fast_slow_engine.specs.HelpWords.{named_block}
use Rattle.offered_blocks.specs.Blocks.{Offer}
use Rattle.offered_blocks.specs.Holds.{HasOffers}
use Rattle.offered_blocks.specs.Records.{MadeNone, Names, RecordIsRight, RecordTells, TellsRight}
use Rattle.offered_blocks.specs.Records.TellsRight.{observed, changed, refused}
use Rattle.offered_blocks.proofs.Blocks.Named.{some_offer}
use Rattle.offered_blocks.proofs.Records.Puts.{put, put_step, put_there}
use Rattle.offered_blocks.proofs.Records.RecordSteps.{answered, completed_right, done}
use Rattle.move_kinds.specs.Moves.{Grows}
use Rattle.move_kinds.specs.Offering.{IsOfferFor, ListStopsAt}
use Rattle.move_kinds.proofs.OutcomesKept.{right_still, changed_still}
use Rattle.helper_knowledge.specs.Callers.{caller_of}
use Rattle.helper_knowledge.specs.Knowing.{KnowsAnswer}
use Rattle.helper_knowledge.specs.Meetings.{Meets}

module _ {S W : Type 0} (form : NormalForm S W) (laws : Laws form) (world : World) (offers : ℕ → Option (Offer S)) (holds : HasOffers form world offers)
    (head word : ℕ) (call : Called) (begun : ℕ) (m : Meets form world offers head word call begun) where
  -- the record told that the call made no change
  told_none : record_phase word ≡ Generate → MadeNone world call
  told_none generates = subst (λ (p : Mark). RecordTells form world offers call begun p (record_payload word) (outcome_of (record_of word))) generates m.tells

  -- the record told which block it names, and where its list stopped
  abbrev pub Wrapped : Type 0
  Wrapped = (names : Names form world offers call begun (named_block word)) × ListStopsAt world names.offer (payload_stop (record_payload word))

  pub told_named : record_phase word ≡ Wrapping → Wrapped
  told_named wraps = subst (λ (p : Mark). RecordTells form world offers call begun p (record_payload word) (outcome_of (record_of word))) wraps m.tells

  -- the list that the helper worked on is the one that the record names
  pub one_offer : (names : Names form world offers call begun (named_block word)) (offer : Offer S) → IsOfferFor offers (named_block word) head (record_number word) offer → names.offer ≡ offer
  one_offer names offer of = some_offer names.offer offer (offers (named_block word)) names.stands of.stands

  -- ---- the outcome is right

  pub search_right : record_phase word ≡ Generate → (since : ℕ) (op : Op) (outcome : Outcome) → KnowsAnswer form world (caller_of call begun) word since op outcome → TellsRight form world call begun outcome
  search_right generates since op outcome known =
      let number = sym m.number_is in
      answered form laws world offers call begun since outcome (known.early number)
      (subst (λ (o : Op). RightSince form.object world o since outcome) (known.op_is number) known.right) known.fixed (told_none generates)

  pub exhausted_right : record_phase word ≡ Generate → TellsRight form world call begun (Plain Exhausted)
  exhausted_right generates = refused refl (told_none generates)

  pub wrapped_right : record_phase word ≡ Wrapping → (outcome : Outcome) (offer : Offer S) → IsOfferFor offers (named_block word) head (record_number word) offer → ChangedBy world offer.list outcome → IsFixed form outcome
      → TellsRight form world call begun outcome
  wrapped_right wraps outcome offer of by fixed =
      let told = told_named wraps in
      done form laws world offers call begun (named_block word) told.0 outcome
      (subst (λ (o : Offer S). ChangedBy world o.list outcome) (sym (one_offer told.0 offer of)) by) fixed

  -- ---- the record tells it

  module _ (outcome : Outcome) (fits : FitsPayload outcome) (right : TellsRight form world call begun outcome) where
    abbrev to : ℕ
    to = completed_word (record_of word) outcome

    abbrev after : World
    after = put form laws world offers holds head to m.small

    step : IsStep form world after
    step = put_step form laws world offers holds head to m.small

    grows : Grows world after
    grows = record { changes = ([], refl); journal = ([], refl); used = λ block is. is }

    -- what is right in the world before is right after
    right_put : TellsRight form world call begun outcome → TellsRight form after call begun outcome
    right_put (observed is fixed none) = observed (right_still form laws world after holds.shape step grows call.op begun outcome fixed is) fixed none
    right_put (changed list of by fixed only) = changed list of (changed_still form laws world after holds.shape step grows list outcome fixed by) fixed only
    right_put (refused is none) = refused is none

    pub completes_tells : RecordIsRight form after offers call begun (record_of (after.words (record_place head)))
    completes_tells =
        subst (λ w. RecordIsRight form after offers call begun (record_of w)) (sym (put_there form laws world offers holds head to m.small))
        (completed_right form laws after offers call begun (record_of word) outcome fits (right_put right))
