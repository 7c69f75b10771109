-- What the record of a call tells is kept by a move that makes no change of the call, or the change of the list that
-- the record names.
use Rattle.std.proofs.Common.{ℕ, inl, inr, Option, None}
use Rattle.lin_report.specs.declared.calls.Outcome.{Outcome}
use Rattle.word_fields.specs.declared.records.RecordPhase.{RecordPhase}
use Rattle.word_fields.specs.declared.records.RecordPhase.TheVariants as phase
use Rattle.word_fields.specs.Payloads.{payload_block, payload_stop}
use Rattle.normal_traits.specs.World.{Called, Listed, World}
use Rattle.normal_traits.specs.NormalForm.{NormalForm}
use Rattle.normal_traits.specs.Laws.{Laws}
use Rattle.cas_executor_laws.proofs.OfferedPartsKept.{stop_kept}
use Rattle.offered_blocks.specs.Blocks.{Offer, has_taken, site_of}
use Rattle.offered_blocks.specs.Holds.{HasOffers}
use Rattle.offered_blocks.specs.Records.{MadeBy, MadeNone, Names, RecordTells, TellsRight}
use Rattle.offered_blocks.specs.Records.TellsRight.{observed, changed, refused}
use Rattle.move_kinds.proofs.OutcomesKept.{changed_still, right_still}
use Rattle.move_kinds.specs.Moves.{Leaves}
use Rattle.move_kinds.specs.Telling.{MayMake, NewOf, NoneNew}

module _ {S W : Type 0} (form : NormalForm S W) (laws : Laws form) (world after : World) (offers offers' : ℕ → Option (Offer S)) (holds : HasOffers form world offers)
    (leaves : Leaves form world after offers offers' None) (call : Called) (begun : ℕ) where
  none_still : NoneNew world after call → MadeNone world call → MadeNone after call
  none_still new none change among of = none change (new change among of) of

  by_still : (list : Listed) → NewOf world after call list → MadeBy world call list → MadeBy after call list
  by_still list new only change among of = elim (new change among of) [ inl old ↦ only change old of | inr is ↦ is ]

  pub names_still : (block : ℕ) (names : Names form world offers call begun block) → NewOf world after call names.offer.list → Names form after offers' call begun block
  names_still block names new = record { offer = names.offer; stands = leaves.offered block names.offer names.stands; call_is = names.call_is; only = by_still names.offer.list new names.only }

  pub right_stays : NoneNew world after call → (outcome : Outcome) → TellsRight form world call begun outcome → TellsRight form after call begun outcome
  right_stays new outcome (observed is fixed none) = observed (right_still form laws world after holds.shape leaves.step leaves.grows call.op begun outcome fixed is) fixed (none_still new none)
  right_stays new outcome (changed list of by fixed only) =
      changed list of (changed_still form laws world after holds.shape leaves.step leaves.grows list outcome fixed by) fixed (by_still list (λ change among is. inl (new change among is)) only)
  right_stays new outcome (refused is none) = refused is (none_still new none)

  pub tells_still : (at : RecordPhase) (payload : ℕ) (told : Option Outcome) → MayMake form world after offers call begun at payload → RecordTells form world offers call begun at payload told → RecordTells form after offers' call begun at payload told
  unfolding names_still
  tells_still phase.Idle payload told new tells = tt
  tells_still phase.Generate payload told new tells = none_still new tells
  tells_still phase.Executing payload told new tells = names_still (payload_block payload) tells (new tells)
  tells_still phase.Wrapping payload told new tells =
      let names = tells.0 in
      let mine = holds.blocks.offered (payload_block payload) names.offer names.stands in (
        names_still (payload_block payload) names (new names),
        stop_kept (site_of names.offer) mine.site world.words (has_taken world.journal names.offer.list) after.words (has_taken after.journal names.offer.list)
            (leaves.deeds (payload_block payload) names.offer names.stands) mine.parts.lives (payload_stop payload) tells.1,
      )
  tells_still phase.Completed payload told new tells = (tells.0, tells.1, right_stays new tells.0 tells.2)
