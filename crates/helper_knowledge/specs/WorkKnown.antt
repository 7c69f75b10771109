-- What a helper knows while it works on the call of a record, by what it does.
use Rattle.std.specs.Prelude.{◌≡◌, ℕ, ◌⊎◌, List, length, Option, Some}
use Rattle.lin_report.specs.declared.calls.Op.{Op}
use Rattle.lin_report.specs.declared.calls.Outcome.{Outcome}
use Rattle.lin_report.specs.declared.calls.Outcome.TheVariants.{Plain}
use Rattle.lin_report.specs.declared.calls.Reply.TheVariants.{Exhausted}
use Rattle.word_fields.specs.Announced.{op_word, op_number}
use Rattle.word_fields.specs.declared.records.RecordPhase.{RecordPhase}
use Rattle.word_fields.specs.declared.records.RecordPhase.TheVariants as marks
use Rattle.word_fields.specs.Records.{record_of, record_phase, record_number, record_payload}
use Rattle.word_fields.specs.Payloads.{payload_stop}
use Rattle.op_record.specs.Outcomes.{FitsPayload, completed_word}
use Rattle.normal_traits.specs.World.{ChangedBy, World}
use Rattle.normal_traits.specs.NormalForm.{NormalForm}
use Rattle.normal_traits.specs.Laws.{IsFixed}
use Rattle.cas_executor_laws.specs.Parts.{Knows}
use Rattle.cas_executor_laws.specs.Reads.{IsReadOf}
use Rattle.fast_slow_engine.specs.declared.help.Work.{Work}
use Rattle.fast_slow_engine.specs.declared.help.Work.TheVariants as work
use Rattle.fast_slow_engine.specs.HelpWords.{again_word, executing_word, named_block, wrapping_word}
use Rattle.offered_blocks.specs.Blocks.{Offer, site_of, has_taken}
use Rattle.move_kinds.specs.Offering.{IsOfferFor, ListStopsAt}
use Rattle.helper_knowledge.specs.Callers.{Caller, IfStill}
use Rattle.helper_knowledge.specs.Carried.{Carried, OfSome}
use Rattle.helper_knowledge.specs.Knowing.{GeneratesAt, KnowsAnswer, KnowsOffer, KnowsSearch}

module _ {S W : Type 0} (form : NormalForm S W) (world : World) (offers : ℕ → Option (Offer S)) where
  -- the word to which a helper may be about to exchange the record, and why. For each the record word was loaded in the
  -- phase from which it goes
  pub data MayAdvance (caller : Caller) (head word : ℕ) (hand : Option ℕ) (filled : Option (Offer S)) (to : ℕ) : Type 0 where
    -- Generate to Executing: the block in hand is filled
    offers_it : (block : ℕ) (stores : List (ℕ × ℕ)) → record_phase word ≡ marks.Generate → hand ≡ Some block → to ≡ executing_word word block
        → OfSome (KnowsOffer form world caller head word block stores (length stores)) filled → MayAdvance caller head word hand filled to
    -- Generate to Completed: the search has answered, or no block is left
    answers : (since : ℕ) (op : Op) (outcome : Outcome) → record_phase word ≡ marks.Generate → to ≡ completed_word (record_of word) outcome → FitsPayload outcome
        → KnowsAnswer form world caller word since op outcome → MayAdvance caller head word hand filled to
    exhausts : record_phase word ≡ marks.Generate → to ≡ completed_word (record_of word) (Plain Exhausted) → MayAdvance caller head word hand filled to
    -- Executing to Wrapping: the list has stopped
    settles : (stop : ℕ) (offer : Offer S) → record_phase word ≡ marks.Executing → IsOfferFor offers (named_block word) head (record_number word) offer → to ≡ wrapping_word word stop
        → ListStopsAt world offer stop → MayAdvance caller head word hand filled to
    -- Wrapping to Completed: the list made the change of its call
    completes : (outcome : Outcome) (offer : Offer S) → record_phase word ≡ marks.Wrapping → IsOfferFor offers (named_block word) head (record_number word) offer
        → to ≡ completed_word (record_of word) outcome → FitsPayload outcome → ChangedBy world offer.list outcome → IsFixed form outcome → MayAdvance caller head word hand filled to
    -- Wrapping to Generate: the list is dead
    restarts : (offer : Offer S) → record_phase word ≡ marks.Wrapping → IsOfferFor offers (named_block word) head (record_number word) offer → to ≡ again_word word → form.dead offer.list world
        → MayAdvance caller head word hand filled to

  -- the block that a record word names is offered for its call
  abbrev pub IsNamed : ℕ → ℕ → Type 0
  IsNamed head word = (offer : Offer S) × IsOfferFor offers (named_block word) head (record_number word) offer

  -- and its list has stopped at the word's stop
  abbrev pub IsSettled : ℕ → ℕ → Type 0
  IsSettled head word = (offer : Offer S) × IsOfferFor offers (named_block word) head (record_number word) offer × ListStopsAt world offer (payload_stop (record_payload word))

  -- what a record word that was loaded names, from then on, though the record may have gone on since
  abbrev pub NamedBy : RecordPhase → ℕ → ℕ → Type 0
  NamedBy marks.Executing head word = IsNamed head word
  NamedBy marks.Wrapping head word = IsSettled head word
  NamedBy _ head word = Unit {0}

  -- what a helper knows that has loaded this record word of the head, with this block in hand
  abbrev pub KnowsWork : Caller → ℕ → ℕ → Option ℕ → Carried S → Work S W → Type 0
  KnowsWork caller head word hand own work.Head = NamedBy (record_phase word) head word
  KnowsWork caller head word hand own work.Op = record_phase word ≡ marks.Generate
  KnowsWork caller head word hand own (work.Value op) =
      (record_phase word ≡ marks.Generate) × (op_number op ≡ record_number word) × IfStill caller (record_number word) (op ≡ op_word caller.op.code caller.number caller.op.key)
  KnowsWork caller head word hand own (work.Generate op search at) =
      (record_phase word ≡ marks.Generate) × KnowsSearch form world caller word op search own.since × GeneratesAt form world search at
  KnowsWork caller head word hand own (work.Fill stores made) =
      (record_phase word ≡ marks.Generate) × ((block : ℕ) × (hand ≡ Some block) × OfSome (KnowsOffer form world caller head word block stores.items made) own.filled)
  KnowsWork caller head word hand own (work.Advance to) = MayAdvance caller head word hand own.filled to
  KnowsWork caller head word hand own (work.Read read) =
      ((record_phase word ≡ marks.Executing) ⊎ (record_phase word ≡ marks.Wrapping)) × IsNamed head word × NamedBy (record_phase word) head word × (read.block ≡ named_block word) × IsReadOf world.words read
  KnowsWork caller head word hand own (work.Execute run) =
      (record_phase word ≡ marks.Executing)
      × ((offer : Offer S) × IsOfferFor offers (named_block word) head (record_number word) offer × Knows (site_of offer) world.words (has_taken world.journal offer.list) run)
  KnowsWork caller head word hand own (work.Wrap wrap) =
      (record_phase word ≡ marks.Wrapping)
      × ((offer : Offer S) × IsOfferFor offers (named_block word) head (record_number word) offer × ListStopsAt world offer (payload_stop (record_payload word))
      × form.wraps wrap × form.follows wrap offer.list (payload_stop (record_payload word)) world)
