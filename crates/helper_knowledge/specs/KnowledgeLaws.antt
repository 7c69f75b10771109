-- What is so of helpers and of what they know, of any structure in normalized form.
use Rattle.std.specs.Prelude.{◌≡◌, ◌≢◌, ℕ, ◌^◌, ◌<◌, true, List, length, Option, Some}
use Rattle.step_memory.specs.declared.steps.Seen.{Seen}
use Rattle.word_fields.specs.declared.records.RecordPhase.{RecordPhase}
use Rattle.word_fields.specs.Records.{record_number}
use Rattle.normal_traits.specs.World.{Called, World, is_word}
use Rattle.normal_traits.specs.NormalForm.{NormalForm}
use Rattle.fast_slow_engine.specs.declared.help.Work.{Work}
use Rattle.fast_slow_engine.specs.declared.help.WorkTurn.TheVariants.{Going}
use Rattle.fast_slow_engine.specs.HelpTable.{CanWork, work_fed, work_hand, work_turn}
use Rattle.offered_blocks.specs.Blocks.{Offer}
use Rattle.offered_blocks.specs.Holds.{HasOffers}
use Rattle.offered_blocks.specs.OtherSteps.{IsSpare}
use Rattle.move_kinds.specs.Contents.{HasContents}
use Rattle.move_kinds.specs.Kinds.{Kind}
use Rattle.helper_knowledge.specs.Callers.{Caller, KeepsCall, caller_of}
use Rattle.helper_knowledge.specs.Carried.{Carried}
use Rattle.helper_knowledge.specs.HelperStep.{HandIsSpare, RestsOn, Steps, UsedSmall}
use Rattle.helper_knowledge.specs.Knowing.{KnowsOffer}
use Rattle.helper_knowledge.specs.Meetings.{HasWon, IsNew, Meets}
use Rattle.helper_knowledge.specs.WorkKnown.{KnowsWork, MayAdvance, NamedBy}

module _ {S W : Type 0} (form : NormalForm S W) where
  -- of another seat's move: the block in the helper's hand is spare and not the mover's
  abbrev pub HandsApart : World → (ℕ → Option (Offer S)) → Option ℕ → Option ℕ → Type 0
  HandsApart world offers hand other = (block : ℕ) → other ≡ Some block → IsSpare world offers block × (hand ≢ Some block)

  -- what a helper knows is kept by every kind of another seat's move
  abbrev pub KnowledgeKept : Type 0
  KnowledgeKept =
      (world after : World) (offers offers' : ℕ → Option (Offer S)) (mover : ℕ) (hand other : Option ℕ) → HasOffers form world offers → Kind form world after offers offers' mover hand → HandsApart world offers hand other
      → (caller caller' : Caller) (head word : ℕ) (own : Carried S) (does : Work S W) → KeepsCall caller caller' (record_number word) → CanWork form does
      → KnowsWork form world offers caller head word other own does → KnowsWork form after offers' caller' head word other own does

  -- so is what a record word that was loaded names
  abbrev pub NamedKept : Type 0
  NamedKept =
      (world after : World) (offers offers' : ℕ → Option (Offer S)) (mover : ℕ) (hand : Option ℕ) (phase : RecordPhase) (head word : ℕ) → HasOffers form world offers → Kind form world after offers offers' mover hand
      → NamedBy form world offers phase head word → NamedBy form after offers' phase head word

  -- a step of a helper's own is one of the kinds
  abbrev pub WorkIsKind : Type 0
  WorkIsKind =
      (world after : World) (offers : ℕ → Option (Offer S)) (caller : Caller) (head word mover : ℕ) (hand : Option ℕ) (own own' : Carried S) (identity cap : ℕ) (seen : Seen) (does : Work S W)
      → RestsOn form world offers head caller → HandIsSpare world offers hand → CanWork form does → Steps form world after offers head word hand own own' identity cap seen does
      → KnowsWork form world offers caller head word hand own does → Kind form world after offers offers mover hand

  -- and a helper knows after it what it must for the next one
  abbrev pub WorkGoesOn : Type 0
  WorkGoesOn =
      (world after : World) (offers : ℕ → Option (Offer S)) (caller : Caller) (head word : ℕ) (hand : Option ℕ) (own own' : Carried S) (identity cap : ℕ) (seen : Seen) (does : Work S W)
      → RestsOn form world offers head caller → HandIsSpare world offers hand → UsedSmall after → CanWork form does → Steps form world after offers head word hand own own' identity cap seen does → work_turn form does head word seen ≡ Going
      → KnowsWork form world offers caller head word hand own does → KnowsWork form after offers caller head word (work_hand does hand cap seen) own' (work_fed form does head word hand cap seen)

  -- a block that is filled for a list holds the operation and the list of its call
  abbrev pub FilledHolds : Type 0
  FilledHolds =
      (world : World) (offers : ℕ → Option (Offer S)) (caller : Caller) (head word block : ℕ) (stores : List (ℕ × ℕ)) (offer : Offer S) → HasOffers form world offers → ((place : ℕ) → is_word form.is_root world place ≡ true → place < 2 ^ 32)
      → KnowsOffer form world caller head word block stores (length stores) offer → HasContents world offer

  -- and where it wins an exchange of the record, that is one of the kinds, and the record tells what is right
  abbrev pub AdvancesAreRight : Type 0
  AdvancesAreRight =
      (world : World) (offers : ℕ → Option (Offer S)) (head word : ℕ) (call : Called) (begun mover : ℕ) (hand : Option ℕ) (filled : Option (Offer S)) (to : ℕ) → HasOffers form world offers → Meets form world offers head word call begun
      → ((block : ℕ) (offer : Offer S) → hand ≡ Some block → filled ≡ Some offer → IsNew form world offers block offer)
      → MayAdvance form world offers (caller_of call begun) head word hand filled to → HasWon form world offers head call begun mover hand filled to
