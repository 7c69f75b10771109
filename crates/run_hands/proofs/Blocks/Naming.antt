-- A block that a record comes to name was in the mover's hand, and isn't any more.
use Rattle.std.proofs.Common.{◌≡◌, ◌≢◌, ◌∙◌, refl, sym, subst, ap, ℕ, ◌<◌, ◌^◌, ◌==◌, ◌&&◌, if◌then◌else◌, Bool, true, false, Option, Some, None, inl, inr, arith}
use Rattle.std.proofs.lemmas.Bool.Decides.{nat_tests}
use Rattle.step_memory.specs.declared.steps.Seen.{Seen}
use Rattle.word_fields.specs.declared.records.RecordPhase.TheVariants.{Executing}
use Rattle.word_fields.specs.Payloads.{payload_block}
use Rattle.word_fields.specs.Records.{record_number, record_phase, record_round, number_below, round_below}
use Rattle.word_fields.proofs.RecordWords.{payload-word}
use Rattle.word_fields.proofs.PayloadParts.{block-payload}
use Rattle.normal_traits.specs.NormalForm.{NormalForm}
use Rattle.fast_slow_engine.specs.declared.phases.Phase.{Phase}
use Rattle.fast_slow_engine.specs.declared.phases.Phase.TheVariants.{Help}
use Rattle.fast_slow_engine.specs.declared.help.Helping.{Helping}
use Rattle.fast_slow_engine.specs.declared.help.Helping.TheVariants.{Known}
use Rattle.fast_slow_engine.specs.declared.help.Work.{Work}
use Rattle.fast_slow_engine.specs.declared.help.Work.TheVariants as work
use Rattle.fast_slow_engine.specs.HelpWords.{executing_word, is_executing, named_block}
use Rattle.fast_slow_engine.specs.Mechs.{Mech}
use Rattle.fast_slow_engine.specs.PhaseTable.{stepped}
use Rattle.offered_blocks.specs.Blocks.{Offer}
use Rattle.helper_knowledge.specs.Carried.{OfSome}
use Rattle.helper_knowledge.specs.Meetings.{offers_if}
use Rattle.run_laws.proofs.Steps.{some_same}
use Rattle.run_world.specs.Lists.{Advancing, CarriesHelp, CarriesIn, CarriesWork, IsNaming}
use Rattle.run_world.specs.SeatSteps.{offers_after, offers_helped, offers_worked}
use Rattle.run_world.proofs.Names.Comes.{names_helped, names_in, names_worked, none_some}

-- a word that names a block does
pub named_word : (word block : ℕ) → block < 2 ^ 17 → named_block (executing_word word block) ≡ block
named_word word block small =
    ap payload_block (payload-word Executing (record_number word) (record_round word) block (number_below word) (round_below word) (omega (arith, small))) ∙ block-payload block small

-- where a step names a block
names_true : (b : Bool) (block at : ℕ) → (if b then Some block else None) ≡ Some at → (b ≡ true) × (block ≡ at)
names_true true block at is = (refl, some_same block at is)
names_true false block at is = none_some at is

-- the list that is carried is for the block in hand, and the record goes on to name that one
pub record NamesHand {S : Type 0} (hand : Option ℕ) (at : ℕ) (own : Offer S) : Type 0 where
  pub hand_is : hand ≡ Some own.list.block
  pub at_is : own.list.block < 2 ^ 17 → at ≡ own.list.block

module _ {S W : Type 0} (form : NormalForm S W) where
  naming_hand : (head word : ℕ) (hand : Option ℕ) (to at : ℕ) (own : Offer S) → named_block to ≡ at → IsNaming form head word hand to own → NamesHand hand at own
  naming_hand head word hand to at own is naming = record {
    hand_is = naming.carried.hand_is;
    at_is = λ small. sym is ∙ ap named_block naming.names ∙ named_word word own.list.block small;
  }

  advancing_hand : (head word : ℕ) (hand : Option ℕ) (to : ℕ) (seen : Seen) (filled : Option (Offer S)) (at : ℕ) (own : Offer S) → Advancing form head word hand to filled
      → names_worked {S = S} {W = W} (work.Advance to) seen ≡ Some at → filled ≡ Some own → NamesHand hand at own
  advancing_hand head word hand to seen filled at own carries names is =
      let true_names = names_true (seen.won && is_executing (record_phase to)) (named_block to) at names in
      elim carries [
        | inl none ↦ none_some own (sym none.1 ∙ is)
        | inr naming ↦ naming_hand head word hand to at own true_names.1 (subst (OfSome (IsNaming form head word hand to)) is naming)
      ]

  worked_hand : (does : Work S W) (head word : ℕ) (hand : Option ℕ) (seen : Seen) (filled : Option (Offer S)) (at : ℕ) (own : Offer S) → CarriesWork form does head word hand filled
      → names_worked does seen ≡ Some at → filled ≡ Some own → NamesHand hand at own
  worked_hand (work.Advance to) head word hand seen filled at own carries names is = advancing_hand head word hand to seen filled at own carries names is
  worked_hand _ head word hand seen filled at own carries names is = none_some at names

  helped_hand : (helping : Helping S W) (head : ℕ) (hand : Option ℕ) (seen : Seen) (filled : Option (Offer S)) (at : ℕ) (own : Offer S) → CarriesHelp form helping head hand filled
      → names_helped helping seen ≡ Some at → filled ≡ Some own → NamesHand hand at own
  helped_hand (Known word does) head hand seen filled at own carries names is = worked_hand does head word hand seen filled at own carries names is
  helped_hand _ head hand seen filled at own carries names is = none_some at names

  pub names_hand : (phase : Phase S W) (hand : Option ℕ) (seen : Seen) (filled : Option (Offer S)) (at : ℕ) (own : Offer S) → CarriesIn form phase hand filled
      → names_in phase seen ≡ Some at → filled ≡ Some own → NamesHand hand at own
  names_hand (Help drives help) hand seen filled at own carries names is = helped_hand help.at help.head hand seen filled at own carries names is
  names_hand _ hand seen filled at own carries names is = none_some at names

  -- the block is out of the hand then
  helper_gone : (drives : Bool) (head seats : ℕ) (helping : Helping S W) (mech : Mech S W) (seen : Seen) (at : ℕ) → names_helped helping seen ≡ Some at
      → (stepped form (Help drives (record { head = head; seats = seats; at = helping })) seen mech).hand ≡ None
  helper_gone drives head seats (Known word (work.Advance to)) mech seen at names =
      ap (λ b. if b then None else mech.hand) (names_true (seen.won && is_executing (record_phase to)) (named_block to) at names).0
  helper_gone drives head seats (Known word does) mech seen at names = none_some at names
  helper_gone drives head seats _ mech seen at names = none_some at names

  pub hand_gone : (phase : Phase S W) (mech : Mech S W) (seen : Seen) (at : ℕ) → names_in phase seen ≡ Some at → (stepped form phase seen mech).hand ≡ None
  hand_gone (Help drives help) mech seen at names = helper_gone drives help.head help.seats help.at mech seen at names
  hand_gone _ mech seen at names = none_some at names

-- ---- a block that is named already

module _ {S : Type 0} where
  with_stays : (block at : ℕ) (offer : Offer S) (before : Option (Offer S)) → block ≢ at → (if at == block then Some offer else before) ≡ before
  with_stays block at offer before apart =
      let test : (at == block) ≡ false = grind (arith, nat_tests) in
      ap (λ b. if b then Some offer else before) test

  if_stays : (won names : Bool) (block : ℕ) (filled : Option (Offer S)) (offers : ℕ → Option (Offer S)) (at : ℕ)
      → ((own : Offer S) → (if won && names then Some block else None) ≡ Some block → filled ≡ Some own → block ≢ at) → (if won then offers_if names block filled offers else offers) at ≡ offers at
  if_stays false names block filled offers at apart = refl
  if_stays true false block filled offers at apart = refl
  if_stays true true block None offers at apart = refl
  if_stays true true block (Some offer) offers at apart = with_stays block at offer (offers at) (apart offer refl refl)

-- no step names this block
abbrev pub NamesOthers : {S : Type 0} → Option ℕ → Option (Offer S) → ℕ → Type 0
NamesOthers names filled at = (block : ℕ) (own : Offer _) → names ≡ Some block → filled ≡ Some own → block ≢ at

module _ {S W : Type 0} where
  worked_stays : (does : Work S W) (seen : Seen) (filled : Option (Offer S)) (offers : ℕ → Option (Offer S)) (at : ℕ) → NamesOthers (names_worked does seen) filled at → offers_worked does seen filled offers at ≡ offers at
  worked_stays (work.Advance to) seen filled offers at apart = if_stays seen.won (is_executing (record_phase to)) (named_block to) filled offers at (λ own names is. apart (named_block to) own names is)
  worked_stays _ seen filled offers at apart = refl

  helped_stays : (helping : Helping S W) (seen : Seen) (filled : Option (Offer S)) (offers : ℕ → Option (Offer S)) (at : ℕ) → NamesOthers (names_helped helping seen) filled at → offers_helped helping seen filled offers at ≡ offers at
  helped_stays (Known word does) seen filled offers at apart = worked_stays does seen filled offers at apart
  helped_stays _ seen filled offers at apart = refl

  -- stays so
  pub named_stays : (phase : Phase S W) (seen : Seen) (filled : Option (Offer S)) (offers : ℕ → Option (Offer S)) (at : ℕ) → NamesOthers (names_in phase seen) filled at
      → offers_after phase seen filled offers at ≡ offers at
  named_stays (Help drives help) seen filled offers at apart = helped_stays help.at seen filled offers at apart
  named_stays _ seen filled offers at apart = refl
