-- Every won exchange of a record by a helper: it is one of the kinds, what holds of all blocks holds after it, and the
-- record tells what is right, by what the helper carried.
use Rattle.std.proofs.Common.{◌≡◌, ◌∙◌, refl, sym, subst, ap, ℕ, ◌⊎◌, Bool, true, false, inl, inr, List, length, Option, Some, None, arith}
use Rattle.lin_report.specs.declared.calls.Outcome.{Outcome}
use Rattle.lin_report.specs.declared.calls.Outcome.TheVariants.{Plain}
use Rattle.lin_report.specs.declared.calls.Reply.TheVariants.{Exhausted}
use Rattle.word_fields.specs.declared.records.RecordPhase.{RecordPhase as Mark}
use Rattle.word_fields.specs.declared.records.RecordPhase.TheVariants.{Generate, Executing, Wrapping, Completed}
use Rattle.word_fields.specs.Records.{record_of, record_phase, record_number, record_round}
use Rattle.word_fields.proofs.RecordWords.{phase-word}
use Rattle.node_arena.specs.MemoryMap.{record_place}
use Rattle.normal_traits.specs.World.{Called, World}
use Rattle.normal_traits.specs.NormalForm.{NormalForm}
use Rattle.normal_traits.specs.Laws.{Laws}
use Rattle.op_record.specs.Outcomes.{FitsPayload, completed_word, outcome_payload}
use Rattle.fast_slow_engine.specs.HelpWords.{again_word, executing_word, is_executing, named_block, wrapping_word}
use Rattle.offered_blocks.specs.Blocks.{Offer}
use Rattle.offered_blocks.specs.Holds.{HasOffers}
use Rattle.offered_blocks.specs.OtherSteps.{with_offer}
use Rattle.offered_blocks.specs.Records.{RecordIsRight, TellsRight}
use Rattle.move_kinds.specs.Kinds.{HasChanged, IsWon, Kind}
use Rattle.move_kinds.specs.Kinds.Kind.{names as kind_names, settles as kind_settles, completes as kind_completes, restarts as kind_restarts}
use Rattle.move_kinds.proofs.KindsKeep.{kind_kept}
use Rattle.helper_knowledge.specs.Callers.{caller_of}
use Rattle.helper_knowledge.specs.Carried.{OfSome}
use Rattle.helper_knowledge.specs.Knowing.{KnowsOffer}
use Rattle.helper_knowledge.specs.Meetings.{HasWon, IsNew, Meets, offers_if, won_offers, won_world}
use Rattle.helper_knowledge.specs.WorkKnown.{MayAdvance}
use Rattle.helper_knowledge.specs.WorkKnown.MayAdvance.{offers_it, answers, exhausts, settles, completes, restarts}
use Rattle.helper_knowledge.proofs.WonExchanges.Names.{can_name, names_tells, payload_is}
use Rattle.helper_knowledge.proofs.WonExchanges.Completes.{completes_tells, exhausted_right, search_right, wrapped_right}
use Rattle.helper_knowledge.proofs.WonExchanges.Settles.{restarts_tells, settles_tells}

module _ {S W : Type 0} (form : NormalForm S W) (laws : Laws form) (world : World) (offers : ℕ → Option (Offer S)) (holds : HasOffers form world offers)
    (head word : ℕ) (call : Called) (begun : ℕ) (m : Meets form world offers head word call begun)
    (mover : ℕ) (hand : Option ℕ) (filled : Option (Offer S)) (new : (block : ℕ) (offer : Offer S) → hand ≡ Some block → filled ≡ Some offer → IsNew form world offers block offer) where
  abbrev Won : ℕ → Type 0
  Won to = HasWon form world offers head call begun mover hand filled to

  abbrev ToOffers : ℕ → (ℕ → Option (Offer S)) → Type 0
  ToOffers to offers' = RecordIsRight form (won_world world head to) offers' call begun (record_of ((won_world world head to).words (record_place head)))

  won_to : (to : ℕ) → IsWon world (won_world world head to) head word to
  won_to to = record { small = m.small; stood = m.stood; after_is = refl }

  -- by its kind, with the offers as they are then
  won_by : (to : ℕ) (offers' : ℕ → Option (Offer S)) → won_offers to filled offers ≡ offers' → (won_offers to filled offers ≡ offers' → Kind form world (won_world world head to) offers (won_offers to filled offers) mover hand)
      → ToOffers to offers' → Won to
  won_by to offers' same makes tells = record {
    kind = makes same;
    holds = kind_kept form laws world offers holds (won_world world head to) (won_offers to filled offers) mover hand (makes same);
    tells = subst (ToOffers to) (sym same) tells;
  }

  -- an exchange that names no block
  others_won : (to : ℕ) (phase : Mark) → record_phase to ≡ phase → is_executing phase ≡ false → (won_offers to filled offers ≡ offers → Kind form world (won_world world head to) offers (won_offers to filled offers) mover hand)
      → ToOffers to offers → Won to
  others_won to phase is other = won_by to offers (ap (λ b. offers_if b (named_block to) filled offers) (ap is_executing is ∙ other))

  completed_won : (outcome : Outcome) → FitsPayload outcome → (record_phase word ≡ Generate) ⊎ HasChanged world offers head word outcome → TellsRight form world call begun outcome → Won (completed_word (record_of word) outcome)
  completed_won outcome fits phase right =
      let to = completed_word (record_of word) outcome in
      others_won to Completed (phase-word Completed (record_number word) (record_round word) (outcome_payload outcome)) refl (λ same. kind_completes head word outcome phase (won_to to) same)
      (completes_tells form laws world offers holds head word call begun m outcome fits right)

  -- the block in hand is named
  offers_named : (to block : ℕ) (offer : Offer S) (given : Option (Offer S)) (executing : Bool) → given ≡ Some offer → executing ≡ true → named_block to ≡ block → offers_if executing (named_block to) given offers ≡ with_offer block offer offers
  offers_named to block offer given executing is yes' named =
      ap (λ (g : Option (Offer S)). offers_if executing (named_block to) g offers) is ∙ ap (λ (b : Bool). offers_if b (named_block to) (Some offer) offers) yes' ∙ ap (λ n. with_offer n offer offers) named

  named_won : (offer : Offer S) (block : ℕ) (stores : List (ℕ × ℕ)) → record_phase word ≡ Generate → hand ≡ Some block → filled ≡ Some offer
      → KnowsOffer form world (caller_of call begun) head word block stores (length stores) offer → Won (executing_word word block)
  named_won offer block stores generates in_hand is knows =
      let to = executing_word word block in
      let fresh = new block offer in_hand is in
      let named = payload_is form laws world offers holds head word call begun m generates block stores offer knows fresh in
      let executing = ap is_executing (phase-word Executing (record_number word) (record_round word) block) in
      won_by to (with_offer block offer offers) (offers_named to block offer filled (is_executing (record_phase to)) is executing named)
      (λ same. kind_names head word block offer generates in_hand knows.seat_is (can_name form laws world offers holds head word call begun m generates block stores offer knows fresh) (won_to to) same)
      (names_tells form laws world offers holds head word call begun m generates block stores offer knows fresh)

  some_won : (given : Option (Offer S)) (block : ℕ) (stores : List (ℕ × ℕ)) → record_phase word ≡ Generate → hand ≡ Some block → filled ≡ given
      → OfSome (KnowsOffer form world (caller_of call begun) head word block stores (length stores)) given → Won (executing_word word block)
  some_won None block stores generates in_hand is knows = absurd knows
  some_won (Some offer) block stores generates in_hand is knows = named_won offer block stores generates in_hand is knows

  pub won_advances : (to : ℕ) → MayAdvance form world offers (caller_of call begun) head word hand filled to → Won to
  won_advances to (offers_it block stores generates in_hand is knows) = subst Won (sym is) (some_won filled block stores generates in_hand refl knows)
  won_advances to (answers since op outcome generates is fits known) =
      subst Won (sym is) (completed_won outcome fits (inl generates) (search_right form laws world offers holds head word call begun m generates since op outcome known))
  won_advances to (exhausts generates is) =
      subst Won (sym is) (completed_won (Plain Exhausted) (omega arith) (inl generates) (exhausted_right form laws world offers holds head word call begun m generates))
  won_advances to (settles stop offer executes of is stopped) =
      let next = wrapping_word word stop in
      subst Won (sym is)
      (others_won next Wrapping (phase-word Wrapping (record_number word) (record_round word) _) refl (λ same. kind_settles head word stop offer executes of stopped (won_to next) same)
      (settles_tells form laws world offers holds head word call begun m offer of executes stop stopped))
  won_advances to (completes outcome offer wraps of is fits by fixed) =
      subst Won (sym is) (completed_won outcome fits (inr (record { phase = wraps; offer = offer; of = of; by = by })) (wrapped_right form laws world offers holds head word call begun m wraps outcome offer of by fixed))
  won_advances to (restarts offer wraps of is dead) =
      let next = again_word word in
      subst Won (sym is)
      (others_won next Generate (phase-word Generate (record_number word) _ 0) refl (λ same. kind_restarts head word offer wraps of dead (won_to next) same)
      (restarts_tells form laws world offers holds head word call begun m offer of wraps dead))
