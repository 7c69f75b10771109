-- All that holds of offered blocks is kept by every kind of move.
use Rattle.std.proofs.Common.{◌≡◌, ◌≢◌, ◌∙◌, refl, sym, subst, ap, ℕ, ◌+◌, ◌<◌, ◌%◌, ◌^◌, false, inl, inr, Option, arith}
use Rattle.word_fields.specs.declared.records.RecordPhase.{RecordPhase as Mark}
use Rattle.word_fields.specs.declared.records.RecordPhase.TheVariants.{Generate, Executing, Wrapping, Completed}
use Rattle.word_fields.specs.declared.records.RecordWord.{RecordWord}
use Rattle.word_fields.specs.Payloads.{payload_block, wrapping_payload}
use Rattle.word_fields.specs.Records.{record_of, record_phase, record_number, record_round}
use Rattle.word_fields.proofs.RecordWords.{record_of-packed, phase-word}
use Rattle.node_arena.specs.MemoryMap.{block_place, record_place, MayBeClients}
use Rattle.node_arena.proofs.PlacesApart.{engines_out}
use Rattle.help_queue.specs.Gathers.{is_open}
use Rattle.normal_traits.specs.World.{World}
use Rattle.normal_traits.specs.World.Maker.{By, Beside}
use Rattle.normal_traits.specs.NormalForm.{NormalForm}
use Rattle.normal_traits.specs.Laws.{Laws}
use Rattle.normal_traits.specs.Steps.{listed_if, put_word}
use Rattle.op_record.specs.Outcomes.{outcome_payload}
use Rattle.fast_slow_engine.specs.HelpWords.{again_word, executing_word, named_block, wrapping_word}
use Rattle.offered_blocks.specs.Blocks.{Offer, IsExecuting}
use Rattle.offered_blocks.specs.Holds.{HasOffers}
use Rattle.offered_blocks.specs.OtherSteps.{with_offer}
use Rattle.offered_blocks.specs.OtherSteps.IsEngines.{first_word, in_spare}
use Rattle.offered_blocks.proofs.Helpers.Helping.{helps_kept}
use Rattle.offered_blocks.proofs.Others.Exchanges.{exchange_kept}
use Rattle.offered_blocks.proofs.Others.Stores.{store_kept}
use Rattle.offered_blocks.proofs.Records.Naming.{name_kept}
use Rattle.offered_blocks.proofs.Records.Puts.{leaves_kept, put_kept}
use Rattle.move_kinds.specs.Kinds.{Kind, IsCounter, IsOwnWord, IsWon}
use Rattle.move_kinds.specs.Kinds.Kind.{quiet, counts, fills, announces, publishes, queues, names, settles, completes, restarts, executes, beside, enters}
use Rattle.move_kinds.specs.Offering.{IsOfferFor, ListStopsAt}

module _ {S W : Type 0} (form : NormalForm S W) (laws : Laws form) (world : World) (offers : ℕ → Option (Offer S)) (holds : HasOffers form world offers) where
  closed_not : {A : Type 0} (p : Mark) → is_open p ≡ false → p ≡ Executing → A
  closed_not p closed executing = absurd (let e = ap is_open (sym executing) ∙ closed in cc)

  -- ---- places of the engine that are no records

  engine_kept : (place word : ℕ) → place < 32 → ¬ MayBeClients place → ((seat : ℕ) → seat < 8 → place ≢ record_place seat) → HasOffers form (put_word place word world) offers
  engine_kept place word small out apart = store_kept form laws world offers holds place word (first_word small out apart) (λ may. absurd (out may.place_is))

  counter_kept : (place word : ℕ) → IsCounter place → HasOffers form (put_word place word world) offers
  counter_kept place word (inl is) =
      engine_kept place word (omega (arith, is)) (engines_out place (inl (omega (arith, is)))) (λ seat few e. absurd (omega (arith, is, e)))
  counter_kept place word (inr is) =
      engine_kept place word (omega (arith, is)) (engines_out place (inl (omega (arith, is)))) (λ seat few e. absurd (omega (arith, is, e)))

  own_kept : (mover place word : ℕ) → mover < 8 → IsOwnWord mover place → HasOffers form (put_word place word world) offers
  own_kept mover place word few (inl is) =
      engine_kept place word (omega (arith, is, few)) (engines_out place (inr (omega (arith, is), omega (arith, is, few)))) (λ seat small e. absurd (omega (arith, is, e, small)))
  own_kept mover place word few (inr is) =
      engine_kept place word (omega (arith, is, few)) (engines_out place (inl (omega (arith, is, few)))) (λ seat small e. absurd (omega (arith, is, few, e)))

  -- ---- records

  module _ (after : World) (head word to : ℕ) (won : IsWon world after head word to) where
    fields : record_of (world.words (record_place head)) ≡ record_of word
    fields = ap record_of won.stood ∙ record_of-packed (record_of word)

    phase_is : record_phase (world.words (record_place head)) ≡ record_phase word
    phase_is = ap (λ (r : RecordWord). r.phase) fields

    pub left_kept : record_phase word ≢ Executing → record_phase to ≢ Executing → HasOffers form after offers
    left_kept before behind =
        subst (λ w. HasOffers form w offers) (sym won.after_is) (put_kept form laws world offers holds head to won.small (λ e. before (sym phase_is ∙ e)) behind)

    pub settled_kept : (stop : ℕ) (offer : Offer S) → record_phase word ≡ Executing → IsOfferFor offers (named_block word) head (record_number word) offer → ListStopsAt world offer stop → record_phase to ≡ Wrapping
        → HasOffers form after offers
    settled_kept stop offer executing of stopped wraps =
        let at : record_of (world.words (record_place offer.list.call.seat)) ≡ record_of word = ap (λ s. record_of (world.words (record_place s))) of.seat_is ∙ fields in
        let named : IsExecuting world offer.list = record {
          seated = (let seat = of.seat_is in let few = won.small in omega (arith, seat, few));
          phase = ap (λ (r : RecordWord). r.phase) at ∙ executing;
          number = ap (λ (r : RecordWord). r.number) at ∙ sym of.number_is;
          block = ap (λ (r : RecordWord). payload_block r.payload) at ∙ sym (holds.blocks.offered (named_block word) offer of.stands).block_is;
        } in
        subst (λ w. HasOffers form w offers) (sym won.after_is)
        (leaves_kept form laws world offers holds head to won.small (named_block word) offer of.stands named of.seat_is stop stopped
        (λ e. let both : Wrapping ≡ Executing = sym wraps ∙ e in absurd cc))

  -- ---- every kind

  module _ (after : World) (offers' : ℕ → Option (Offer S)) (mover : ℕ) (hand : Option ℕ) where
    moved : (place word : ℕ) → after ≡ put_word place word world → offers' ≡ offers → HasOffers form (put_word place word world) offers → HasOffers form after offers'
    moved place word w o is = subst (λ f. HasOffers form after f) (sym o) (subst (λ v. HasOffers form v offers) (sym w) is)

    with_offers : offers' ≡ offers → HasOffers form after offers → HasOffers form after offers'
    with_offers o is = subst (λ f. HasOffers form after f) (sym o) is

    pub kind_kept : Kind form world after offers offers' mover hand → HasOffers form after offers'
    kind_kept (quiet w o) = with_offers o (subst (λ v. HasOffers form v offers) (sym w) holds)
    kind_kept (counts place word is w o) = moved place word w o (counter_kept place word is)
    kind_kept (fills block field word in_hand' spare small stored clear w o) =
        moved (block_place block field) word w o (store_kept form laws world offers holds (block_place block field) word (in_spare block field spare small stored refl) (λ may. clear may.versioned))
    kind_kept (announces place word few is w o) = moved place word w o (own_kept mover place word few is)
    kind_kept (publishes word few closed opens w o) =
        moved (record_place mover) word w o
        (put_kept form laws world offers holds mover word few (closed_not (record_phase (world.words (record_place mover))) closed)
        (λ e. let both : Generate ≡ Executing = sym opens ∙ e in absurd cc))
    kind_kept (queues word w o) =
        moved 1 word w o (engine_kept 1 word (omega arith) (engines_out 1 (inl (omega arith))) (λ seat few e. absurd (omega (arith, few, e))))
    kind_kept (names head word block offer phase in_hand' seat can won is) =
        subst (λ f. HasOffers form after f) (sym is)
        (subst (λ w. HasOffers form w (with_offer block offer offers)) (ap (λ s. put_word (record_place s) (executing_word word block) world) seat ∙ sym won.after_is)
        (name_kept form laws world offers holds block offer (executing_word word block) can))
    kind_kept (settles head word stop offer phase of stopped won o) =
        with_offers o (settled_kept after head word (wrapping_word word stop) won stop offer phase of stopped (phase-word Wrapping (record_number word) (record_round word) (wrapping_payload (named_block word) stop)))
    kind_kept (completes head word outcome phase won o) =
        with_offers o (left_kept after head word _ won
        (elim phase [
          | inl generates ↦ (λ e. let both : Generate ≡ Executing = sym generates ∙ e in absurd cc)
          | inr wraps ↦ (λ e. let both : Wrapping ≡ Executing = sym wraps.phase ∙ e in absurd cc)
        ])
        (λ e. let both : Completed ≡ Executing = sym (phase-word Completed (record_number word) (record_round word) (outcome_payload outcome)) ∙ e in absurd cc))
    kind_kept (restarts head word offer phase of dead won o) =
        with_offers o (left_kept after head word (again_word word) won (λ e. let both : Wrapping ≡ Executing = sym phase ∙ e in absurd cc)
        (λ e. let both : Generate ≡ Executing = sym (phase-word Generate (record_number word) ((record_round word + 1) % 2 ^ 17) 0) ∙ e in absurd cc))
    kind_kept (executes block offer stands is o) = with_offers o (helps_kept form laws world offers holds block offer stands after is).0
    kind_kept (beside entry is uses o) = with_offers o (exchange_kept form laws world after offers holds Beside (form.adds_beside world entry) entry is)
    kind_kept (enters list j entry fast is uses o) = with_offers o (exchange_kept form laws world after offers holds (By list j) (listed_if (form.adds list j) list) entry is)
