-- What a helper knows after a step of its own, by what it did.
use Rattle.std.proofs.Common.{◌≡◌, refl, sym, ap, subst, ℕ, ◌+◌, ◌<◌, ◌≤◌, ◌^◌, ◌==◌, Bool, true, false, if◌then◌else◌, inl, inr, length, slice_get, Option, Some, None}
use Rattle.std.proofs.lemmas.Bool.{eqb-true}
use Rattle.arrayvec.specs.ArrayVec.{ArrayVec}
use Rattle.lin_report.specs.declared.calls.Op.{Op}
use Rattle.lin_report.specs.declared.calls.Outcome.{Outcome}
use Rattle.lin_report.specs.declared.calls.Outcome.TheVariants.{Plain}
use Rattle.lin_report.specs.declared.calls.Reply.TheVariants.{Exhausted}
use Rattle.lin_report.specs.Object.{IsCommandOf}
use Rattle.word_fields.specs.declared.records.RecordPhase.{RecordPhase as Mark}
use Rattle.word_fields.specs.Announced.{op_number, value_number}
use Rattle.word_fields.specs.Records.{record_of, record_phase, record_number}
use Rattle.node_arena.specs.MemoryMap.{op_place, value_place}
use Rattle.help_queue.specs.Gathers.{is_open}
use Rattle.normal_traits.specs.World.{World}
use Rattle.normal_traits.specs.NormalForm.{NormalForm}
use Rattle.normal_traits.specs.Steps.{IsStep, put_word}
use Rattle.normal_traits.specs.Laws.{IsGoodOffer, Laws}
use Rattle.op_record.specs.Outcomes.{FitsPayload, completed_word}
use Rattle.fast_slow_engine.specs.declared.phases.Generating.TheVariants.{Search}
use Rattle.fast_slow_engine.specs.Hands.{block_of}
use Rattle.fast_slow_engine.specs.HelpTable.{filling, first_work}
use Rattle.fast_slow_engine.specs.HelpWords.{announced_op, executing_word, fitted, told_word}
use Rattle.fast_slow_engine.specs.OfferStores.{offer_stores}
use Rattle.offered_blocks.specs.Blocks.{Offer}
use Rattle.helper_knowledge.specs.Carried.{Carried, list_named, OfSome}
use Rattle.helper_knowledge.specs.Callers.{Caller, HasAnnounced}
use Rattle.helper_knowledge.specs.Knowing.{KnowsAnswer, KnowsOffer, KnowsSearch}
use Rattle.helper_knowledge.specs.WorkKnown.{KnowsWork, NamedBy}
use Rattle.helper_knowledge.specs.WorkKnown.MayAdvance.{offers_it, answers, exhausts}
use Rattle.move_kinds.proofs.Stores.Apart.{offer_own}
use Rattle.move_kinds.proofs.Stores.Places.{OwnPlaces}
use Rattle.helper_knowledge.proofs.Own.OwnFill.{begins_fill, fills_on}
use Rattle.helper_knowledge.proofs.Own.OwnSearch.{begins_search, reads_call, reads_op}
use Rattle.word_fields.specs.declared.records.RecordPhase.TheVariants as marks
use Rattle.fast_slow_engine.specs.declared.help.Work.TheVariants as work

module _ {S W : Type 0} (form : NormalForm S W) (laws : Laws form) (world : World) (shape : form.shape world) (offers : ℕ → Option (Offer S)) (caller : Caller) (head word : ℕ) where
  -- ---- before the search

  -- the head was found there: the record's phase says what is done
  pub own_head : (hand : Option ℕ) (own : Carried S) → is_open (record_phase word) ≡ true → NamedBy form world offers (record_phase word) head word
      → KnowsWork form world offers caller head word hand own (first_work form (record_phase word) word)
  own_head hand own opened is = by_phase (record_phase word) refl opened is
    where
      by_phase : (p : Mark) → record_phase word ≡ p → is_open p ≡ true → NamedBy form world offers p head word → KnowsWork form world offers caller head word hand own (first_work form p word)
      by_phase marks.Idle e opened' is' = absurd cc
      by_phase marks.Generate e opened' is' = e
      by_phase marks.Executing e opened' is' = (inl e, is', is, refl, tt)
      by_phase marks.Wrapping e opened' is' = (inr e, (is'.0, is'.1), is, refl, tt)
      by_phase marks.Completed e opened' is' = absurd cc

  -- the op word of its call was loaded
  pub own_op : (hand : Option ℕ) (own : Carried S) → HasAnnounced world head caller → record_phase word ≡ marks.Generate → op_number (world.words (op_place head)) ≡ record_number word
      → KnowsWork form world offers caller head word hand own (work.Value (world.words (op_place head)))
  own_op hand own has generates number = (generates, number, reads_op form laws world shape offers caller head word has number)

  -- so was its value word: a search begins
  pub own_value : (op : ℕ) (hand : Option ℕ) (own own' : Carried S) → HasAnnounced world head caller → IsCommandOf form.object caller.op → caller.number < 2 ^ 16 → caller.begun ≤ length world.changes → own'.since ≡ length world.changes
      → IsCommandOf form.object (announced_op op (world.words (value_place head))) → value_number (world.words (value_place head)) ≡ record_number word
      → KnowsWork form world offers caller head word hand own (work.Value op)
      → KnowsWork form world offers caller head word hand own' (work.Generate (announced_op op (world.words (value_place head))) (form.begin_of (announced_op op (world.words (value_place head)))) Search)
  own_value op hand own own' has command few early since read_command number knows =
      let read = announced_op op (world.words (value_place head)) in
      let begins = begins_search form laws world shape offers caller head word read read_command (reads_call form laws world shape offers caller head word op command few has number knows.2) early in
      (knows.0, subst (KnowsSearch form world caller word read (form.begin_of read)) (sym since) begins.0, begins.1)

  -- ---- the search

  -- the list is named, and its block is to be filled
  pub own_names : (op : Op) (s : S) (block identity : ℕ) (own own' : Carried S) → record_phase word ≡ marks.Generate → block < 2 ^ 17 → form.is_ready s → KnowsSearch form world caller word op s own.since
      → own'.filled ≡ Some (list_named form identity s own.since (record { seat = head; number = record_number word; op = op }) block)
      → KnowsWork form world offers caller head word (Some block) own' (filling form op s head word (Some block))
  own_names op s block identity own own' generates small ready knows held = (
    generates,
    (
      block,
      refl,
      subst (OfSome (KnowsOffer form world caller head word block (offer_stores block head (record_number word) op (form.offer_of s op block).entries (form.offer_of s op block).stores) 0)) (sym held)
          (begins_fill form laws world shape offers caller head word block identity op s own.since small ready knows),
    ),
  )

  -- a search that answered; one that found no block
  pub own_answers : (op : Op) (since : ℕ) (outcome : Outcome) (hand : Option ℕ) (own : Carried S) → record_phase word ≡ marks.Generate → FitsPayload outcome → fitted outcome ≡ outcome → KnowsAnswer form world caller word since op outcome
      → KnowsWork form world offers caller head word hand own (work.Advance (told_word word outcome))
  own_answers op since outcome hand own generates fits same known = answers since op outcome generates (ap (λ o. completed_word (record_of word) o) same) fits known

  pub own_exhausts : (hand : Option ℕ) (own : Carried S) → record_phase word ≡ marks.Generate → KnowsWork form world offers caller head word hand own (work.Advance (told_word word (Plain Exhausted)))
  own_exhausts hand own generates = exhausts generates refl

  -- ---- a store

  pub own_fill : (stores : ArrayVec (ℕ × ℕ)) (made : ℕ) (store : ℕ × ℕ) (hand : Option ℕ) (own : Carried S) → slice_get stores.items made ≡ Some store → IsStep form world (put_word store.0 store.1 world)
      → KnowsWork form world offers caller head word hand own (work.Fill stores made)
      → KnowsWork form (put_word store.0 store.1 world) offers caller head word hand own
      (if made + 1 == length stores.items then work.Advance (executing_word word (block_of hand)) else work.Fill stores (made + 1))
  own_fill stores made store hand own at step knows = by_held own.filled refl knows.1.2
    where
      block : ℕ
      block = knows.1.0

      after : World
      after = put_word store.0 store.1 world

      ends : (b : Bool) → (made + 1 == length stores.items) ≡ b → OfSome (KnowsOffer form after caller head word block stores.items (made + 1)) own.filled
          → KnowsWork form after offers caller head word hand own (if b then work.Advance (executing_word word (block_of hand)) else work.Fill stores (made + 1))
      ends true e known =
          let last : made + 1 ≡ length stores.items = eqb-true (made + 1) (length stores.items) e in
          offers_it block stores.items knows.0 knows.1.1 (ap (λ h. executing_word word (block_of h)) knows.1.1)
          (subst (λ n. OfSome (KnowsOffer form after caller head word block stores.items n) own.filled) last known)
      ends false e known = (knows.0, (block, knows.1.1, known))

      by_held : (held : Option (Offer S)) → own.filled ≡ held → OfSome (KnowsOffer form world caller head word block stores.items made) held
          → KnowsWork form after offers caller head word hand own (if made + 1 == length stores.items then work.Advance (executing_word word (block_of hand)) else work.Fill stores (made + 1))
      by_held None is known = absurd known
      by_held (Some held) is known =
          let good = laws.of_world.offers world held.offering held.list.call.op held.since held.list.block known.offered.command shape known.offered.knows known.offered.ready known.offered.small in
          let good' : IsGoodOffer form world block (form.offer_of held.offering held.list.call.op block) = subst (λ b. IsGoodOffer form world b (form.offer_of held.offering held.list.call.op b)) known.block_is good in
          let places : OwnPlaces stores.items =
          subst OwnPlaces (sym known.stores_are) (offer_own form world block head (record_number word) held.list.call.op held.list.entries (form.offer_of held.offering held.list.call.op block) good') in
          ends (made + 1 == length stores.items) refl
          (subst (OfSome (KnowsOffer form after caller head word block stores.items (made + 1))) (sym is)
          (fills_on form laws world shape offers caller head word block stores.items made held store places at step known))
