-- All that holds of offered blocks holds after the record leaves Executing, where the list has stopped.
use Rattle.std.proofs.Common.{◌≡◌, ◌≢◌, ◌∙◌, sym, subst, ap, ℕ, ◌+◌, ◌<◌, true, inl, inr, List, Option, Some, arith}
use Rattle.std.proofs.lemmas.Bool.{cases_eq}
use Rattle.word_fields.specs.declared.records.RecordPhase.TheVariants.{Executing}
use Rattle.word_fields.specs.Payloads.{payload_block}
use Rattle.word_fields.specs.Records.{record_phase, record_payload}
use Rattle.word_fields.specs.Versioned.{versioned_bit}
use Rattle.node_arena.specs.MemoryMap.{record_place, MayBeClients}
use Rattle.node_arena.proofs.PlacesApart.{block_place_behind}
use Rattle.normal_traits.specs.World.{Among, Listed, Won, World, Took, is_word}
use Rattle.normal_traits.specs.World.Maker.{By}
use Rattle.normal_traits.specs.NormalForm.{NormalForm}
use Rattle.normal_traits.specs.Steps.{IsStep}
use Rattle.normal_traits.specs.Laws.{Laws}
use Rattle.cas_executor.specs.SlowRuns.{state_place}
use Rattle.cas_executor_laws.specs.Entries.Turn.{stays}
use Rattle.cas_executor_laws.specs.Parts.{Deed, KnowsStop}
use Rattle.offered_blocks.specs.Blocks.{Offer, site_of, has_taken, IsOffer, HasBlocks, MayBeMarked, IsExecuting, JournalRises, record_for}
use Rattle.offered_blocks.proofs.Blocks.Named.{some_offer, no_bits, word_marked}
use Rattle.offered_blocks.proofs.Helpers.BitsKept.{executing_same}
use Rattle.offered_blocks.proofs.Blocks.Kept.{offer_kept}
use Rattle.offered_blocks.proofs.Blocks.Places.{record_out}

module _ {S W : Type 0} (form : NormalForm S W) (laws : Laws form) (world after : World) (shape : form.shape world) (step : IsStep form world after)
    (offers : ℕ → Option (Offer S)) (blocks : HasBlocks form world offers)
    (block : ℕ) (offer : Offer S) (stands : offers block ≡ Some offer) (named : IsExecuting world offer.list)
    (stop : ℕ) (stopped : KnowsStop (site_of offer) world.words (has_taken world.journal offer.list) stop) (small : offer.list.call.seat < 8)
    (beside : (place : ℕ) → place ≢ record_place offer.list.call.seat → after.words place ≡ world.words place) (used : after.used ≡ world.used)
    (journal : after.journal ≡ world.journal) (left : record_phase (after.words (record_place offer.list.call.seat)) ≢ Executing) where
  -- no word of a client is a record
  marked_beside : (place : ℕ) → MayBeMarked form place → after.words place ≡ world.words place
  marked_beside place may = beside place (λ e. record_out offer.list.call.seat small (subst MayBeClients e may.place_is))

  state_beside : (b j : ℕ) → after.words (state_place b j) ≡ world.words (state_place b j)
  state_beside b j = beside (state_place b j) (λ e. let behind = block_place_behind b (9 + j) in absurd (omega (arith, behind, e, small)))

  is_same : (place : ℕ) → is_word form.is_root world place ≡ true → is_word form.is_root after place ≡ true
  is_same place h = subst (λ u. is_word form.is_root (record { words = after.words; changes = after.changes; used = u; journal = after.journal }) place ≡ true) (sym used) h

  taken_same : (list : Listed) (j : ℕ) → has_taken after.journal list j ≡ has_taken world.journal list j
  taken_same list j = ap (λ log. has_taken log list j) journal

  took_same : (list : Listed) (j : ℕ) → Took world list j → Took after list j
  took_same list j t = record { entry = t.entry; cause = t.cause; listed = t.listed; won = subst (λ (log : List Won). Among (record { place = t.entry.target; before = t.entry.from; after = t.entry.to; maker = By list j; cause = t.cause }) log) (sym journal) t.won }

  -- a list that is executed is the one that stopped, or its record stays
  same_offer : (other : ℕ) (mate : Offer S) → offers other ≡ Some mate → IsExecuting world mate.list → mate ≡ offer
  same_offer other mate stands' is =
      let seat = blocks.one mate.list offer.list is named in
      let record' : record_for world mate.list ≡ record_for world offer.list = ap (λ s. world.words (record_place s)) seat in
      let mine = blocks.offered block offer stands in
      let theirs = blocks.offered other mate stands' in
      let same : other ≡ block = sym theirs.block_is ∙ sym is.block ∙ ap (λ w. payload_block (record_payload w)) record' ∙ named.block ∙ mine.block_is in
      some_offer mate offer (offers block) (subst (λ b. offers b ≡ Some mate) same stands') stands

  deed : (other : ℕ) (mate : Offer S) → offers other ≡ Some mate → Deed (site_of mate) world.words (has_taken world.journal mate.list) after.words (has_taken after.journal mate.list)
  deed other mate stands' =
      let theirs = blocks.offered other mate stands' in
      record {
        turns = λ j entry listed. (let at = theirs.targets j entry listed in
            stays (state_beside mate.list.block j) (marked_beside entry.target (word_marked form world offers blocks entry.target at.0 at.1 at.2)) (taken_same mate.list j));
        taken = λ j within differs. absurd (differs (taken_same mate.list j));
        decided = λ j within differs. absurd (differs (state_beside mate.list.block j));
      }

  offer_after : (other : ℕ) (mate : Offer S) → offers other ≡ Some mate → IsOffer form after other mate
  offer_after other mate stands' =
      let theirs = blocks.offered other mate stands' in
      offer_kept form laws world after shape step is_same other mate theirs (deed other mate stands')
      (λ j took. took_same mate.list j (theirs.taken j (sym (taken_same mate.list j) ∙ took)))
      (λ is. inr (stop, subst (λ (o : Offer S). KnowsStop (site_of o) world.words (has_taken world.journal o.list) stop) (sym (same_offer other mate stands' is)) stopped))

  -- no list of this seat is executed then, and the others' records stay
  executed_before : (list : Listed) → IsExecuting after list → IsExecuting world list
  executed_before list is =
      elim (cases_eq list.call.seat offer.list.call.seat) [
        | inl same ↦ absurd (left (ap (λ s. record_phase (after.words (record_place s))) (sym same) ∙ is.phase))
        | inr apart ↦ executing_same after world list (sym (beside (record_place list.call.seat) (λ e. apart (omega (arith, e))))) is
      ]

  pub settles_kept : JournalRises after → HasBlocks form after offers
  settles_kept rises = record {
    offered = offer_after;
    apart = blocks.apart;
    one = λ list other is is'. blocks.one list other (executed_before list is) (executed_before other is');
    bits = λ place may bit. absurd (no_bits form world offers blocks block offer stands named stop stopped place may (ap versioned_bit (sym (marked_beside place may)) ∙ bit));
    journal = rises;
  }
