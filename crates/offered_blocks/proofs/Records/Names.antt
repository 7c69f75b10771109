-- All that holds of offered blocks holds after a record names a block, where no list was executed before.
use Rattle.std.proofs.Common.{◌≡◌, ◌≢◌, ◌∙◌, sym, subst, ap, ℕ, ◌+◌, ◌<◌, ◌^◌, true, false, inl, inr, List, Option, Some, arith}
use Rattle.std.proofs.lemmas.Bool.{cases_eq}
use Rattle.word_fields.specs.Versioned.{versioned_bit, versioned_version}
use Rattle.node_arena.specs.MemoryMap.{record_place, MayBeClients}
use Rattle.node_arena.proofs.PlacesApart.{block_place_behind}
use Rattle.normal_traits.specs.World.{Among, Listed, Won, World, Took, is_word}
use Rattle.normal_traits.specs.World.Maker.{By}
use Rattle.normal_traits.specs.NormalForm.{NormalForm}
use Rattle.normal_traits.specs.Steps.{IsOffered, IsStep}
use Rattle.normal_traits.specs.Laws.{Laws}
use Rattle.cas_executor.specs.SlowRuns.{state_place}
use Rattle.cas_executor_laws.specs.Entries.Turn.{stays}
use Rattle.cas_executor_laws.specs.Parts.{Deed}
use Rattle.offered_blocks.specs.Blocks.{Offer, site_of, has_taken, IsOffer, HasBlocks, MayBeMarked, IsExecuting, JournalRises}
use Rattle.offered_blocks.proofs.Blocks.Named.{some_offer, word_marked}
use Rattle.offered_blocks.proofs.Helpers.BitsKept.{executing_same}
use Rattle.offered_blocks.proofs.Blocks.Kept.{offer_kept}
use Rattle.offered_blocks.proofs.Blocks.Begins.{begins_offer}
use Rattle.offered_blocks.proofs.Blocks.Places.{record_out, word_may}

module _ {S W : Type 0} (form : NormalForm S W) (laws : Laws form) (world after : World) (shape : form.shape world) (step : IsStep form world after)
    (offers offers' : ℕ → Option (Offer S)) (blocks : HasBlocks form world offers)
    (block : ℕ) (offer : Offer S) (new : offers' block ≡ Some offer) (old : (other : ℕ) → other ≢ block → offers' other ≡ offers other)
    (identity : (other : ℕ) (mate : Offer S) → offers other ≡ Some mate → mate.list.identity ≢ offer.list.identity)
    (offered : IsOffered form world offer.list offer.offering offer.since) (block_is : offer.list.block ≡ block) (some : 0 < block)
    (room : (place : ℕ) → is_word form.is_root world place ≡ true → form.is_versioned place ≡ true → versioned_version (world.words place) + 1 < 2 ^ 39)
    (pending : (j : ℕ) → j < 2 → world.words (state_place block j) ≡ 0) (fresh : (j : ℕ) → has_taken world.journal offer.list j ≡ false)
    (none : (list : Listed) → IsExecuting world list → ⊥) (small : offer.list.call.seat < 8)
    (beside : (place : ℕ) → place ≢ record_place offer.list.call.seat → after.words place ≡ world.words place) (used : after.used ≡ world.used)
    (journal : after.journal ≡ world.journal) (named : IsExecuting after offer.list) where
  marked_beside : (place : ℕ) → MayBeMarked form place → after.words place ≡ world.words place
  marked_beside place may = beside place (λ e. record_out offer.list.call.seat small (subst MayBeClients e may.place_is))

  state_beside : (b j : ℕ) → after.words (state_place b j) ≡ world.words (state_place b j)
  state_beside b j = beside (state_place b j) (λ e. let behind = block_place_behind b (9 + j) in absurd (omega (arith, behind, e, small)))

  is_same : (place : ℕ) → is_word form.is_root world place ≡ true → is_word form.is_root after place ≡ true
  is_same place h = subst (λ u. is_word form.is_root (record { words = after.words; changes = after.changes; used = u; journal = after.journal }) place ≡ true) (sym used) h

  was_word : (place : ℕ) → is_word form.is_root after place ≡ true → is_word form.is_root world place ≡ true
  was_word place h = subst (λ u. is_word form.is_root (record { words = world.words; changes = world.changes; used = u; journal = world.journal }) place ≡ true) used h

  taken_same : (list : Listed) (j : ℕ) → has_taken after.journal list j ≡ has_taken world.journal list j
  taken_same list j = ap (λ log. has_taken log list j) journal

  took_same : (list : Listed) (j : ℕ) → Took world list j → Took after list j
  took_same list j t = record { entry = t.entry; cause = t.cause; listed = t.listed; won = subst (λ (log : List Won). Among (record { place = t.entry.target; before = t.entry.from; after = t.entry.to; maker = By list j; cause = t.cause }) log) (sym journal) t.won }

  deed : (other : ℕ) (mate : Offer S) → offers other ≡ Some mate → Deed (site_of mate) world.words (has_taken world.journal mate.list) after.words (has_taken after.journal mate.list)
  deed other mate stands' =
      let theirs = blocks.offered other mate stands' in
      record {
        turns = λ j entry listed. (let at = theirs.targets j entry listed in
            stays (state_beside mate.list.block j) (marked_beside entry.target (word_marked form world offers blocks entry.target at.0 at.1 at.2)) (taken_same mate.list j));
        taken = λ j within differs. absurd (differs (taken_same mate.list j));
        decided = λ j within differs. absurd (differs (state_beside mate.list.block j));
      }

  old_after : (other : ℕ) (mate : Offer S) → offers other ≡ Some mate → IsOffer form after other mate
  old_after other mate stands' =
      let theirs = blocks.offered other mate stands' in
      offer_kept form laws world after shape step is_same other mate theirs (deed other mate stands') (λ j took. took_same mate.list j (theirs.taken j (sym (taken_same mate.list j) ∙ took)))
      (λ is. absurd (none mate.list is))

  -- a word of the client is none of the records
  room_after : (place : ℕ) → is_word form.is_root world place ≡ true → form.is_versioned place ≡ true → versioned_version (after.words place) + 1 < 2 ^ 39
  room_after place here versioned =
      let r = room place here versioned in
      let apart : place ≢ record_place offer.list.call.seat = λ e. record_out offer.list.call.seat small (subst MayBeClients e (word_may form.is_root world place here)) in
      let v = ap versioned_version (beside place apart) in
      omega (arith, r, v)

  new_after : IsOffer form after block offer
  new_after =
      begins_offer form laws after (laws.shape_kept world after shape step) block offer
      (record { command = offered.command; knows = laws.knows_kept world after offer.offering offer.list.call.op offer.since offered.command shape offered.knows step; ready = offered.ready; small = offered.small; entries = offered.entries })
      block_is some (λ place here versioned. room_after place (was_word place here) versioned) (λ j few. state_beside block j ∙ pending j few) (λ j. taken_same offer.list j ∙ fresh j) named

  offer_after : (other : ℕ) (mate : Offer S) → offers' other ≡ Some mate → IsOffer form after other mate
  offer_after other mate stands' =
      elim (cases_eq other block) [
        | inl same ↦ subst (λ b. IsOffer form after b mate) (sym same)
            (subst (λ (o : Offer S). IsOffer form after block o) (some_offer offer mate (offers' block) new (subst (λ b. offers' b ≡ Some mate) same stands')) new_after)
        | inr apart ↦ old_after other mate (sym (old other apart) ∙ stands')
      ]

  -- two identities are one only where the blocks are
  apart_after : (one other : ℕ) (first second : Offer S) → offers' one ≡ Some first → offers' other ≡ Some second → first.list.identity ≡ second.list.identity → one ≡ other
  apart_after one other first second at at' same =
      elim (cases_eq one block) [
        | inl here ↦ elim (cases_eq other block) [
          | inl there ↦ here ∙ sym there
          | inr apart ↦ (let f = some_offer offer first (offers' block) new (subst (λ b. offers' b ≡ Some first) here at) in
              absurd (identity other second (sym (old other apart) ∙ at') (sym same ∙ ap (λ (o : Offer S). o.list.identity) (sym f))))
        ]
        | inr apart ↦ elim (cases_eq other block) [
          | inl there ↦ (let s = some_offer offer second (offers' block) new (subst (λ b. offers' b ≡ Some second) there at') in
              absurd (identity one first (sym (old one apart) ∙ at) (same ∙ ap (λ (o : Offer S). o.list.identity) (sym s))))
          | inr apart' ↦ blocks.apart one other first second (sym (old one apart) ∙ at) (sym (old other apart') ∙ at') same
        ]
      ]

  seat_of : (list : Listed) → IsExecuting after list → list.call.seat ≡ offer.list.call.seat
  seat_of list is =
      elim (cases_eq list.call.seat offer.list.call.seat) [
        | inl same ↦ same
        | inr apart ↦ absurd (none list (executing_same after world list (sym (beside (record_place list.call.seat) (λ e. apart (omega (arith, e))))) is))
      ]

  pub names_kept : JournalRises after → HasBlocks form after offers'
  names_kept rises = record {
    offered = offer_after;
    apart = apart_after;
    one = λ list other is is'. seat_of list is ∙ sym (seat_of other is');
    bits = λ place may bit. absurd (none _ (blocks.bits place may (ap versioned_bit (sym (marked_beside place may)) ∙ bit)).executing);
    journal = rises;
  }
