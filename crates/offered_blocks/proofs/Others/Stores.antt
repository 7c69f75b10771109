-- A store of the engine, at its own first words but the records or in a spare block, is an allowed step, and what
-- holds of all blocks holds after it.
use Rattle.std.proofs.Common.{◌≡◌, ◌≢◌, ◌∙◌, refl, sym, subst, ap, ℕ, ◌+◌, ◌<◌, true, false, inl, inr, Option, Some, arith}
use Rattle.std.proofs.lemmas.Bool.{cases_eq}
use Rattle.word_fields.specs.Versioned.{versioned_bit, versioned_version}
use Rattle.node_arena.specs.MemoryMap.{block_place, record_place}
use Rattle.node_arena.proofs.PlacesApart.{block_place_behind, same_block, same_field}
use Rattle.normal_traits.specs.World.{World, is_word}
use Rattle.normal_traits.specs.NormalForm.{NormalForm}
use Rattle.normal_traits.specs.Steps.{IsStep, put_word}
use Rattle.normal_traits.specs.Steps.IsStep.{elsewhere}
use Rattle.normal_traits.specs.Laws.{Laws}
use Rattle.normal_traits.proofs.Stays.{word_beside, word_put}
use Rattle.cas_executor.specs.SlowRuns.{state_place}
use Rattle.cas_executor_laws.specs.Parts.{Deed}
use Rattle.cas_executor_laws.proofs.OfferedPartsKept.{beside_deed}
use Rattle.offered_blocks.specs.Blocks.{Offer, HasBlocks, MayBeMarked, site_of, has_taken}
use Rattle.offered_blocks.specs.Holds.{HasOffers}
use Rattle.offered_blocks.specs.OtherSteps.{IsEngines, IsStored}
use Rattle.offered_blocks.specs.OtherSteps.IsEngines.{first_word, in_spare}
use Rattle.offered_blocks.proofs.Blocks.HoldsKept.{holds_kept}
use Rattle.offered_blocks.proofs.Blocks.Places.{engine_word, spare_word, words_apart}
use Rattle.offered_blocks.proofs.Blocks.Rises.{rises_same}
use Rattle.offered_blocks.proofs.Helpers.BitsKept.{executing_same}
use Rattle.offered_blocks.proofs.Others.OthersKept.{others_kept}

-- no stored field has a state of an entry
pub stored_no_state : (field j : ℕ) → j < 2 → IsStored field → 9 + j ≢ field
stored_no_state field j few (inl low) e = absurd (omega (arith, few, low, e))
stored_no_state field j few (inr high) e = absurd (omega (arith, few, high, e))

module _ {S W : Type 0} (form : NormalForm S W) (world : World) (offers : ℕ → Option (Offer S)) (place : ℕ) where
  -- it is no word of the client
  pub engines_word : IsEngines world offers place → is_word form.is_root world place ≡ false
  engines_word (first_word low out record') = engine_word form.is_root world place low out
  engines_word (in_spare block field spare small stored at) = subst (λ p. is_word form.is_root world p ≡ false) (sym at) (spare_word form.is_root world block field small spare.unused)

  -- nor the record of a seat
  pub engines_record : IsEngines world offers place → (seat : ℕ) → seat < 8 → record_place seat ≢ place
  engines_record (first_word low out record') seat few e = record' seat few (sym e)
  engines_record (in_spare block field spare small stored at) seat few e = (let behind = block_place_behind block field in absurd (omega (arith, few, behind, at, e)))

  -- nor a state of any block
  pub engines_state : IsEngines world offers place → (block j : ℕ) → j < 2 → state_place block j ≢ place
  engines_state (first_word low out record') block j few e = (let behind = block_place_behind block (9 + j) in absurd (omega (arith, low, behind, e)))
  engines_state (in_spare other field spare small stored at) block j few e = stored_no_state field j few stored (same_field block (9 + j) other field (omega (arith, few)) small (e ∙ at))

  -- nor a field of a block that a record has named
  pub engines_field : IsEngines world offers place → (block field : ℕ) (offer : Offer S) → offers block ≡ Some offer → field < 32 → block_place block field ≢ place
  engines_field (first_word low out record') block field offer stands small e = (let behind = block_place_behind block field in absurd (omega (arith, low, behind, e)))
  engines_field (in_spare other at spare within stored is) block field offer stands small e = spare.unnamed offer (ap offers (sym (same_block block field other at small within (e ∙ is))) ∙ stands)

module _ {S W : Type 0} (form : NormalForm S W) (laws : Laws form) (world : World) (offers : ℕ → Option (Offer S)) (is : HasOffers form world offers)
    (place word : ℕ) (engines : IsEngines world offers place) (clear : MayBeMarked form place → versioned_bit word ≡ 0) where
  abbrev pub stored : World
  stored = put_word place word world

  stays : (at : ℕ) → at ≢ place → stored.words at ≡ world.words at
  stays at apart = word_beside place word world.words at apart

  client_stays : (at : ℕ) → is_word form.is_root world at ≡ true → stored.words at ≡ world.words at
  client_stays at here = stays at (words_apart form.is_root world at place here (engines_word form world offers place engines))

  pub store_step : IsStep form world stored
  store_step = elsewhere place word (engines_word form world offers place engines)

  state_stays : (block j : ℕ) → j < 2 → stored.words (state_place block j) ≡ world.words (state_place block j)
  state_stays block j few = stays (state_place block j) (engines_state form world offers place engines block j few)

  deed : (block : ℕ) (offer : Offer S) → offers block ≡ Some offer → Deed (site_of offer) world.words (has_taken world.journal offer.list) stored.words (has_taken stored.journal offer.list)
  deed block offer stands =
      let mine = is.blocks.offered block offer stands in
      (beside_deed (site_of offer) mine.site world.words (has_taken world.journal offer.list) stored.words (has_taken stored.journal offer.list)
      (λ j within. state_stays offer.list.block j (let short = mine.site.short in omega (arith, within, short))) (λ j entry listed. client_stays entry.target (mine.targets j entry listed).0) (λ j within. refl)).deed

  no_new : (at : ℕ) → MayBeMarked form at → versioned_bit (stored.words at) ≡ 1 → stored.words at ≡ world.words at
  no_new at may bit =
      elim (cases_eq at place) [
        | inl same ↦
            let none = clear (subst (MayBeMarked form) same may) in
            let there = ap versioned_bit (word_put place word world.words at same) in
            absurd (omega (arith, none, there, bit))
        | inr apart ↦ stays at apart
      ]

  store_blocks : HasBlocks form stored offers
  store_blocks =
      others_kept form laws world stored is.shape store_step (λ at here. here) offers is.blocks deed
      (λ block offer stands j took. let old = (is.blocks.offered block offer stands).taken j took in record { entry = old.entry; cause = old.cause; listed = old.listed; won = old.won })
      (λ list named. executing_same world stored list (stays (record_place list.call.seat) (engines_record form world offers place engines list.call.seat named.seated)) named)
      (λ list named. executing_same stored world list (sym (stays (record_place list.call.seat) (engines_record form world offers place engines list.call.seat named.seated))) named)
      (λ list j took. took) no_new
      (rises_same world stored (λ won among. let same = ap versioned_version (client_stays won.place (is.journal won among)) in omega (arith, same)) refl is.blocks.journal)

  pub store_kept : HasOffers form stored offers
  store_kept =
      holds_kept form laws world stored offers is store_step
      (λ block offer stands free field small stored'. stays (block_place block field) (engines_field form world offers place engines block field offer stands small))
      (λ block offer stands none free. free) (λ list j took. took) (λ block j some few unnamed. state_stays block j few) store_blocks is.journal
