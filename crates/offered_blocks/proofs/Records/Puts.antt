-- A word put into the record of a seat is an allowed step, and leaves what the blocks and the words of the client are.
use Rattle.std.proofs.Common.{◌≡◌, ◌≢◌, ◌∙◌, refl, sym, ap, ℕ, ◌+◌, ◌<◌, true, inl, inr, Option, Some, arith, subst}
use Rattle.std.proofs.lemmas.Bool.{cases_eq}
use Rattle.word_fields.specs.declared.records.RecordPhase.TheVariants.{Executing}
use Rattle.word_fields.specs.Records.{record_phase}
use Rattle.word_fields.specs.Versioned.{versioned_version}
use Rattle.node_arena.specs.MemoryMap.{block_place, record_place, MayBeClients}
use Rattle.node_arena.proofs.PlacesApart.{block_place_behind}
use Rattle.normal_traits.specs.World.{Listed, World, is_word}
use Rattle.normal_traits.specs.NormalForm.{NormalForm}
use Rattle.normal_traits.specs.Steps.{IsStep, put_word}
use Rattle.normal_traits.specs.Steps.IsStep.{elsewhere}
use Rattle.normal_traits.specs.Laws.{Laws}
use Rattle.normal_traits.proofs.Stays.{word_beside, word_put}
use Rattle.cas_executor_laws.specs.Parts.{Deed, KnowsStop}
use Rattle.cas_executor_laws.proofs.OfferedPartsKept.{beside_deed}
use Rattle.offered_blocks.specs.Blocks.{Offer, HasBlocks, IsExecuting, JournalRises, MayBeMarked, site_of, has_taken}
use Rattle.offered_blocks.specs.Holds.{HasOffers}
use Rattle.offered_blocks.proofs.Blocks.HoldsKept.{holds_kept}
use Rattle.offered_blocks.proofs.Blocks.Places.{record_word, words_apart, record_out}
use Rattle.offered_blocks.proofs.Blocks.Rises.{rises_same}
use Rattle.offered_blocks.proofs.Helpers.BitsKept.{executing_same}
use Rattle.offered_blocks.proofs.Others.OthersKept.{others_kept}
use Rattle.offered_blocks.proofs.Records.Settles.{settles_kept}

module _ {S W : Type 0} (form : NormalForm S W) (laws : Laws form) (world : World) (offers : ℕ → Option (Offer S)) (is : HasOffers form world offers) (seat word : ℕ) (few : seat < 8) where
  abbrev pub put : World
  put = put_word (record_place seat) word world

  pub put_step : IsStep form world put
  put_step = elsewhere (record_place seat) word (record_word form.is_root world seat few)

  pub put_there : put.words (record_place seat) ≡ word
  put_there = word_put (record_place seat) word world.words (record_place seat) refl

  pub put_beside : (place : ℕ) → place ≢ record_place seat → put.words place ≡ world.words place
  put_beside place apart = word_beside (record_place seat) word world.words place apart

  client_stays : (place : ℕ) → is_word form.is_root world place ≡ true → put.words place ≡ world.words place
  client_stays place here = put_beside place (words_apart form.is_root world place (record_place seat) here (record_word form.is_root world seat few))

  pub block_stays : (block field : ℕ) → put.words (block_place block field) ≡ world.words (block_place block field)
  block_stays block field = put_beside (block_place block field) (λ e. let behind = block_place_behind block field in absurd (omega (arith, behind, few, e)))

  pub put_rises : JournalRises put
  put_rises = rises_same world put (λ won among. let same = ap versioned_version (client_stays won.place (is.journal won among)) in omega (arith, same)) refl is.blocks.journal

  marked_stays : (place : ℕ) → MayBeMarked form place → put.words place ≡ world.words place
  marked_stays place may = put_beside place (λ e. record_out seat few (subst MayBeClients e may.place_is))

  put_deed : (block : ℕ) (offer : Offer S) → offers block ≡ Some offer → Deed (site_of offer) world.words (has_taken world.journal offer.list) put.words (has_taken put.journal offer.list)
  put_deed block offer stands =
      let mine = is.blocks.offered block offer stands in
      (beside_deed (site_of offer) mine.site world.words (has_taken world.journal offer.list) put.words (has_taken put.journal offer.list)
      (λ j within. block_stays offer.list.block (9 + j)) (λ j entry listed. client_stays entry.target (mine.targets j entry listed).0) (λ j within. refl)).deed

  -- what holds of all blocks, where it holds of the offered ones
  pub put_holds : HasBlocks form put offers → HasOffers form put offers
  put_holds blocks =
      holds_kept form laws world put offers is put_step (λ block offer stands free field small stored. block_stays block field) (λ block offer stands none free. free) (λ list j took. took)
      (λ block j some small unnamed. block_stays block (9 + j)) blocks is.journal

  -- a record that names no block, before and after
  module _ (before : record_phase (world.words (record_place seat)) ≢ Executing) (after : record_phase word ≢ Executing) where
    executes : (list : Listed) → IsExecuting world list → IsExecuting put list
    executes list named =
        elim (cases_eq list.call.seat seat) [
          | inl same ↦ absurd (before (ap (λ s. record_phase (world.words (record_place s))) (sym same) ∙ named.phase))
          | inr apart ↦ executing_same world put list (put_beside (record_place list.call.seat) (λ e. apart (omega (arith, e)))) named
        ]

    executed : (list : Listed) → IsExecuting put list → IsExecuting world list
    executed list named =
        elim (cases_eq list.call.seat seat) [
          | inl same ↦ absurd (after (ap record_phase (sym put_there) ∙ ap (λ s. record_phase (put.words (record_place s))) (sym same) ∙ named.phase))
          | inr apart ↦ executing_same put world list (sym (put_beside (record_place list.call.seat) (λ e. apart (omega (arith, e))))) named
        ]

    pub put_kept : HasOffers form put offers
    put_kept =
        put_holds (others_kept form laws world put is.shape put_step (λ place here. here) offers is.blocks put_deed
        (λ block offer stands j took. let old = (is.blocks.offered block offer stands).taken j took in record { entry = old.entry; cause = old.cause; listed = old.listed; won = old.won })
        executes executed (λ list j took. took) (λ place may bit. marked_stays place may) put_rises)

  -- the record of an executed list that has stopped leaves Executing
  pub leaves_kept : (block : ℕ) (offer : Offer S) → offers block ≡ Some offer → IsExecuting world offer.list → offer.list.call.seat ≡ seat
      → (stop : ℕ) → KnowsStop (site_of offer) world.words (has_taken world.journal offer.list) stop → record_phase word ≢ Executing → HasOffers form put offers
  leaves_kept block offer stands named mine stop stopped left =
      put_holds (settles_kept form laws world put is.shape put_step offers is.blocks block offer stands named stop stopped named.seated
      (λ place apart. put_beside place (λ e. apart (e ∙ ap record_place (sym mine)))) refl refl
      (λ e. left (sym (ap record_phase put_there) ∙ ap (λ s. record_phase (put.words (record_place s))) (sym mine) ∙ e)) put_rises)
