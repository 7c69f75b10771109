-- A won exchange of a word of the client beside the offered lists: what holds of all blocks holds after it.
use Rattle.std.proofs.Common.{◌≡◌, ◌≢◌, ◌∙◌, refl, sym, subst, ap, ℕ, ◌<◌, ◌||◌, true, false, inl, inr, List, Option, Some, arith}
use Rattle.std.proofs.lemmas.Bool.{cases_Bool, cases_eq, or_right}
use Rattle.word_fields.specs.Versioned.{versioned_bit, versioned_version}
use Rattle.word_fields.proofs.ChangedWords.{bit-cleared, version-cleared}
use Rattle.node_arena.specs.MemoryMap.{block_place, record_place}
use Rattle.normal_traits.specs.declared.lists.Entry.{Entry}
use Rattle.normal_traits.specs.World.{Among, Listed, Maker, Took, Won, World, is_word}
use Rattle.normal_traits.specs.World.Maker.{By}
use Rattle.normal_traits.specs.NormalForm.{NormalForm}
use Rattle.normal_traits.specs.Laws.{Laws}
use Rattle.normal_traits.proofs.Stays.{passed_stays, word_beside, word_put}
use Rattle.cas_executor.specs.SlowRuns.{state_place}
use Rattle.cas_executor_laws.specs.Parts.{Deed}
use Rattle.offered_blocks.specs.Blocks.{Offer, HasBlocks, MayBeMarked, site_of, has_taken, is_of}
use Rattle.offered_blocks.specs.Holds.{HasOffers, JournalWords}
use Rattle.offered_blocks.specs.OtherSteps.{IsExchange}
use Rattle.offered_blocks.proofs.Blocks.Items.{both}
use Rattle.offered_blocks.proofs.Blocks.HoldsKept.{holds_kept}
use Rattle.offered_blocks.proofs.Blocks.Places.{record_apart, spare_apart, word_grows}
use Rattle.offered_blocks.proofs.Blocks.Rises.{rises_won}
use Rattle.offered_blocks.proofs.Helpers.BitsKept.{executing_same}
use Rattle.offered_blocks.proofs.Helpers.Deeds.{word_no_state}
use Rattle.offered_blocks.proofs.Others.Foreign.{KeepsBits, foreign_deed}
use Rattle.offered_blocks.proofs.Others.OthersKept.{others_kept}

module _ {S W : Type 0} (form : NormalForm S W) (laws : Laws form) (world after : World) (offers : ℕ → Option (Offer S)) (holds : HasOffers form world offers)
    (maker : Maker) (list : Option Listed) (entry : Entry) (is : IsExchange form world after offers maker list entry) where
  stays : (at : ℕ) → at ≢ entry.target → after.words at ≡ world.words at
  stays at apart = ap (λ (f : ℕ → ℕ). f at) is.words ∙ word_beside entry.target entry.to world.words at apart

  there : after.words entry.target ≡ entry.to
  there = ap (λ (f : ℕ → ℕ). f entry.target) is.words ∙ word_put entry.target entry.to world.words entry.target refl

  record_stays : (seat : ℕ) → seat < 8 → after.words (record_place seat) ≡ world.words (record_place seat)
  record_stays seat few = stays (record_place seat) (record_apart form.is_root world entry.target seat few is.word)

  state_stays : (block j : ℕ) → 0 < block → j < 2 → after.words (state_place block j) ≡ world.words (state_place block j)
  state_stays block j some few = stays (state_place block j) (λ e. word_no_state form.is_root world block j entry.target some few is.word (sym e))

  -- the offered lists took what they had
  same_taken : (block : ℕ) (offer : Offer S) → offers block ≡ Some offer → (j : ℕ) → has_taken after.journal offer.list j ≡ has_taken world.journal offer.list j
  same_taken block offer stands j = ap (λ log. has_taken log offer.list j) is.journal ∙ ap (λ b. b || has_taken world.journal offer.list j) (is.beside block offer stands j)

  grows : (other : Listed) (j : ℕ) → has_taken world.journal other j ≡ true → has_taken after.journal other j ≡ true
  grows other j took = ap (λ log. has_taken log other j) is.journal ∙ or_right (is_of other j maker) (has_taken world.journal other j) took

  took_after : (block : ℕ) (offer : Offer S) → offers block ≡ Some offer → (j : ℕ) → has_taken after.journal offer.list j ≡ true → Took after offer.list j
  took_after block offer stands j took =
      let old = (holds.blocks.offered block offer stands).taken j (sym (same_taken block offer stands j) ∙ took) in
      record { entry = old.entry; cause = old.cause; listed = old.listed; won = subst (λ (log : List Won). Among (record { place = old.entry.target; before = old.entry.from; after = old.entry.to; maker = By offer.list j; cause = old.cause }) log) (sym is.journal) (inr old.won) }

  keeps_bits : KeepsBits form laws world after offers holds.blocks
  keeps_bits place set cleared =
      elim (cases_eq place entry.target) [
        | inl same ↦
            let version : versioned_version entry.to ≡ versioned_version (world.words place) = ap versioned_version (sym there ∙ ap after.words (sym same) ∙ cleared) ∙ version-cleared (world.words place) in
            let before : versioned_version (world.words place) ≡ versioned_version entry.from = ap versioned_version (ap world.words same ∙ is.stood) in
            absurd (omega (arith, version, before, is.raised))
        | inr apart ↦
            let bit : versioned_bit (world.words place) ≡ 0 = ap versioned_bit (sym (stays place apart) ∙ cleared) ∙ bit-cleared (world.words place) in
            absurd (omega (arith, bit, set))
      ]

  pub exchange_deed : (block : ℕ) (offer : Offer S) → offers block ≡ Some offer → Deed (site_of offer) world.words (has_taken world.journal offer.list) after.words (has_taken after.journal offer.list)
  exchange_deed block offer stands =
      let mine = holds.blocks.offered block offer stands in
      foreign_deed form laws world after offers holds.blocks holds.shape is.step keeps_bits block offer stands
      (λ j within. state_stays offer.list.block j (let b = mine.block_is in let some = mine.some in omega (arith, b, some)) (let short = mine.site.short in omega (arith, within, short)))
      (same_taken block offer stands)

  new_bit : (at : ℕ) → MayBeMarked form at → versioned_bit (after.words at) ≡ 1 → after.words at ≡ world.words at
  new_bit at may bit =
      elim (cases_eq at entry.target) [
        | inl same ↦ (let b = ap versioned_bit (ap after.words same ∙ there) in absurd (omega (arith, b, bit, is.to_clear)))
        | inr apart ↦ stays at apart
      ]

  exchange_blocks : HasBlocks form after offers
  exchange_blocks =
      others_kept form laws world after holds.shape is.step (word_grows form.is_root world after is.used) offers holds.blocks exchange_deed took_after
      (λ l named. executing_same world after l (record_stays l.call.seat named.seated) named)
      (λ l named. executing_same after world l (sym (record_stays l.call.seat named.seated)) named) grows new_bit
      (rises_won world after (λ won among. passed_stays form world after won.place (holds.journal won among) is.step)
      (record { place = entry.target; before = entry.from; after = entry.to; maker = maker; cause = form.cause_of world maker entry }) is.journal is.stood is.raised
      (let v = ap versioned_version there in let raised = is.raised in omega (arith, v, raised)) holds.blocks.journal)

  unused_after : (block : ℕ) (offer : Offer S) → offers block ≡ Some offer → world.used block ≡ false → after.used block ≡ false
  unused_after block offer stands free =
      elim (cases_Bool (after.used block)) [
        | inr off ↦ off
        | inl on ↦ elim (is.uses block on) [ inl was ↦ both (world.used block) was free | inr unnamed ↦ absurd (unnamed offer stands) ]
      ]

  -- its item is at a word of the client too
  words_after : JournalWords form.is_root after
  words_after won among =
      word_grows form.is_root world after is.used won.place
      (elim (subst (Among won) is.journal among) [ inl new ↦ subst (λ (w : Won). is_word form.is_root world w.place ≡ true) (sym new) is.word | inr old ↦ holds.journal won old ])

  pub exchange_kept : HasOffers form after offers
  exchange_kept =
      holds_kept form laws world after offers holds is.step
      (λ block offer stands free field small stored. stays (block_place block field) (spare_apart form.is_root world block field entry.target small free is.word))
      (λ block offer stands none free. unused_after block offer stands free) grows (λ block j some few unnamed. state_stays block j some few) exchange_blocks words_after
