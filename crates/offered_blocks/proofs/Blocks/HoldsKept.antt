-- What holds of all blocks holds after a step that leaves the stored fields of the offered blocks that are not used,
-- and the states of the blocks that no record has named.
use Rattle.std.proofs.Common.{◌≡◌, ◌∙◌, sym, ap, subst, ℕ, ◌<◌, inl, inr, true, false, List, [], ◌∷◌, Option, Some, All, arith}
use Rattle.std.proofs.lemmas.Bool.{cases_Bool}
use Rattle.std.proofs.lemmas.List.Elements.{All-cons, All-head, All-nil, All-tail}
use Rattle.node_arena.specs.MemoryMap.{block_place}
use Rattle.normal_traits.specs.World.{Listed, World}
use Rattle.normal_traits.specs.NormalForm.{NormalForm}
use Rattle.normal_traits.specs.Steps.{IsFilled, IsStep}
use Rattle.normal_traits.specs.Laws.{IsGoodStore, Laws}
use Rattle.cas_executor.specs.SlowRuns.{state_place}
use Rattle.offered_blocks.specs.Blocks.{Offer, HasBlocks, has_taken}
use Rattle.offered_blocks.specs.Holds.{HasOffers, IsUnnamed, JournalWords, Waits}
use Rattle.offered_blocks.specs.OtherSteps.{IsStored}
use Rattle.offered_blocks.proofs.Blocks.Items.{both}

-- what was filled is filled where the stored fields stay
module _ {S W : Type 0} (form : NormalForm S W) (block : ℕ) (world after : World) (stay : (field : ℕ) → field < 32 → IsStored field → after.words (block_place block field) ≡ world.words (block_place block field)) where
  stores_stand : (stores : List (ℕ × ℕ)) → All (IsGoodStore form block) stores → All (λ (store : ℕ × ℕ). world.words store.0 ≡ store.1) stores → All (λ (store : ℕ × ℕ). after.words store.0 ≡ store.1) stores
  stores_stand [] good stood = All-nil (λ (store : ℕ × ℕ). after.words store.0 ≡ store.1)
  stores_stand (store ∷ rest) good stood =
      let first = All-head (IsGoodStore form block) store rest good in
      All-cons (λ (s : ℕ × ℕ). after.words s.0 ≡ s.1) store rest
      (ap after.words first.place ∙ stay first.field first.within (inr (let behind = first.behind in omega (arith, behind))) ∙ ap world.words (sym first.place) ∙ All-head (λ (s : ℕ × ℕ). world.words s.0 ≡ s.1) store rest stood)
      (stores_stand rest (All-tail (IsGoodStore form block) store rest good) (All-tail (λ (s : ℕ × ℕ). world.words s.0 ≡ s.1) store rest stood))

  pub filled_stays : (list : Listed) (stores : List (ℕ × ℕ)) → list.block ≡ block → All (IsGoodStore form block) stores → IsFilled world list stores → IsFilled after list stores
  filled_stays list stores same good filled = record {
    owner = ap (λ b. after.words (block_place b 0)) same ∙ stay 0 (omega arith) (inl (omega arith)) ∙ ap (λ b. world.words (block_place b 0)) (sym same) ∙ filled.owner;
    op = ap (λ b. after.words (block_place b 1)) same ∙ stay 1 (omega arith) (inl (omega arith)) ∙ ap (λ b. world.words (block_place b 1)) (sym same) ∙ filled.op;
    value = ap (λ b. after.words (block_place b 11)) same ∙ stay 11 (omega arith) (inr (omega arith)) ∙ ap (λ b. world.words (block_place b 11)) (sym same) ∙ filled.value;
    stored = stores_stand stores good filled.stored;
  }

module _ {S W : Type 0} (form : NormalForm S W) (laws : Laws form) (world after : World) (offers : ℕ → Option (Offer S)) (is : HasOffers form world offers) (step : IsStep form world after)
    (fields : (block : ℕ) (offer : Offer S) → offers block ≡ Some offer → world.used block ≡ false → (field : ℕ) → field < 32 → IsStored field → after.words (block_place block field) ≡ world.words (block_place block field))
    (unused : (block : ℕ) (offer : Offer S) → offers block ≡ Some offer → has_taken after.journal offer.list 0 ≡ false → world.used block ≡ false → after.used block ≡ false)
    (grows : (list : Listed) (j : ℕ) → has_taken world.journal list j ≡ true → has_taken after.journal list j ≡ true)
    (states : (block j : ℕ) → 0 < block → j < 2 → IsUnnamed offers block → after.words (state_place block j) ≡ world.words (state_place block j)) where
  none_before : (list : Listed) → has_taken after.journal list 0 ≡ false → has_taken world.journal list 0 ≡ false
  none_before list none =
      elim (cases_Bool (has_taken world.journal list 0)) [
        | inr off ↦ off
        | inl on ↦ both (has_taken after.journal list 0) (grows list 0 on) none
      ]

  pub waits_kept : (block : ℕ) (offer : Offer S) → offers block ≡ Some offer → Waits form after offer
  waits_kept block offer stands none =
      let mine = is.blocks.offered block offer stands in
      let good = (laws.of_world.offers world offer.offering offer.list.call.op offer.since offer.list.block mine.offered.command is.shape mine.offered.knows mine.offered.ready mine.offered.small).stores in
      let was = is.waits block offer stands (none_before offer.list none) in
      let free : world.used block ≡ false = ap world.used (sym mine.block_is) ∙ was.0 in
      let stores = (form.offer_of offer.offering offer.list.call.op offer.list.block).stores in (
        ap after.used mine.block_is ∙ unused block offer stands none free,
        filled_stays form block world after (fields block offer stands free) offer.list stores mine.block_is (subst (λ b. All (IsGoodStore form b) stores) mine.block_is good) was.1,
      )

  pub holds_kept : HasBlocks form after offers → JournalWords form.is_root after → HasOffers form after offers
  holds_kept blocks journal = record {
    shape = laws.shape_kept world after is.shape step;
    blocks = blocks;
    waits = waits_kept;
    pending = λ block j some few unnamed. states block j some few unnamed ∙ is.pending block j some few unnamed;
    journal = journal;
  }
