-- Which words the kinds of moves leave: those of a spare block in another hand, and the notes of offered blocks.
use Rattle.std.proofs.Common.{◌≡◌, ◌≢◌, ◌∙◌, sym, subst, ap, ℕ, ◌+◌, ◌<◌, true, false, Option, Some, arith}
use Rattle.step_memory.specs.declared.steps.Seen.{Seen}
use Rattle.node_arena.specs.MemoryMap.{block_place}
use Rattle.node_arena.proofs.PlacesApart.{block_place_behind, same_block, same_field}
use Rattle.normal_traits.specs.declared.lists.Entry.{Entry}
use Rattle.normal_traits.specs.World.{World, is_word}
use Rattle.normal_traits.specs.NormalForm.{NormalForm}
use Rattle.normal_traits.specs.Laws.{Laws}
use Rattle.normal_traits.proofs.Stays.{word_beside}
use Rattle.cas_executor.specs.SlowRuns.{SlowWalk}
use Rattle.cas_executor_laws.specs.ExecRuns.{IsEntry}
use Rattle.cas_executor_laws.proofs.OfferedPartsKept.{entry_at}
use Rattle.offered_blocks.specs.Blocks.{Offer}
use Rattle.offered_blocks.specs.Holds.{HasOffers}
use Rattle.offered_blocks.specs.OtherSteps.{IsSpare}
use Rattle.offered_blocks.proofs.Blocks.Places.{spare_apart}
use Rattle.offered_blocks.proofs.Helpers.Executes.{Executes}
use Rattle.offered_blocks.proofs.Helpers.HelperBlocks.{helper_beside}
use Rattle.move_kinds.specs.Moves.{BlockStays, NotesStay}
use Rattle.move_kinds.proofs.Does.{Does}
use Rattle.move_kinds.proofs.Does.Does.{leaves_all, puts, helps, exchanges}
use Rattle.move_kinds.proofs.Does.IsPlain.{engine, in_hand}

module _ {S W : Type 0} (form : NormalForm S W) (laws : Laws form) (world after : World) (offers : ℕ → Option (Offer S)) (holds : HasOffers form world offers) (hand : Option ℕ) where
  module _ (block : ℕ) (offer : Offer S) (walk : SlowWalk) (seen : Seen) (is : Executes form world after offers block offer walk seen) where
    abbrev own : Entry
    own = (entry_at offer.list.entries walk.next is.knows.within).0

    own_listed : IsEntry offer.list.entries walk.next own
    own_listed = (entry_at offer.list.entries walk.next is.knows.within).1

    own_few : walk.next < 2
    own_few = (let mine = holds.blocks.offered block offer is.stands in omega (arith, is.knows.within, mine.site.short))

    own_target : (is_word form.is_root world own.target ≡ true) × (form.is_versioned own.target ≡ true) × (form.is_listable own.target ≡ true)
    own_target = (holds.blocks.offered block offer is.stands).targets walk.next own own_listed

  -- ---- the block in another hand

  -- a spare block that isn't the mover's stays, whatever the mover does
  pub hand_kept : Does form world after offers hand → (block : ℕ) → IsSpare world offers block → hand ≢ Some block → BlockStays block world after
  hand_kept (leaves_all same) block spare apart field small = ap (λ (w : World). w.words (block_place block field)) same
  hand_kept (puts place word (engine low out) put) block spare apart field small =
      ap (λ (w : World). w.words (block_place block field)) put
      ∙ word_beside place word world.words (block_place block field) (λ e. let behind = block_place_behind block field in absurd (omega (arith, low, behind, e)))
  hand_kept (puts place word (in_hand other at in_hand' spare' within is) put) block spare apart field small =
      ap (λ (w : World). w.words (block_place block field)) put
      ∙ word_beside place word world.words (block_place block field) (λ e. apart (in_hand' ∙ ap Some (sym (same_block block field other at small within (e ∙ is)))))
  hand_kept (helps other offer walk seen is) block spare apart field small =
      let mine = holds.blocks.offered other offer is.stands in
      let few = own_few other offer walk seen is in
      helper_beside form laws world after offers holds other offer walk seen is (block_place block field)
      (λ e. spare.unnamed offer (ap offers (same_block block field offer.list.block (9 + walk.next) small (omega (arith, few)) e ∙ mine.block_is) ∙ is.stands))
      (spare_apart form.is_root world block field (own other offer walk seen is).target small spare.unused (own_target other offer walk seen is).0)
  hand_kept (exchanges maker list entry is uses) block spare apart field small =
      ap (λ (f : ℕ → ℕ). f (block_place block field)) is.words
      ∙ word_beside entry.target entry.to world.words (block_place block field) (spare_apart form.is_root world block field entry.target small spare.unused is.word)

  -- ---- the notes of an offered block

  -- a note of a block is no versioned word
  note_apart : (block field place : ℕ) → 0 < block → field < 12 → form.is_versioned place ≡ true → block_place block field ≢ place
  note_apart block field place some small versioned e =
      let none : form.is_versioned (block_place block field) ≡ false = laws.of_world.notes_plain block field some small in
      let versioned' : form.is_versioned (block_place block field) ≡ true = subst (λ p. form.is_versioned p ≡ true) (sym e) versioned in
      absurd cc

  state_field : (j field : ℕ) → j < 2 → field ≢ 9 → field ≢ 10 → field ≢ 9 + j
  state_field j field few nine ten e = absurd (omega (arith, few, nine, ten, e))

  pub notes_kept : Does form world after offers hand → (block : ℕ) (offer : Offer S) → offers block ≡ Some offer → NotesStay block world after
  notes_kept (leaves_all same) block offer stands field small nine ten = ap (λ (w : World). w.words (block_place block field)) same
  notes_kept (puts place word (engine low out) put) block offer stands field small nine ten =
      ap (λ (w : World). w.words (block_place block field)) put
      ∙ word_beside place word world.words (block_place block field) (λ e. let behind = block_place_behind block field in absurd (omega (arith, low, behind, e)))
  notes_kept (puts place word (in_hand other at in_hand' spare within is) put) block offer stands field small nine ten =
      ap (λ (w : World). w.words (block_place block field)) put
      ∙ word_beside place word world.words (block_place block field)
      (λ e. spare.unnamed offer (ap offers (sym (same_block block field other at (omega (arith, small)) within (e ∙ is))) ∙ stands))
  notes_kept (helps other mate walk seen is) block offer stands field small nine ten =
      let mine = holds.blocks.offered block offer stands in
      let few = own_few other mate walk seen is in
      let some : 0 < block = mine.some in
      helper_beside form laws world after offers holds other mate walk seen is (block_place block field)
      (λ e. state_field walk.next field few nine ten (same_field block field mate.list.block (9 + walk.next) (omega (arith, small)) (omega (arith, few)) e))
      (note_apart block field (own other mate walk seen is).target some small (own_target other mate walk seen is).1)
  notes_kept (exchanges maker list entry is uses) block offer stands field small nine ten =
      let mine = holds.blocks.offered block offer stands in
      ap (λ (f : ℕ → ℕ). f (block_place block field)) is.words
      ∙ word_beside entry.target entry.to world.words (block_place block field) (note_apart block field entry.target mine.some small is.versioned)
