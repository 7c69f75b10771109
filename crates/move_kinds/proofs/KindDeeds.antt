-- Every kind of move is a deed of each offered block.
use Rattle.std.proofs.Common.{◌≡◌, ◌≢◌, ◌∙◌, sym, subst, ap, ℕ, ◌+◌, ◌<◌, true, inl, inr, Option, Some, arith}
use Rattle.std.proofs.lemmas.Bool.{cases_eq}
use Rattle.node_arena.proofs.PlacesApart.{block_place_behind, same_block}
use Rattle.normal_traits.specs.World.{World, is_word}
use Rattle.normal_traits.specs.NormalForm.{NormalForm}
use Rattle.normal_traits.specs.Laws.{Laws}
use Rattle.normal_traits.proofs.Stays.{word_beside}
use Rattle.cas_executor.specs.SlowRuns.{state_place}
use Rattle.cas_executor_laws.specs.Parts.{Deed}
use Rattle.cas_executor_laws.proofs.OfferedPartsKept.{beside_deed}
use Rattle.offered_blocks.specs.Blocks.{Offer, has_taken, site_of}
use Rattle.offered_blocks.specs.Holds.{HasOffers}
use Rattle.offered_blocks.proofs.Blocks.Named.{some_offer}
use Rattle.offered_blocks.proofs.Blocks.Places.{words_apart}
use Rattle.offered_blocks.proofs.Helpers.Deeds.{other_deed}
use Rattle.offered_blocks.proofs.Helpers.Executes.{other_items, taken_by}
use Rattle.offered_blocks.proofs.Helpers.OwnDeeds.{own_deed}
use Rattle.offered_blocks.proofs.Others.Exchanges.{exchange_deed}
use Rattle.move_kinds.proofs.Does.{Does, IsPlain, plain_word}
use Rattle.move_kinds.proofs.Does.Does.{leaves_all, puts, helps, exchanges}
use Rattle.move_kinds.proofs.Does.IsPlain.{engine, in_hand}

module _ {S W : Type 0} (form : NormalForm S W) (laws : Laws form) (world after : World) (offers : ℕ → Option (Offer S)) (holds : HasOffers form world offers) (hand : Option ℕ) where
  abbrev DeedOf : Offer S → Type 0
  DeedOf offer = Deed (site_of offer) world.words (has_taken world.journal offer.list) after.words (has_taken after.journal offer.list)

  -- where the engine puts words there is no state of an offered block
  state_apart : (place block : ℕ) (offer : Offer S) (j : ℕ) → offers block ≡ Some offer → j < 2 → IsPlain form world after offers hand place → state_place offer.list.block j ≢ place
  state_apart place block offer j stands few (engine low out) e = (let behind = block_place_behind offer.list.block (9 + j) in absurd (omega (arith, low, behind, e)))
  state_apart place block offer j stands few (in_hand other at in_hand' spare within is) e =
      let mine = holds.blocks.offered block offer stands in
      spare.unnamed offer (ap offers (sym (same_block offer.list.block (9 + j) other at (omega (arith, few)) within (e ∙ is)) ∙ mine.block_is) ∙ stands)

  beside_all : (block : ℕ) (offer : Offer S) → offers block ≡ Some offer → ((j : ℕ) → j < 2 → after.words (state_place offer.list.block j) ≡ world.words (state_place offer.list.block j))
      → ((place : ℕ) → is_word form.is_root world place ≡ true → after.words place ≡ world.words place) → after.journal ≡ world.journal → DeedOf offer
  beside_all block offer stands states clients journal =
      let mine = holds.blocks.offered block offer stands in
      (beside_deed (site_of offer) mine.site world.words (has_taken world.journal offer.list) after.words (has_taken after.journal offer.list)
      (λ j within. states j (let short = mine.site.short in omega (arith, within, short))) (λ j entry listed. clients entry.target (mine.targets j entry listed).0)
      (λ j within. ap (λ log. has_taken log offer.list j) journal)).deed

  pub does_deed : Does form world after offers hand → (block : ℕ) (offer : Offer S) → offers block ≡ Some offer → DeedOf offer
  does_deed (leaves_all same) block offer stands =
      beside_all block offer stands (λ j few. ap (λ (w : World). w.words (state_place offer.list.block j)) same) (λ place here. ap (λ (w : World). w.words place) same) (ap (λ (w : World). w.journal) same)
  does_deed (puts place word plain put) block offer stands =
      beside_all block offer stands
      (λ j few. ap (λ (w : World). w.words (state_place offer.list.block j)) put ∙ word_beside place word world.words (state_place offer.list.block j) (state_apart place block offer j stands few plain))
      (λ at here. ap (λ (w : World). w.words at) put ∙ word_beside place word world.words at (words_apart form.is_root world at place here (plain_word form world after offers hand place plain)))
      (ap (λ (w : World). w.journal) put)
  does_deed (helps other mate walk seen is) block offer stands =
      elim (cases_eq other block) [
        | inl same ↦
            let one : mate ≡ offer = some_offer mate offer (offers block) (subst (λ b. offers b ≡ Some mate) same is.stands) stands in
            subst DeedOf one (own_deed form world offers holds.blocks other mate is.stands walk seen after.words (has_taken after.journal mate.list) is.knows is.made (taken_by form world after mate.list walk seen is.tells)).deed
        | inr apart ↦ other_deed form world offers holds.blocks other mate is.stands walk seen after.words is.knows is.made block offer stands apart (has_taken after.journal offer.list) (other_items form world after mate.list offer.list walk seen is.tells (λ same. apart (holds.blocks.apart other block mate offer is.stands stands same)))
      ]
  does_deed (exchanges maker list entry is uses) block offer stands = exchange_deed form laws world after offers holds maker list entry is block offer stands
