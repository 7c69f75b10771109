-- A block whose stores are all made is filled for its list.
use Rattle.std.proofs.Common.{◌≡◌, ◌∙◌, refl, sym, ap, subst, ℕ, suc, List, [], ◌∷◌, ◌++◌, length, All}
use Rattle.std.proofs.lemmas.List.Elements.{All-cons, All-nil}
use Rattle.std.proofs.lemmas.Option.{slice_get_within}
use Rattle.word_fields.specs.Announced.{op_word, value_word}
use Rattle.word_fields.specs.Owners.{owner_word}
use Rattle.word_fields.specs.Records.{record_number}
use Rattle.node_arena.specs.MemoryMap.{block_place}
use Rattle.normal_traits.specs.World.{World}
use Rattle.normal_traits.specs.NormalForm.{NormalForm}
use Rattle.fast_slow_engine.specs.OfferStores.{offer_stores}
use Rattle.offered_blocks.specs.Blocks.{Offer}
use Rattle.move_kinds.proofs.BlockContents.{AllStand}
use Rattle.helper_knowledge.specs.Callers.{Caller}
use Rattle.helper_knowledge.specs.Knowing.{KnowsOffer}
use Rattle.offered_blocks.specs.Holds.{FilledFor}
use Rattle.move_kinds.proofs.Stores.Apart.{low_stores}
use Rattle.move_kinds.proofs.Stores.Into.{Each}

each_right : {X : Type 0} (P : X → Type 0) (xs ys : List X) → Each P (xs ++ ys) → Each P ys
each_right P [] ys each = each
each_right P (x ∷ xs) ys each = each_right P xs ys (λ k y at. each (suc k) y at)

all_of : {X : Type 0} (P : X → Type 0) (xs : List X) → Each P xs → All P xs
all_of P [] each = All-nil P
all_of P (x ∷ xs) each = All-cons P x xs (each 0 x refl) (all_of P xs (λ k y at. each (suc k) y at))

module _ {S W : Type 0} (form : NormalForm S W) (world : World) (caller : Caller) (head word block : ℕ) where
  pub filled_now : (stores : List (ℕ × ℕ)) (offer : Offer S) → KnowsOffer form world caller head word block stores (length stores) offer → FilledFor form world offer
  filled_now stores offer knows =
      let op = offer.list.call.op in
      let number = record_number word in
      let made = (form.offer_of offer.offering op block).stores in
      let stand : AllStand world.words (offer_stores block head number op offer.list.entries made) =
      subst (AllStand world.words) knows.stores_are (λ k store at. knows.stored k store (slice_get_within stores k store at) at) in
      let client : All (λ (store : ℕ × ℕ). world.words store.0 ≡ store.1) made =
      all_of (λ (store : ℕ × ℕ). world.words store.0 ≡ store.1) made (each_right (λ (store : ℕ × ℕ). world.words store.0 ≡ store.1) (low_stores block head number op offer.list.entries) made stand) in
      record {
        owner = ap (λ b. world.words (block_place b 0)) knows.block_is ∙ stand 0 (block_place block 0, owner_word head number) refl
            ∙ ap (λ s. owner_word s number) (sym knows.seat_is) ∙ ap (λ n. owner_word offer.list.call.seat n) (sym knows.number_is);
        op = ap (λ b. world.words (block_place b 1)) knows.block_is ∙ stand 1 (block_place block 1, op_word op.code number op.key) refl ∙ ap (λ n. op_word op.code n op.key) (sym knows.number_is);
        value = ap (λ b. world.words (block_place b 11)) knows.block_is ∙ stand 2 (block_place block 11, value_word number op.value) refl ∙ ap (λ n. value_word n op.value) (sym knows.number_is);
        stored = subst (λ b. All (λ (store : ℕ × ℕ). world.words store.0 ≡ store.1) (form.offer_of offer.offering op b).stores) (sym knows.block_is) client;
      }
