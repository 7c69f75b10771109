-- What is stored into a block for a list: each word that is versioned has version 0.
use Rattle.std.proofs.Common.{◌≡◌, ◌∙◌, refl, sym, ap, subst, ℕ, ◌^◌, ◌<◌, true, false, List, ◌∷◌, All, arith}
use Rattle.lin_report.specs.declared.calls.Op.{Op}
use Rattle.word_fields.specs.Announced.{op_word, value_word}
use Rattle.word_fields.specs.Owners.{owner_word}
use Rattle.word_fields.specs.Records.{record_number}
use Rattle.word_fields.specs.Versioned.{versioned_version}
use Rattle.node_arena.specs.declared.places.TheConstants.{OWNER_FIELD, OP_FIELD, VALUE_FIELD}
use Rattle.node_arena.specs.MemoryMap.{block_place}
use Rattle.normal_traits.specs.World.{World}
use Rattle.normal_traits.specs.NormalForm.{NormalForm}
use Rattle.normal_traits.specs.Laws.{IsGoodOffer, IsGoodStore, Laws}
use Rattle.normal_traits.proofs.Stays.{all_at}
use Rattle.fast_slow_engine.specs.OfferStores.{own_stores}
use Rattle.offered_blocks.specs.Blocks.{Offer}
use Rattle.move_kinds.proofs.Stores.Apart.{low_fields, low_stores}
use Rattle.move_kinds.proofs.Stores.Into.{Each, each_both, each_more}
use Rattle.helper_knowledge.specs.Callers.{Caller}
use Rattle.helper_knowledge.specs.Knowing.{KnowsOffer}
use Rattle.kept_knowledge.proofs.Counted.Touches.{StartsAtZero}

pub small_version : (word : ℕ) → word < 2 ^ 24 → versioned_version word ≡ 0
unfolding versioned_version
small_version word small = omega (arith, small)

-- a store into this block, with a word of version 0
pub record IsStart {S W : Type 0} (form : NormalForm S W) (block : ℕ) (store : ℕ × ℕ) : Type 0 where
  pub field : ℕ
  pub place : store.0 ≡ block_place block field
  pub zero : StartsAtZero form store

module _ {S W : Type 0} (form : NormalForm S W) (laws : Laws form) (block seat number : ℕ) (op : Op) (some : 0 < block) where
  plain_starts : (field word : ℕ) → field < 12 → (place : ℕ) → place ≡ block_place block field → StartsAtZero form (place, word)
  plain_starts field word small place here versioned =
      let plain : form.is_versioned place ≡ false = ap form.is_versioned here ∙ laws.of_world.notes_plain block field some small in absurd (let both : true ≡ false = sym versioned ∙ plain in cc)

  note_starts : (field word : ℕ) → field < 12 → IsStart form block (block_place block field, word)
  note_starts field word small = record { field = field; place = refl; zero = plain_starts field word small (block_place block field) refl }

  good_starts : (stores : List (ℕ × ℕ)) → All (IsGoodStore form block) stores → Each (IsStart form block) stores
  good_starts stores good k store at =
      let is = all_at (IsGoodStore form block) stores k store good at in
      record { field = is.field; place = is.place; zero = λ versioned. small_version store.1 (is.versioned versioned) }

  -- of a list that its own seat executes
  pub own_starts : (stores : List (ℕ × ℕ)) → All (IsGoodStore form block) stores → Each (IsStart form block) (own_stores block seat number op stores)
  own_starts stores good =
      let value : ℕ × ℕ = (block_place block VALUE_FIELD, value_word number op.value) in
      let announced : ℕ × ℕ = (block_place block OP_FIELD, op_word op.code number op.key) in
      let owner : ℕ × ℕ = (block_place block OWNER_FIELD, owner_word seat number) in
      each_more (IsStart form block) owner (announced ∷ value ∷ stores) (note_starts OWNER_FIELD (owner_word seat number) (omega arith))
      (each_more (IsStart form block) announced (value ∷ stores) (note_starts OP_FIELD (op_word op.code number op.key) (omega arith))
      (each_more (IsStart form block) value stores (note_starts VALUE_FIELD (value_word number op.value) (omega arith)) (good_starts stores good)))

-- of a list that others execute
module _ {S W : Type 0} (form : NormalForm S W) (laws : Laws form) (world : World) (shape : form.shape world) (caller : Caller) (head word block made : ℕ) (stores : List (ℕ × ℕ)) (held : Offer S) (some : 0 < block)
    (knows : KnowsOffer form world caller head word block stores made held) where
  pub offer_starts : Each (IsStart form block) stores
  offer_starts =
      let op = held.list.call.op in
      let number = record_number word in
      let good : IsGoodOffer form world block (form.offer_of held.offering op block) =
      subst (λ b. IsGoodOffer form world b (form.offer_of held.offering op b)) knows.block_is
      (laws.of_world.offers world held.offering op held.since held.list.block knows.offered.command shape knows.offered.knows knows.offered.ready knows.offered.small) in
      subst (Each (IsStart form block)) (sym knows.stores_are)
      (each_both (IsStart form block) (low_stores block head number op held.list.entries) (form.offer_of held.offering op block).stores
      (λ k store at.
      (let low = low_fields block head number op held.list.entries k store at in
      record { field = low.field; place = low.place; zero = plain_starts form laws block head number op some low.field store.1 low.is store.0 low.place }))
      (good_starts form laws block head number op some (form.offer_of held.offering op block).stores good.stores))
