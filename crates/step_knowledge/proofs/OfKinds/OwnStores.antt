-- A store into the block of the own list is one of the kinds: it is into the block in hand, no state of an entry, and a
-- versioned word has its bit clear.
use Rattle.std.proofs.Common.{◌≡◌, ◌∙◌, refl, sym, ap, ℕ, ◌^◌, ◌<◌, Bool, true, false, inl, inr, List, ◌∷◌, slice_get, Option, Some, arith}
use Rattle.arrayvec.specs.ArrayVec.{ArrayVec}
use Rattle.lin_report.specs.declared.calls.Op.{Op}
use Rattle.word_fields.specs.Announced.{op_word, value_word}
use Rattle.word_fields.specs.Owners.{owner_word}
use Rattle.word_fields.specs.Versioned.{versioned_bit}
use Rattle.word_fields.proofs.ChangedWords.{word-split}
use Rattle.node_arena.specs.declared.places.TheConstants.{OWNER_FIELD, OP_FIELD, VALUE_FIELD}
use Rattle.node_arena.specs.MemoryMap.{block_place}
use Rattle.normal_traits.specs.World.{World}
use Rattle.normal_traits.specs.NormalForm.{NormalForm}
use Rattle.normal_traits.specs.Steps.{put_word}
use Rattle.normal_traits.specs.Laws.{IsGoodOffer, IsGoodStore, Laws}
use Rattle.normal_traits.proofs.Stays.{all_at}
use Rattle.cas_executor.specs.FastRuns.{FastWalk}
use Rattle.fast_slow_engine.specs.Hands.{block_of}
use Rattle.fast_slow_engine.specs.Mechs.{Mech}
use Rattle.fast_slow_engine.specs.OfferStores.{own_stores}
use Rattle.fast_slow_engine.specs.PhaseTable.{stores_for}
use Rattle.offered_blocks.specs.Blocks.{Offer}
use Rattle.offered_blocks.specs.OtherSteps.{IsSpare, IsStored}
use Rattle.move_kinds.specs.Kinds.{Kind}
use Rattle.move_kinds.specs.Kinds.Kind.{fills}
use Rattle.move_kinds.proofs.Stores.Into.{Each, each_more}
use Rattle.run_world.specs.Ghosts.{Held}
use Rattle.run_world.specs.Lists.{IsOffering}
use Rattle.step_knowledge.specs.Known.{IsStillOffered}

-- where a store of an own list goes: into a stored field of the block, with the bit clear where the word is versioned
pub record IsOwnStore {S W : Type 0} (form : NormalForm S W) (block : ℕ) (store : ℕ × ℕ) : Type 0 where
  pub field : ℕ
  pub within : field < 32
  pub stored : IsStored field
  pub place : store.0 ≡ block_place block field
  pub clear : form.is_versioned (block_place block field) ≡ true → versioned_bit store.1 ≡ 0

small_clear : (word : ℕ) → word < 2 ^ 24 → versioned_bit word ≡ 0
small_clear word small = (let split = word-split word in omega (arith, split, small))

module _ {S W : Type 0} (form : NormalForm S W) (laws : Laws form) (block seat number : ℕ) (op : Op) (some : 0 < block) where
  -- the notes are no versioned words
  note : (field word : ℕ) → field < 12 → IsStored field → IsOwnStore form block (block_place block field, word)
  note field word small is = record {
    field = field;
    within = omega (arith, small);
    stored = is;
    place = refl;
    clear = λ versioned. (let plain : form.is_versioned (block_place block field) ≡ false = laws.of_world.notes_plain block field some small in absurd cc);
  }

  -- all stores of an own list
  pub own_stored : (stores : List (ℕ × ℕ)) → Each (IsGoodStore form block) stores → Each (IsOwnStore form block) (own_stores block seat number op stores)
  own_stored stores good =
      let value : ℕ × ℕ = (block_place block VALUE_FIELD, value_word number op.value) in
      let announced : ℕ × ℕ = (block_place block OP_FIELD, op_word op.code number op.key) in
      let owner : ℕ × ℕ = (block_place block OWNER_FIELD, owner_word seat number) in
      each_more (IsOwnStore form block) owner (announced ∷ value ∷ stores) (note OWNER_FIELD (owner_word seat number) (omega arith) (inl (omega arith)))
      (each_more (IsOwnStore form block) announced (value ∷ stores) (note OP_FIELD (op_word op.code number op.key) (omega arith) (inl (omega arith)))
      (each_more (IsOwnStore form block) value stores (note VALUE_FIELD (value_word number op.value) (omega arith) (inr (omega arith)))
      (λ k store at. (let is = good k store at in let far = is.behind in record {
        field = is.field;
        within = is.within;
        stored = inr (omega (arith, far));
        place = is.place;
        clear = λ versioned. small_clear store.1 (is.versioned (ap form.is_versioned is.place ∙ versioned));
      }))))

module _ {S W : Type 0} (form : NormalForm S W) (laws : Laws form) (world : World) (shape : form.shape world) where
  -- the offer of a held list in the world of the client's shape
  pub held_offer : (held : Held S) → IsStillOffered form world held → IsGoodOffer form world held.list.block (form.offer_of held.offering held.list.call.op held.list.block)
  held_offer held offered = laws.of_world.offers world held.offering held.list.call.op held.since held.list.block offered.command shape offered.knows offered.ready offered.small

  -- the stores that a machine makes into its list's block
  pub filling : (run : FastWalk) (stores : ArrayVec (ℕ × ℕ)) (mech : Mech S W) (held : Held S) → form.needs_block mech.op ≡ true → mech.hand ≡ Some held.list.block → IsOffering form run stores mech held
      → stores.items ≡ own_stores held.list.block mech.seat mech.number mech.op (form.offer_of held.offering held.list.call.op held.list.block).stores
  filling run stores mech held needs hand offering =
      let items = (form.offer_of held.offering held.list.call.op held.list.block).stores in
      offering.made ∙ ap (λ (b : Bool). stores_for b items mech) needs ∙ ap (λ (h : Option ℕ). own_stores (block_of h) mech.seat mech.number mech.op items) hand

  -- a store is one of the kinds
  pub own_fills : (offers : ℕ → Option (Offer S)) (run : FastWalk) (stores : ArrayVec (ℕ × ℕ)) (made : ℕ) (mech : Mech S W) (held : Held S) (store : ℕ × ℕ)
      → form.needs_block mech.op ≡ true → mech.hand ≡ Some held.list.block → IsOffering form run stores mech held → IsStillOffered form world held → IsSpare world offers held.list.block
      → slice_get stores.items made ≡ Some store → Kind form world (put_word store.0 store.1 world) offers offers mech.seat mech.hand
  own_fills offers run stores made mech held store needs hand offering offered spare at =
      let block = held.list.block in
      let offer = form.offer_of held.offering held.list.call.op block in
      let good = (held_offer held offered).stores in
      let is : IsOwnStore form block store =
      own_stored form laws block mech.seat mech.number mech.op spare.some offer.stores (λ k s here. all_at (IsGoodStore form block) offer.stores k s good here) made store
      (ap (λ (l : List (ℕ × ℕ)). slice_get l made) (sym (filling run stores mech held needs hand offering)) ∙ at) in
      fills block is.field store.1 hand spare is.within is.stored is.clear (ap (λ p. put_word p store.1 world) is.place) refl
