-- The stores of an offer are all into its block.
use Rattle.std.proofs.Common.{◌≡◌, refl, subst, ℕ, zero, suc, ◌<◌, List, [], ◌∷◌, ◌++◌, length, slice_get, Option, Some, None, All, arith}
use Rattle.lin_report.specs.declared.calls.Op.{Op}
use Rattle.word_fields.specs.Announced.{op_word, value_word}
use Rattle.word_fields.specs.Owners.{owner_word}
use Rattle.node_arena.specs.MemoryMap.{block_place}
use Rattle.cas_executor.specs.BlockReads.{entry_field}
use Rattle.normal_traits.specs.declared.lists.Entry.{Entry}
use Rattle.normal_traits.specs.NormalForm.{NormalForm}
use Rattle.normal_traits.specs.Laws.{IsGoodStore}
use Rattle.normal_traits.proofs.Stays.{all_at}
use Rattle.cas_executor_laws.proofs.Sets.{some_same}
use Rattle.fast_slow_engine.specs.OfferStores.{entry_stores, note_stores, offer_stores}

-- a fact of each in a list
abbrev pub Each : {X : Type 0} → (X → Type 0) → List X → Type 0
Each {X} P xs = (k : ℕ) (x : X) → slice_get xs k ≡ Some x → P x

pub each_none : {X : Type 0} (P : X → Type 0) → Each P []
each_none P k x at = absurd cc

pub each_more : {X : Type 0} (P : X → Type 0) (x : X) (xs : List X) → P x → Each P xs → Each P (x ∷ xs)
each_more P x xs first rest zero y at = subst P (some_same x y at) first
each_more P x xs first rest (suc k) y at = rest k y at

pub each_both : {X : Type 0} (P : X → Type 0) (xs ys : List X) → Each P xs → Each P ys → Each P (xs ++ ys)
each_both P [] ys first rest k y at = rest k y at
each_both P (x ∷ xs) ys first rest zero y at = first zero y at
each_both P (x ∷ xs) ys first rest (suc k) y at = each_both P xs ys (λ i z there. first (suc i) z there) rest k y at

-- the store is into a field of the block
pub record IsInto (block : ℕ) (store : ℕ × ℕ) : Type 0 where
  pub field : ℕ
  pub within : field < 32
  pub place : store.0 ≡ block_place block field

-- a store in front of others
into_more : (block field word : ℕ) (rest : List (ℕ × ℕ)) → field < 32 → Each (IsInto block) rest → Each (IsInto block) ((block_place block field, word) ∷ rest)
into_more block field word rest small others = each_more (IsInto block) (block_place block field, word) rest (record { field = field; within = small; place = refl }) others

notes_into : (block seat number : ℕ) (op : Op) (count : ℕ) → Each (IsInto block) (note_stores block seat number op count)
notes_into block seat number op count =
    let length_note : List (ℕ × ℕ) = (block_place block 2, count) ∷ [] in
    let value_note : List (ℕ × ℕ) = (block_place block 11, value_word number op.value) ∷ length_note in
    let op_note : List (ℕ × ℕ) = (block_place block 1, op_word op.code number op.key) ∷ value_note in
    into_more block 0 (owner_word seat number) op_note (omega arith)
    (into_more block 1 (op_word op.code number op.key) value_note (omega arith)
    (into_more block 11 (value_word number op.value) length_note (omega arith) (into_more block 2 count [] (omega arith) (each_none (IsInto block)))))

entry_into : (block j : ℕ) (entry : Option Entry) → j < 2 → Each (IsInto block) (entry_stores block j entry)
entry_into block j None few = each_none (IsInto block)
entry_into block j (Some entry) few =
    let to_store : List (ℕ × ℕ) = (block_place block (entry_field j 2), entry.to) ∷ [] in
    let from_store : List (ℕ × ℕ) = (block_place block (entry_field j 1), entry.from) ∷ to_store in
    into_more block (entry_field j 0) entry.target from_store (omega (arith, few))
    (into_more block (entry_field j 1) entry.from to_store (omega (arith, few)) (into_more block (entry_field j 2) entry.to [] (omega (arith, few)) (each_none (IsInto block))))

pub offer_into : {S W : Type 0} (form : NormalForm S W) (block seat number : ℕ) (op : Op) (entries : List Entry) (stores : List (ℕ × ℕ)) → All (IsGoodStore form block) stores
    → Each (IsInto block) (offer_stores block seat number op entries stores)
offer_into form block seat number op entries stores good =
    let notes = note_stores block seat number op (length entries) in
    let first = entry_stores block 0 (slice_get entries 0) in
    let second = entry_stores block 1 (slice_get entries 1) in
    each_both (IsInto block) ((notes ++ first) ++ second) stores
    (each_both (IsInto block) (notes ++ first) second
    (each_both (IsInto block) notes first (notes_into block seat number op (length entries)) (entry_into block 0 (slice_get entries 0) (omega arith)))
    (entry_into block 1 (slice_get entries 1) (omega arith)))
    (λ k store at. let is = all_at (IsGoodStore form block) stores k store good at in record { field = is.field; within = is.within; place = is.place })
