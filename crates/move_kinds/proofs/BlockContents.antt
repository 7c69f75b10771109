-- A block that is filled for an offer holds its list: what a helper reads of it is what was offered.
use Rattle.std.proofs.Common.{◌≡◌, ◌∙◌, refl, ap, ℕ, ◌<◌, ◌≤◌, ◌%◌, ◌^◌, List, [], ◌∷◌, length, slice_get, Some, arith, mod-eq_of_lt}
use Rattle.lin_report.specs.declared.calls.Op.{Op}
use Rattle.word_fields.specs.Announced.{op_word, value_word}
use Rattle.node_arena.specs.declared.places.TheConstants.{OP_FIELD, VALUE_FIELD, LENGTH_FIELD}
use Rattle.node_arena.specs.MemoryMap.{block_place}
use Rattle.normal_traits.specs.declared.lists.Entry.{Entry}
use Rattle.cas_executor.specs.BlockReads.{count_of, entry_field}
use Rattle.cas_executor_laws.specs.Reads.{stored_entry, stored_entries, stored_count}
use Rattle.fast_slow_engine.specs.OfferStores.{offer_stores}

-- the stores all stand
abbrev pub AllStand : (ℕ → ℕ) → List (ℕ × ℕ) → Type 0
AllStand words stores = (k : ℕ) (store : ℕ × ℕ) → slice_get stores k ≡ Some store → words store.0 ≡ store.1

entry_same : (a : Entry) (target from to : ℕ) → target ≡ a.target → from ≡ a.from → to ≡ a.to → record { target = target; from = from; to = to } ≡ a
entry_same a target from to t f o = λ i. record { target = t i; from = f i; to = o i }

module _ (words : ℕ → ℕ) (block seat number : ℕ) (op : Op) (stores : List (ℕ × ℕ)) where
  -- three words are read as an entry
  reads_entry : (j : ℕ) (e : Entry) → e.target < 2 ^ 32 → words (block_place block (entry_field j 0)) ≡ e.target → words (block_place block (entry_field j 1)) ≡ e.from → words (block_place block (entry_field j 2)) ≡ e.to
      → stored_entry words block j ≡ e
  reads_entry j e small t f o = entry_same e _ _ _ (ap (λ n. n % 2 ^ 32) t ∙ mod-eq_of_lt small) f o

  reads_some : (entries : List Entry) → 0 < length entries → length entries ≤ 2 → ((j : ℕ) (e : Entry) → slice_get entries j ≡ Some e → e.target < 2 ^ 32)
      → AllStand words (offer_stores block seat number op entries stores) → stored_entries words block (stored_count words block) ≡ entries
  reads_some [] some few small stand = absurd (omega (arith, some))
  reads_some (e ∷ []) some few small stand =
      let count : stored_count words block ≡ 1 = ap count_of (stand 3 (block_place block LENGTH_FIELD, 1) refl) in
      let first = reads_entry 0 e (small 0 e refl) (stand 4 _ refl) (stand 5 _ refl) (stand 6 _ refl) in
      ap (stored_entries words block) count ∙ ap (λ (x : Entry). x ∷ []) first
  reads_some (e ∷ f ∷ []) some few small stand =
      let count : stored_count words block ≡ 2 = ap count_of (stand 3 (block_place block LENGTH_FIELD, 2) refl) in
      let first = reads_entry 0 e (small 0 e refl) (stand 4 _ refl) (stand 5 _ refl) (stand 6 _ refl) in
      let second = reads_entry 1 f (small 1 f refl) (stand 7 _ refl) (stand 8 _ refl) (stand 9 _ refl) in
      ap (stored_entries words block) count ∙ ap (λ (x : Entry). x ∷ stored_entry words block 1 ∷ []) first ∙ ap (λ (y : Entry). e ∷ y ∷ []) second
  reads_some (e ∷ f ∷ g ∷ rest) some few small stand = absurd (omega (arith, few))

  -- so are its op word and its value word
  pub reads_op : (entries : List Entry) → AllStand words (offer_stores block seat number op entries stores) → words (block_place block OP_FIELD) ≡ op_word op.code number op.key
  reads_op entries stand = stand 1 _ refl

  pub reads_value : (entries : List Entry) → AllStand words (offer_stores block seat number op entries stores) → words (block_place block VALUE_FIELD) ≡ value_word number op.value
  reads_value entries stand = stand 2 _ refl

  pub reads_list : (entries : List Entry) → 0 < length entries → length entries ≤ 2 → ((j : ℕ) (e : Entry) → slice_get entries j ≡ Some e → e.target < 2 ^ 32)
      → AllStand words (offer_stores block seat number op entries stores) → stored_entries words block (stored_count words block) ≡ entries
  reads_list = reads_some
