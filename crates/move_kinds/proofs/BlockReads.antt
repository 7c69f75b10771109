-- What was read of a block whose notes stay is what it holds still.
use Rattle.std.proofs.Common.{◌≡◌, ◌∙◌, refl, sym, ap, ℕ, zero, suc, ◌<◌, ◌≤◌, ◌%◌, ◌^◌, [], ◌∷◌, ◌++◌, length, arith}
use Rattle.node_arena.specs.declared.places.TheConstants.{OP_FIELD, VALUE_FIELD}
use Rattle.node_arena.specs.MemoryMap.{block_place}
use Rattle.normal_traits.specs.declared.lists.Entry.{Entry}
use Rattle.normal_traits.specs.World.{World}
use Rattle.cas_executor.specs.declared.block_read.ReadStep.{ReadStep}
use Rattle.cas_executor.specs.declared.block_read.ReadStep.TheVariants as reads
use Rattle.cas_executor.specs.BlockReads.{ReadWalk, count_of, entry_field}
use Rattle.cas_executor_laws.specs.Reads.{HasRead, ReadTo, stored_count, stored_entries, stored_entry}
use Rattle.move_kinds.specs.Moves.{NotesStay}

module _ (world after : World) (block : ℕ) (stay : NotesStay block world after) where
  entry_same : (a b : Entry) → a.target ≡ b.target → a.from ≡ b.from → a.to ≡ b.to → a ≡ b
  entry_same a b t f o = λ i. record { target = t i; from = f i; to = o i }

  entry_stays : (j : ℕ) → j < 2 → stored_entry after.words block j ≡ stored_entry world.words block j
  entry_stays j few =
      entry_same _ _ (ap (λ n. n % 2 ^ 32) (stay (entry_field j 0) (omega (arith, few)) (λ e. absurd (omega (arith, few, e))) (λ e. absurd (omega (arith, few, e)))))
      (stay (entry_field j 1) (omega (arith, few)) (λ e. absurd (omega (arith, few, e))) (λ e. absurd (omega (arith, few, e))))
      (stay (entry_field j 2) (omega (arith, few)) (λ e. absurd (omega (arith, few, e))) (λ e. absurd (omega (arith, few, e))))

  pub entries_stay : (n : ℕ) → n ≤ 2 → stored_entries after.words block n ≡ stored_entries world.words block n
  entries_stay zero few = refl
  entries_stay (suc n) few = λ i. entries_stay n (omega (arith, few)) i ++ (entry_stays n (omega (arith, few)) i ∷ [])

  pub op_stays : after.words (block_place block OP_FIELD) ≡ world.words (block_place block OP_FIELD)
  op_stays = stay 1 (omega arith) (λ e. absurd (omega (arith, e))) (λ e. absurd (omega (arith, e)))

  pub value_stays : after.words (block_place block VALUE_FIELD) ≡ world.words (block_place block VALUE_FIELD)
  value_stays = stay 11 (omega arith) (λ e. absurd (omega (arith, e))) (λ e. absurd (omega (arith, e)))

  pub count_stays : stored_count after.words block ≡ stored_count world.words block
  count_stays = ap count_of (stay 2 (omega arith) (λ e. absurd (omega (arith, e))) (λ e. absurd (omega (arith, e))))

  has_read : (read : ReadWalk) → read.block ≡ block → length read.entries < 2 → HasRead world.words read → HasRead after.words read
  has_read read same few has = record {
    op = has.op ∙ ap (λ b. world.words (block_place b OP_FIELD)) same ∙ sym op_stays ∙ ap (λ b. after.words (block_place b OP_FIELD)) (sym same);
    value = has.value ∙ ap (λ b. world.words (block_place b VALUE_FIELD)) same ∙ sym value_stays ∙ ap (λ b. after.words (block_place b VALUE_FIELD)) (sym same);
    count = has.count ∙ ap (λ b. stored_count world.words b) same ∙ sym count_stays ∙ ap (λ b. stored_count after.words b) (sym same);
    entries = has.entries ∙ ap (λ b. stored_entries world.words b (length read.entries)) same ∙ sym (entries_stay (length read.entries) (omega (arith, few)))
        ∙ ap (λ b. stored_entries after.words b (length read.entries)) (sym same);
  }

  target_read : (read : ReadWalk) → read.block ≡ block → length read.entries < 2 → (stored_entry world.words read.block (length read.entries)) ≡ (stored_entry after.words read.block (length read.entries))
  target_read read same few =
      ap (λ b. stored_entry world.words b (length read.entries)) same ∙ sym (entry_stays (length read.entries) few) ∙ ap (λ b. stored_entry after.words b (length read.entries)) (sym same)

  pub read_to : (at : ReadStep) (read : ReadWalk) → read.block ≡ block → length read.entries < 2 → ReadTo at world.words read → ReadTo at after.words read
  read_to reads.Op read same few is = tt
  read_to reads.Value read same few is = is ∙ ap (λ b. world.words (block_place b OP_FIELD)) same ∙ sym op_stays ∙ ap (λ b. after.words (block_place b OP_FIELD)) (sym same)
  read_to reads.Length read same few is = (
    is.0 ∙ ap (λ b. world.words (block_place b OP_FIELD)) same ∙ sym op_stays ∙ ap (λ b. after.words (block_place b OP_FIELD)) (sym same),
    is.1 ∙ ap (λ b. world.words (block_place b VALUE_FIELD)) same ∙ sym value_stays ∙ ap (λ b. after.words (block_place b VALUE_FIELD)) (sym same),
  )
  read_to reads.Target read same few is = has_read read same few is
  read_to reads.From read same few is = (has_read read same few is.0, is.1 ∙ ap (λ (e : Entry). e.target) (target_read read same few))
  read_to reads.To read same few is =
      (has_read read same few is.0, is.1 ∙ ap (λ (e : Entry). e.target) (target_read read same few), is.2 ∙ ap (λ (e : Entry). e.from) (target_read read same few))
