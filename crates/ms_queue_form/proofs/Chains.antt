-- The chain of nodes stays where no node is linked, and a put makes it longer by one.
use Rattle.std.proofs.Common.{◌≡◌, ◌≢◌, ℕ, ◌+◌, ◌<◌, ◌≤◌, true, false, List, ◌∷◌, sym, ap, ◌∙◌, inl, inr, ◌⊎◌, arith}
use Rattle.std.proofs.lemmas.Bool.{true≢false, cases_eq}
use Rattle.word_fields.specs.Versioned.{versioned_value}
use Rattle.node_arena.specs.declared.places.TheConstants.{NODE_VALUE, NODE_NEXT}
use Rattle.node_arena.specs.MemoryMap.{node_place, reference_to}
use Rattle.normal_traits.specs.World.{Change, World}
use Rattle.ms_queue_form.specs.Chain.{puts_one, puts, node_block, put_value, node_at, next_of, value_of}
use Rattle.ms_queue_form.specs.Shape.{IsChain}
use Rattle.ms_queue_form.proofs.Changes.{Extends, same_node_at, same_next_of, same_value_of, puts-put, block-put, value-put}

-- the longer changes have the same chain
pub record SameChain (old new : List Change) : Type 0 where
  pub count : puts new ≡ puts old
  pub blocks : (k : ℕ) → node_block new k ≡ node_block old k
  pub values : (k : ℕ) → put_value new k ≡ put_value old k

module _ (old new : List Change) (same : SameChain old new) where
  pub node_same : (k : ℕ) → node_at new k ≡ node_at old k
  node_same k = ap (λ block. reference_to block 1) (same.blocks k)

  pub next_same : (k : ℕ) → next_of new k ≡ next_of old k
  next_same k = ap (λ block. node_place (reference_to block 1) NODE_NEXT) (same.blocks k)

  pub value_same : (k : ℕ) → value_of new k ≡ value_of old k
  value_same k = ap (λ block. node_place (reference_to block 1) NODE_VALUE) (same.blocks k)

pub chain_stays : (world after : World) → IsChain world → SameChain world.changes after.changes → ((block : ℕ) → world.used block ≡ true → after.used block ≡ true)
    → ((k : ℕ) → k ≤ puts world.changes → versioned_value (after.words (next_of world.changes k)) ≡ versioned_value (world.words (next_of world.changes k)))
    → ((k : ℕ) → k < puts world.changes → after.words (value_of world.changes (k + 1)) ≡ world.words (value_of world.changes (k + 1)))
    → IsChain after
chain_stays world after chain same used nexts values =
    record {
      dummy = used 0 chain.dummy;
      used = λ k low. ap after.used (same.blocks k) ∙ used (node_block world.changes k) (chain.used k (omega (arith, same.count)));
      apart = λ i k order low e. chain.apart i k order (omega (arith, same.count)) (sym (same.blocks i) ∙ e ∙ same.blocks k);
      linked = λ k low.
          let within : k < puts world.changes = omega (arith, same.count) in
          ap (λ place. versioned_value (after.words place)) (next_same world.changes after.changes same k) ∙ nexts k (omega (arith, within))
          ∙ chain.linked k within ∙ sym (node_same world.changes after.changes same (k + 1));
      last =
          ap (λ k. versioned_value (after.words (next_of after.changes k))) same.count
          ∙ ap (λ place. versioned_value (after.words place)) (next_same world.changes after.changes same (puts world.changes))
          ∙ nexts (puts world.changes) (omega arith) ∙ chain.last;
      valued = λ k low.
          let within : k < puts world.changes = omega (arith, same.count) in
          ap after.words (value_same world.changes after.changes same (k + 1)) ∙ values k within ∙ chain.valued k within ∙ sym (same.values (k + 1));
    }

-- a node of an unused block was linked behind the last one
module _ (world after : World) (chain : IsChain world) (extends : Extends world.changes after.changes) (change : Change) (more : after.changes ≡ change ∷ world.changes) (put : puts_one change ≡ true)
    (used : (block : ℕ) → world.used block ≡ true → after.used block ≡ true) (own : after.used change.list.block ≡ true) (unused : world.used change.list.block ≡ false) where
  pub count-put : puts after.changes ≡ puts world.changes + 1
  count-put = ap puts more ∙ puts-put change world.changes put

  pub new_block : node_block after.changes (puts world.changes + 1) ≡ change.list.block
  new_block = ap (λ (changes : List Change). node_block changes (puts world.changes + 1)) more ∙ block-put change world.changes put

  new_value : put_value after.changes (puts world.changes + 1) ≡ change.list.call.op.value
  new_value = ap (λ (changes : List Change). put_value changes (puts world.changes + 1)) more ∙ value-put change world.changes put

  pub old_block : (k : ℕ) → k ≤ puts world.changes → node_block world.changes k ≢ change.list.block
  old_block k low e = true≢false (sym (chain.used k low) ∙ ap world.used e ∙ unused)

  at_end : (k n : ℕ) → k ≤ n + 1 → (k ≤ n) ⊎ (k ≡ n + 1)
  at_end k n low = by_eq (cases_eq k (n + 1))
    where
      by_eq : (k ≡ n + 1) ⊎ (k ≡ n + 1 → ⊥) → (k ≤ n) ⊎ (k ≡ n + 1)
      by_eq (inl end) = inr end
      by_eq (inr before) = inl (omega arith)

  used_all : (k : ℕ) → (k ≤ puts world.changes) ⊎ (k ≡ puts world.changes + 1) → after.used (node_block after.changes k) ≡ true
  used_all k (inl low) = ap after.used (extends.blocks k low) ∙ used (node_block world.changes k) (chain.used k low)
  used_all k (inr end) = ap (λ n. after.used (node_block after.changes n)) end ∙ ap after.used new_block ∙ own

  apart_all : (i k : ℕ) → i < k → (k ≤ puts world.changes) ⊎ (k ≡ puts world.changes + 1) → node_block after.changes i ≢ node_block after.changes k
  apart_all i k order (inl low) = λ e. chain.apart i k order low (sym (extends.blocks i (omega arith)) ∙ e ∙ extends.blocks k low)
  apart_all i k order (inr end) = λ e.
      let low : i ≤ puts world.changes = omega (arith, end) in
      old_block i low (sym (extends.blocks i low) ∙ e ∙ ap (node_block after.changes) end ∙ new_block)

  -- the words: the last next word names the new node, the new node's words are as they were stored, and the
  -- other nodes' words are as they were
  module _ (link : versioned_value (after.words (next_of world.changes (puts world.changes))) ≡ reference_to change.list.block 1)
      (end : versioned_value (after.words (node_place (reference_to change.list.block 1) NODE_NEXT)) ≡ 0)
      (value : after.words (node_place (reference_to change.list.block 1) NODE_VALUE) ≡ change.list.call.op.value)
      (nexts : (k : ℕ) → k < puts world.changes → after.words (next_of world.changes k) ≡ world.words (next_of world.changes k))
      (values : (k : ℕ) → k < puts world.changes → after.words (value_of world.changes (k + 1)) ≡ world.words (value_of world.changes (k + 1))) where
    linked_all : (k : ℕ) → (k < puts world.changes) ⊎ (k ≡ puts world.changes) → versioned_value (after.words (next_of after.changes k)) ≡ node_at after.changes (k + 1)
    linked_all k (inl low) =
        ap (λ place. versioned_value (after.words place)) (same_next_of world.changes after.changes extends k (omega arith))
        ∙ ap versioned_value (nexts k low) ∙ chain.linked k low ∙ sym (same_node_at world.changes after.changes extends (k + 1) (omega arith))
    linked_all k (inr last) =
        ap (λ n. versioned_value (after.words (next_of after.changes n))) last
        ∙ ap (λ place. versioned_value (after.words place)) (same_next_of world.changes after.changes extends (puts world.changes) (omega arith))
        ∙ link ∙ ap (λ block. reference_to block 1) (sym new_block) ∙ ap (λ n. node_at after.changes (n + 1)) (sym last)

    valued_all : (k : ℕ) → (k < puts world.changes) ⊎ (k ≡ puts world.changes) → after.words (value_of after.changes (k + 1)) ≡ put_value after.changes (k + 1)
    valued_all k (inl low) =
        ap after.words (same_value_of world.changes after.changes extends (k + 1) (omega arith)) ∙ values k low ∙ chain.valued k low
        ∙ sym (extends.values (k + 1) (omega arith))
    valued_all k (inr last) =
        ap (λ n. after.words (value_of after.changes (n + 1))) last
        ∙ ap (λ block. after.words (node_place (reference_to block 1) NODE_VALUE)) new_block
        ∙ value ∙ sym new_value ∙ ap (λ n. put_value after.changes (n + 1)) (sym last)

    below_or_last : (k n : ℕ) → k < n + 1 → (k < n) ⊎ (k ≡ n)
    below_or_last k n low = by_eq (cases_eq k n)
      where
        by_eq : (k ≡ n) ⊎ (k ≡ n → ⊥) → (k < n) ⊎ (k ≡ n)
        by_eq (inl last) = inr last
        by_eq (inr before) = inl (omega arith)

    pub chain_grows : IsChain after
    chain_grows =
        record {
          dummy = used 0 chain.dummy;
          used = λ k low. used_all k (at_end k (puts world.changes) (omega (arith, count-put)));
          apart = λ i k order low. apart_all i k order (at_end k (puts world.changes) (omega (arith, count-put)));
          linked = λ k low. linked_all k (below_or_last k (puts world.changes) (omega (arith, count-put)));
          last =
              ap (λ k. versioned_value (after.words (next_of after.changes k))) count-put
              ∙ ap (λ block. versioned_value (after.words (node_place (reference_to block 1) NODE_NEXT))) new_block ∙ end;
          valued = λ k low. valued_all k (below_or_last k (puts world.changes) (omega (arith, count-put)));
        }
