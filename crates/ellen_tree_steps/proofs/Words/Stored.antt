-- What every allowed step leaves of the words of a node.
use Rattle.std.proofs.Common.{◌≡◌, ℕ, ◌%◌, ◌^◌, ◌<◌, Bool, true, refl, sym, ap, ◌∙◌, inl, inr, ◌⊎◌, arith}
use Rattle.word_fields.specs.Versioned.{versioned_value, cleared_word}
use Rattle.word_fields.proofs.ChangedWords.{value-cleared}
use Rattle.node_arena.specs.MemoryMap.{reference_to}
use Rattle.normal_traits.specs.World.{World}
use Rattle.tree_help.specs.declared.states.TheConstants.{CLEAN}
use Rattle.tree_help.specs.Updates.{state_of}
use Rattle.ellen_tree_form.specs.Words.{child_at, update_at}
use Rattle.ellen_tree_form.specs.Shape.{Shape, IsStored, HasFlag, HasMark, IsLeaf, IsBelow, is_node, child_of}
use Rattle.ellen_tree_form.proofs.Steps.Later.{Later}
use Rattle.ellen_tree_form.proofs.Steps.Spares.{Spares}
use Rattle.ellen_tree_form.proofs.Helps.FollowedStays.{flagged_later, marked_later, update_later}
use Rattle.ellen_tree_steps.proofs.Lists.FlagsLast.{key_later, leaf_field_later}

-- a node is clean, or has a flag, or a mark
abbrev pub State : World → ℕ → Type 0
State world block = (state_of (world.words (update_at block)) ≡ CLEAN) ⊎ (HasFlag world block ⊎ HasMark world block)

-- two words with one value have one state
same_state : (word after : ℕ) → cleared_word after ≡ cleared_word word → state_of after ≡ state_of word
same_state word after same = ap (λ v. v % 4) (sym (value-cleared after) ∙ ap versioned_value same ∙ value-cleared word)

module _ (world after : World) (shape : Shape world) (l : Later world after) (s : Spares world after) where
  mark_later : (block : ℕ) → HasMark world block → HasMark after block
  mark_later block m = record {
    list = m.list;
    flagged = flagged_later world after shape l s m.list m.flagged;
    rem = m.rem;
    update = update_later world after shape l s m.list m.flagged m.rem block m.update;
    marked = marked_later world after shape l s m.list m.flagged m.rem block m.update m.marked;
  }

  -- where the update word is as it was, but for its bit
  pub state_later : (block : ℕ) → cleared_word (after.words (update_at block)) ≡ cleared_word (world.words (update_at block)) → State world block → State after block
  unfolding flagged_later
  state_later block same (inl clean) = inl (same_state (world.words (update_at block)) (after.words (update_at block)) same ∙ clean)
  state_later block same (inr (inl f)) = inr (inl (record { list = f.list; flagged = flagged_later world after shape l s f.list f.flagged; here = f.here; up = same ∙ f.up }))
  state_later block same (inr (inr m)) = inr (inr (mark_later block m))

  pub stored_later : (block : ℕ) → is_node world.changes block ≡ true → ((left : Bool) → IsBelow after.changes (child_of after.words block left)) → ((left : Bool) → after.words (child_at block left) < 2 ^ 64)
      → after.words (update_at block) < 2 ^ 64 → State after block → IsStored after block
  stored_later block is leads fits update_fits state =
      let was = shape.stored block is in
      let one : IsLeaf world.changes (reference_to block 1) = record { block = block; node = is; names = inl refl } in
      let three : IsLeaf world.changes (reference_to block 3) = record { block = block; node = is; names = inr refl } in
      record {
        used = l.used block was.used;
        small = was.small;
        leads = leads;
        fits = fits;
        update_fits = update_fits;
        values = (omega (arith, was.values, leaf_field_later world after shape l (reference_to block 1) 1 (omega arith) one), omega (arith, was.values, leaf_field_later world after shape l (reference_to block 3) 1 (omega arith) three));
        leaf_keys = (omega (arith, was.leaf_keys, leaf_field_later world after shape l (reference_to block 1) 0 (omega arith) one), omega (arith, was.leaf_keys, leaf_field_later world after shape l (reference_to block 3) 0 (omega arith) three));
        inner_key = omega (arith, was.inner_key, key_later world after shape l block is);
        state = state;
      }
