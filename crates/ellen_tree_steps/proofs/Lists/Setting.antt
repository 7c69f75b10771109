-- The setting of a flag by a list that was offered: what is so of the list from then on.
use Rattle.std.proofs.Common.{◌≡◌, ◌≢◌, ℕ, ◌+◌, ◌*◌, ◌^◌, ◌<◌, Bool, true, false, not, ◌∷◌, refl, sym, ap, subst, ◌∙◌, inl, inr, ◌⊎◌, arith}
use Rattle.std.specs.Prelude.{nat_lt, ◌==◌}
use Rattle.std.proofs.lemmas.Bool.{true≢false, or_left, eq-eqb}
use Rattle.word_fields.specs.Versioned.{versioned_value, versioned_bit, versioned_version, cleared_word}
use Rattle.word_fields.proofs.ChangedWords.{version-cleared, version_below, bit_below, word-split}
use Rattle.word_fields.specs.Versioned.{value_below}
use Rattle.lin_report.specs.Object.{IsCommandOf, map_object}
use Rattle.node_arena.specs.MemoryMap.{block_place, node_place, reference_to}
use Rattle.node_arena.proofs.PlacesApart.{node_place-reference_to, same_field}
use Rattle.normal_traits.specs.declared.lists.Entry.{Entry}
use Rattle.normal_traits.specs.World.{Listed, World}
use Rattle.normal_traits.specs.World.Maker.{By}
use Rattle.normal_traits.specs.Steps.{with_word, using_block, IsFilled}
use Rattle.tree_help.specs.declared.states.TheConstants.{CLEAN, MARKED}
use Rattle.tree_help.specs.Updates.{state_of, inner}
use Rattle.ellen_tree_form.specs.Words.{is_internal, child_at, update_at, leaf_key_at, leaf_value_at}
use Rattle.ellen_tree_form.specs.declared.states.Passed.{Passed}
use Rattle.ellen_tree_form.specs.declared.states.TreeSearch.TheVariants.{SetReady, RemReady}
use Rattle.ellen_tree_form.specs.Search.{leaf_of, leaf_on, greater, offered}
use Rattle.ellen_tree_form.specs.Shape.{Shape, Ordered, HasFlag, HasMark, IsFlagger, Inserts, Removes, IsGivenUp, IsLeaf, IsUp, cause_here, flags_at, noted, is_left, is_node, way, OnWay}
use Rattle.ellen_tree_form.specs.Knowledge.{Knows, HasPassed}
use Rattle.ellen_tree_form.proofs.Plain.{update_same, marked_value}
use Rattle.ellen_tree_form.proofs.Order.SwingWays.{way_in, inner_is, children_are, child_update}
use Rattle.ellen_tree_form.proofs.Helps.Wraps.{with_here, with_other}
use Rattle.ellen_tree_form.proofs.Helps.Owners.{up_value}
use Rattle.ellen_tree_form.proofs.Offers.{key_limit}
use Rattle.ellen_tree_form.proofs.Helps.Flags.{Stands, LeafBelow, rem_flags, set_flags}
use Rattle.ellen_tree_form.proofs.Steps.Later.{Later}
use Rattle.ellen_tree_form.proofs.Steps.Spares.{Spares}
use Rattle.ellen_tree_steps.proofs.Lists.FlagsLast.{RemoveFate, leaf_later, left_later, leaf_field_later}
use Rattle.ellen_tree_steps.proofs.Order.Asides.{on_way_stays, way_stays}
use Rattle.ellen_tree_steps.proofs.Lists.Waiting.{flag_states}

-- a word is in range where its value and version are
pub cleared_fits : (word : ℕ) → cleared_word word < 2 ^ 64 → word < 2 ^ 64
cleared_fits word fits = omega (arith, version_below (cleared_word word) fits, version-cleared word, value_below word, bit_below word, word-split word)

-- no node is its own child
own_child : {key : ℕ → ℕ} {child : ℕ → Bool → ℕ} {on : ℕ → Bool} {low high : ℕ → ℕ} → Ordered key child on low high → (r : ℕ) (left : Bool) → on r ≡ true → is_internal r ≡ true → child r left ≢ r
own_child {high = high} o r true is in' e = omega (arith, o.left_high r is in', ap high e, o.within r is in')
own_child {low = low} o r false is in' e = omega (arith, o.right_low r is in', ap low e, o.within r is in')

-- the world in which a list has won an entry, and uses its block
abbrev pub won_by : World → Listed → ℕ → Entry → World
won_by world list word entry = record {
  words = with_word entry.target word world.words;
  changes = world.changes;
  used = using_block list.block world.used;
  journal = record { place = entry.target; before = entry.from; after = entry.to; maker = By list 0; cause = cause_here list.block 0 } ∷ world.journal;
}

module _ (world : World) (shape : Shape world) (list : Listed) (node from word : ℕ) (l : Later world (won_by world list word (flags_at node from list))) (s : Spares world (won_by world list word (flags_at node from list)))
    (is : is_node world.changes node ≡ true) (unused : world.used list.block ≡ false) (stood : world.words (update_at node) ≡ from) (written : cleared_word word ≡ (flags_at node from list).to) where
  abbrev after : World
  after = won_by world list word (flags_at node from list)

  -- ---- words

  other : (at : ℕ) → at ≢ update_at node → after.words at ≡ world.words at
  other at differs = with_other (update_at node) word world.words at differs

  field : (block at : ℕ) → at < 32 → at ≢ 21 → after.words (block_place block at) ≡ world.words (block_place block at)
  field block at small differs = other (block_place block at) (λ e. differs (same_field block at node 21 small (omega arith) e))

  child : (n : ℕ) (left : Bool) → after.words (child_at n left) ≡ world.words (child_at n left)
  child n left = other (child_at n left) (λ e. child_update n node left (sym e))

  update : (n : ℕ) → n ≢ node → after.words (update_at n) ≡ world.words (update_at n)
  update n differs = with_other (update_at node) word world.words (update_at n) (λ e. differs (update_same n node e))

  leaf_1 : (at : ℕ) → at < 2 → after.words (node_place (reference_to list.block 1) at) ≡ world.words (node_place (reference_to list.block 1) at)
  leaf_1 at small =
      let place = node_place-reference_to list.block 1 at (omega arith) (omega arith) in
      ap after.words place ∙ field list.block (12 + at) (omega (arith, small)) (λ e. omega (arith, e, small)) ∙ ap world.words (sym place)

  leaf_3 : (at : ℕ) → at < 2 → after.words (node_place (reference_to list.block 3) at) ≡ world.words (node_place (reference_to list.block 3) at)
  leaf_3 at small =
      let place = node_place-reference_to list.block 3 at (omega arith) (omega arith) in
      ap after.words place ∙ field list.block (22 + at) (omega (arith, small)) (λ e. omega (arith, e)) ∙ ap world.words (sym place)

  new_block : list.block ≢ node
  new_block e = true≢false (sym (shape.stored node is).used ∙ ap world.used (sym e) ∙ unused)

  -- ---- an insertion

  module _ (last : Passed) (key value since : ℕ) (command : IsCommandOf map_object list.call.op) (knows : Knows (SetReady last key value) list.call.op world since) (at_node : node ≡ last.node) (from_is : from ≡ last.update)
      (filled : IsFilled world list (offered (SetReady last key value) list.call.op list.block).stores) where
    has : HasPassed world since list.call.op.key last
    has = knows.learnt.0.passed

    leaf_is : IsLeaf world.changes (leaf_of last)
    leaf_is = knows.learnt.0.told.is

    note_0 : noted after list 0 ≡ child_at node last.left
    note_0 = field list.block 27 (omega arith) (omega arith) ∙ filled.stored 8 (0, 0) (omega arith) ∙ ap (λ n. child_at n last.left) (sym at_node)

    note_1 : noted after list 1 ≡ last.child
    note_1 = field list.block 28 (omega arith) (omega arith) ∙ filled.stored 9 (0, 0) (omega arith)

    -- the old leaf's key and value
    key_is : after.words (leaf_key_at (versioned_value (noted after list 1))) ≡ key
    key_is = ap (λ w. after.words (leaf_key_at (versioned_value w))) note_1 ∙ leaf_field_later world after shape l (leaf_of last) 0 (omega arith) leaf_is ∙ sym knows.learnt.3

    value_is : after.words (leaf_value_at (versioned_value (noted after list 1))) ≡ value
    value_is = ap (λ w. after.words (leaf_value_at (versioned_value w))) note_1 ∙ leaf_field_later world after shape l (leaf_of last) 1 (omega arith) leaf_is ∙ sym knows.learnt.5

    stands : Stands world list.call.op.key last
    stands = set_flags world since key value list.call.op last knows (ap (λ n. world.words (update_at n)) (sym at_node) ∙ stood ∙ from_is)

    inserts_set : Inserts after list node from
    inserts_set = record {
      set = knows.learnt.1;
      left = last.left;
      side = left_later world after shape l list.call.op.key node is ∙ ap (is_left world.words list.call.op.key) at_node ∙ sym has.side;
      place = note_0;
      leaf = subst (IsLeaf after.changes) (sym (ap versioned_value note_1)) (leaf_later world after shape l (leaf_of last) leaf_is);
      other = λ e. knows.learnt.4 (sym key_is ∙ e);
      new_key = leaf_1 0 (omega arith) ∙ filled.stored 0 (0, 0) (omega arith);
      new_value = leaf_1 1 (omega arith) ∙ filled.stored 1 (0, 0) (omega arith);
      old_key = leaf_3 0 (omega arith) ∙ filled.stored 2 (0, 0) (omega arith) ∙ sym key_is;
      old_value = leaf_3 1 (omega arith) ∙ filled.stored 3 (0, 0) (omega arith) ∙ sym value_is;
      key = field list.block 17 (omega arith) (omega arith) ∙ filled.stored 4 (0, 0) (omega arith) ∙ ap (greater list.call.op.key) (sym key_is);
      fate = inl (record {
        up = up_set;
        child = child node last.left ∙ ap (λ n. world.words (child_at n last.left)) at_node ∙ stands.child ∙ sym note_1;
        reached = on_way_stays world after shape l s refl (λ n left is'. child n left) list.call.op.key node (subst (OnWay world.words list.call.op.key) (sym at_node) stands.reached);
        new = record {
          left = child list.block true ∙ filled.stored 5 (0, 0) (omega arith) ∙ ap (λ k. leaf_on (nat_lt list.call.op.key k) list.block) (sym key_is);
          right = child list.block false ∙ filled.stored 6 (0, 0) (omega arith) ∙ ap (λ k. leaf_on (not (nat_lt list.call.op.key k)) list.block) (sym key_is);
          update = update list.block new_block ∙ filled.stored 7 (0, 0) (omega arith);
        };
      });
    }
      where
        up_set : IsUp after list node from
        up_set = ap cleared_word (with_here (update_at node) word world.words (update_at node) refl) ∙ written

    pub flagger_insert : 0 < list.block → list.block < 2 ^ 17 → IsFlagger after list node from
    flagger_insert some small = record {
      some = some;
      small = small;
      used = or_left (list.block == list.block) (world.used list.block) (eq-eqb list.block list.block refl);
      limit = key_limit list.call.op command;
      value = command.value;
      is = is;
      clean = ap state_of from_is ∙ knows.learnt.2.clean;
      clear = ap versioned_bit from_is ∙ knows.learnt.2.clear;
      does = inl inserts_set;
    }

  -- ---- a removal

  module _ (above last : Passed) (since : ℕ) (command : IsCommandOf map_object list.call.op) (knows : Knows (RemReady above last) list.call.op world since) (at_node : node ≡ above.node) (from_is : from ≡ above.update)
      (filled : IsFilled world list (offered (RemReady above last) list.call.op list.block).stores) where
    abbrev K : ℕ
    K = list.call.op.key

    lower : HasPassed world since list.call.op.key last
    lower = knows.learnt.0.passed

    upper : HasPassed world since list.call.op.key above
    upper = knows.learnt.2.0

    note : (n : ℕ) → n < 5 → noted after list n ≡ noted world list n
    note n small = field list.block (27 + n) (omega (arith, small)) (omega arith)

    noted_1 : noted after list 1 ≡ last.update
    noted_1 = note 1 (omega arith) ∙ filled.stored 1 (0, 0) (omega arith)

    noted_3 : noted after list 3 ≡ above.child
    noted_3 = note 3 (omega arith) ∙ filled.stored 3 (0, 0) (omega arith)

    flags : Stands world list.call.op.key above × ((Stands world list.call.op.key last × LeafBelow world list.call.op.key last) ⊎ (versioned_version last.update < versioned_version (world.words (update_at last.node))))
    flags = rem_flags world since list.call.op above last knows (ap (λ n. world.words (update_at n)) (sym at_node) ∙ stood ∙ from_is)

    -- the node that is to go is another one
    apart : last.node ≢ node
    apart e =
        let r = way_in world shape.on shape.low shape.high shape.ordered K above.node (omega (arith, key_limit list.call.op command)) flags.0.reached in
        own_child shape.ordered (inner above.node) above.left r.is (inner_is above.node) (children_are world above.node above.left ∙ ap versioned_value flags.0.child ∙ knows.learnt.2.1 ∙ ap inner (e ∙ at_node))

    up_set : IsUp after list node from
    up_set = ap cleared_word (with_here (update_at node) word world.words (update_at node) refl) ∙ written

    -- its block is new, so no node has its mark
    unmarked : versioned_value (world.words (update_at last.node)) ≢ 4 * list.block + MARKED
    unmarked e = by_state (shape.stored last.node lower.is).state
      where
        by_state : (state_of (world.words (update_at last.node)) ≡ CLEAN) ⊎ (HasFlag world last.node ⊎ HasMark world last.node) → ⊥
        by_state (inl clean) = omega (arith, e, clean)
        by_state (inr (inl f)) =
            let small = (shape.flaggers f.list f.flagged).small in
            let value = up_value world f.list last.node f.flagged.from f.up small in
            elim (flag_states f.list.call.op) [
              | inl ins ↦ absurd (omega (arith, value, e, ins))
              | inr del ↦ absurd (omega (arith, value, e, del))
            ]
        by_state (inr (inr m)) =
            let value = marked_value world m.list last.node (shape.flaggers m.list m.flagged).small m.marked in
            let same : m.list.block ≡ list.block = omega (arith, value, e) in
            true≢false (sym (shape.flaggers m.list m.flagged).used ∙ ap world.used same ∙ unused)

    given : versioned_version last.update < versioned_version (world.words (update_at last.node)) → IsGivenUp after list last.node
    given passed = record { passed = omega (arith, passed, ap versioned_version noted_1, ap versioned_version (update last.node apart)); unmarked = λ e. unmarked (ap versioned_value (sym (update last.node apart)) ∙ e) }

    goes : way after.words list.call.op.key last.node ≡ way world.words list.call.op.key last.node
    goes = way_stays world after shape l s refl (λ n left is'. child n left) list.call.op.key last.node lower.is

    fate : RemoveFate after list node from above.left last.node
    fate = elim flags.1 [
      | inr passed ↦ inr (inr (inr (given passed)))
      | inl both ↦ elim (lower.seen knows.learnt.4.clear) [
        | inr passed ↦ inr (inr (inr (given passed)))
        | inl same ↦ inl (
          record {
            up = up_set;
            child = child node above.left ∙ ap (λ n. world.words (child_at n above.left)) at_node ∙ flags.0.child ∙ sym noted_3;
            reached = on_way_stays world after shape l s refl (λ n left is'. child n left) list.call.op.key node (subst (OnWay world.words list.call.op.key) (sym at_node) flags.0.reached);
            leaf = subst (IsLeaf after.changes) (sym goes) (leaf_later world after shape l (way world.words list.call.op.key last.node) both.1.leaf);
            key = ap (λ r. after.words (leaf_key_at r)) goes ∙ leaf_field_later world after shape l (way world.words list.call.op.key last.node) 0 (omega arith) both.1.leaf ∙ both.1.key_is;
          },
          update last.node apart ∙ same ∙ sym noted_1,
        )
      ]
    ]

    removes_set : Removes after list node from
    removes_set = record {
      rem = knows.learnt.1;
      left = above.left;
      gone = last.node;
      side = left_later world after shape l list.call.op.key node is ∙ ap (is_left world.words list.call.op.key) at_node ∙ sym upper.side;
      some = knows.learnt.2.2;
      is = lower.is;
      update = note 0 (omega arith) ∙ filled.stored 0 (0, 0) (omega arith);
      clean = ap state_of noted_1 ∙ knows.learnt.4.clean;
      clear = ap versioned_bit noted_1 ∙ knows.learnt.4.clear;
      place = note 2 (omega arith) ∙ filled.stored 2 (0, 0) (omega arith) ∙ ap (λ n. child_at n above.left) (sym at_node);
      child = ap versioned_value noted_3 ∙ knows.learnt.2.1;
      stays = note 4 (omega arith) ∙ filled.stored 4 (0, 0) (omega arith) ∙ ap (λ b. child_at last.node (not b)) (lower.side ∙ sym (left_later world after shape l list.call.op.key last.node lower.is));
      fate = fate;
    }

    pub flagger_remove : 0 < list.block → list.block < 2 ^ 17 → IsFlagger after list node from
    flagger_remove some small = record {
      some = some;
      small = small;
      used = or_left (list.block == list.block) (world.used list.block) (eq-eqb list.block list.block refl);
      limit = key_limit list.call.op command;
      value = command.value;
      is = is;
      clean = ap state_of from_is ∙ knows.learnt.3.clean;
      clear = ap versioned_bit from_is ∙ knows.learnt.3.clear;
      does = inr removes_set;
    }
