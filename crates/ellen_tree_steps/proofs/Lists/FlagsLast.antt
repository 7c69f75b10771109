-- What every allowed step leaves of nodes, leaves and the lists that set a flag, but for what is still to come of these.
use Rattle.std.proofs.Common.{◌≡◌, ℕ, ◌+◌, ◌%◌, ◌<◌, ◌≤◌, Bool, true, false, not, List, ◌∷◌, refl, sym, ap, subst, ◌∙◌, inl, inr, ◌⊎◌, arith}
use Rattle.std.specs.Prelude.{◌==◌, if◌then◌else◌, nat_lt, Some, None}
use Rattle.std.proofs.lemmas.Bool.{or_cases, or_left, or_right}
use Rattle.word_fields.specs.Versioned.{versioned_value, versioned_bit, versioned_version}
use Rattle.node_arena.specs.MemoryMap.{block_place, node_place, reference_to}
use Rattle.node_arena.proofs.PlacesApart.{node_place-reference_to}
use Rattle.normal_traits.specs.World.{Listed, Change, World}
use Rattle.ellen_tree_form.specs.Words.{child_at, update_at, key_at, leaf_key_at, leaf_value_at, is_versioned}
use Rattle.ellen_tree_form.specs.Search.{greater}
use Rattle.ellen_tree_form.specs.Shape.{Shape, Flagged, IsFlagger, Inserts, InsertWaits, Removes, RemoveStands, Changed, IsMarked, IsGivenUp, IsMade, noted, is_node, made_node, brings, is_left, told_by, IsLeaf, IsNamed, IsBelow}
use Rattle.ellen_tree_form.proofs.Fields.{field_word}
use Rattle.ellen_tree_form.proofs.Asks.{node_word, child_word, leaf_word}
use Rattle.ellen_tree_form.proofs.Offers.{plain}
use Rattle.ellen_tree_form.proofs.Steps.Later.{Later, passed_on}
use Rattle.ellen_tree_form.proofs.Steps.Spares.{Spares}
use Rattle.ellen_tree_form.proofs.Helps.FollowedStays.{noted_later, changed_later, given_later}

-- what is so of an insertion: it waits, or has made its change
abbrev pub InsertFate : World → Listed → ℕ → ℕ → Bool → Type 0
InsertFate world list node from left = InsertWaits world list node from left ⊎ Changed world list

-- of a removal: it waits, with or without its mark, or has made its change, or was given up
abbrev pub RemoveFate : World → Listed → ℕ → ℕ → Bool → ℕ → Type 0
RemoveFate world list node from left gone =
    (RemoveStands world list node from left gone × (world.words (update_at gone) ≡ noted world list 1))
    ⊎ ((RemoveStands world list node from left gone × IsMarked world list gone)
    ⊎ (Changed world list ⊎ IsGivenUp world list gone))

module _ (world after : World) (shape : Shape world) (l : Later world after) where
  -- ---- nodes and leaves

  grown_node : (block : ℕ) → (after.changes ≡ world.changes) ⊎ ((change : Change) × (after.changes ≡ change ∷ world.changes)) → made_node world.changes block ≡ true → made_node after.changes block ≡ true
  grown_node block (inl same) is = ap (λ (cs : List Change). made_node cs block) same ∙ is
  grown_node block (inr more) is = ap (λ (cs : List Change). made_node cs block) more.1 ∙ or_right (brings more.0 block) (made_node world.changes block) is

  made_node_later : (block : ℕ) → made_node world.changes block ≡ true → made_node after.changes block ≡ true
  made_node_later block is = grown_node block l.changes is

  pub node_later : (block : ℕ) → is_node world.changes block ≡ true → is_node after.changes block ≡ true
  node_later block is = elim (or_cases (block == 0) (made_node world.changes block) is) [
    | inl zero' ↦ or_left (block == 0) (made_node after.changes block) zero'
    | inr made ↦ or_right (block == 0) (made_node after.changes block) (made_node_later block made)
  ]

  pub leaf_later : (leaf : ℕ) → IsLeaf world.changes leaf → IsLeaf after.changes leaf
  leaf_later leaf is = record { block = is.block; node = node_later is.block is.node; names = is.names }

  pub named_later : (reference : ℕ) → IsNamed world.changes reference → IsNamed after.changes reference
  named_later reference (inl node) = inl (node.0, node_later node.0 node.1, node.2)
  named_later reference (inr leaf) = inr (leaf_later reference leaf)

  pub below_later : (reference : ℕ) → IsBelow world.changes reference → IsBelow after.changes reference
  below_later reference (inl node) = inl (node.0, made_node_later node.0 node.1, node.2)
  below_later reference (inr leaf) = inr (leaf_later reference leaf)

  -- ---- words that are never exchanged

  field_later : (node field : ℕ) → is_node world.changes node ≡ true → 12 ≤ field → field < 32 → (field < 19) ⊎ (21 < field) → after.words (block_place node field) ≡ world.words (block_place node field)
  field_later node field is high small far = l.plain (block_place node field) (node_word world shape node field is high small) (plain node field small far)

  pub key_later : (node : ℕ) → is_node world.changes node ≡ true → after.words (key_at node) ≡ world.words (key_at node)
  key_later node is = field_later node 17 is (omega arith) (omega arith) (inl (omega arith))

  pub left_later : (key node : ℕ) → is_node world.changes node ≡ true → is_left after.words key node ≡ is_left world.words key node
  left_later key node is = ap (λ k. nat_lt key k) (key_later node is)

  pub leaf_plain : (leaf field : ℕ) → field < 2 → IsLeaf world.changes leaf → is_versioned (node_place leaf field) ≡ false
  leaf_plain leaf field small is = by_name is.names
    where
      by_name : (leaf ≡ reference_to is.block 1) ⊎ (leaf ≡ reference_to is.block 3) → is_versioned (node_place leaf field) ≡ false
      by_name (inl one) = ap (λ r. is_versioned (node_place r field)) one ∙ ap is_versioned (node_place-reference_to is.block 1 field (omega arith) (omega arith)) ∙ plain is.block (12 + field) (omega (arith, small)) (inl (omega (arith, small)))
      by_name (inr three) = ap (λ r. is_versioned (node_place r field)) three ∙ ap is_versioned (node_place-reference_to is.block 3 field (omega arith) (omega arith)) ∙ plain is.block (22 + field) (omega (arith, small)) (inr (omega arith))

  pub leaf_field_later : (leaf field : ℕ) → field < 2 → IsLeaf world.changes leaf → after.words (node_place leaf field) ≡ world.words (node_place leaf field)
  leaf_field_later leaf field small is = l.plain (node_place leaf field) (leaf_word world shape leaf field small is) (leaf_plain leaf field small is)

  pub told_later : (key leaf : ℕ) → IsLeaf world.changes leaf → told_by after.words key leaf ≡ told_by world.words key leaf
  told_later key leaf is =
      ap (λ k. if k == key then Some (after.words (leaf_value_at leaf)) else None) (leaf_field_later leaf 0 (omega arith) is)
      ∙ ap (λ v. if world.words (leaf_key_at leaf) == key then Some v else None) (leaf_field_later leaf 1 (omega arith) is)

  -- ---- lists that set a flag

  module _ (s : Spares world after) (list : Listed) (flagged : Flagged world list) where
    pub note_later : (note : ℕ) → note < 5 → noted after list note ≡ noted world list note
    note_later note small = noted_later world after shape l s list flagged note small

    -- the fields of the list's block
    pub own_later : (field : ℕ) → 12 ≤ field → field < 32 → (field < 19) ⊎ (21 < field) → after.words (block_place list.block field) ≡ world.words (block_place list.block field)
    own_later field high small far = l.plain (block_place list.block field) (field_word world list.block field (shape.flaggers list flagged).used high small) (plain list.block field small far)

    own_leaf : (node field : ℕ) → (node ≡ 1) ⊎ (node ≡ 3) → field < 2 → after.words (node_place (reference_to list.block node) field) ≡ world.words (node_place (reference_to list.block node) field)
    own_leaf node field (inl e) small =
        let at : node_place (reference_to list.block node) field ≡ block_place list.block (12 + field) = ap (λ n. node_place (reference_to list.block n) field) e ∙ node_place-reference_to list.block 1 field (omega arith) (omega arith) in
        ap after.words at ∙ own_later (12 + field) (omega arith) (omega (arith, small)) (inl (omega (arith, small))) ∙ ap world.words (sym at)
    own_leaf node field (inr e) small =
        let at : node_place (reference_to list.block node) field ≡ block_place list.block (22 + field) = ap (λ n. node_place (reference_to list.block n) field) e ∙ node_place-reference_to list.block 3 field (omega arith) (omega arith) in
        ap after.words at ∙ own_later (22 + field) (omega arith) (omega (arith, small)) (inr (omega arith)) ∙ ap world.words (sym at)

    -- a change that was made
    pub is_made_later : (first : ℕ) → first < 4 → (m : IsMade world list first) → is_node world.changes m.node ≡ true → IsMade after list first
    is_made_later first small m is = record {
      node = m.node;
      left = m.left;
      place = note_later first (omega (arith, small)) ∙ m.place;
      passed = subst (λ w. versioned_version w < versioned_version (after.words (child_at m.node m.left))) (sym (note_later (first + 1) (omega (arith, small)))) (passed_on (child_at m.node m.left) (noted world list (first + 1)) (child_word world shape m.node m.left is) l m.passed);
    }

    -- ---- what is so of a list, with its fate given

    inserts_later : (i : Inserts world list flagged.node flagged.from) → (InsertWaits world list flagged.node flagged.from i.left → InsertFate after list flagged.node flagged.from i.left) → Inserts after list flagged.node flagged.from
    inserts_later i waits =
        let old : versioned_value (noted after list 1) ≡ versioned_value (noted world list 1) = ap versioned_value (note_later 1 (omega arith)) in
        let key : after.words (leaf_key_at (versioned_value (noted after list 1))) ≡ world.words (leaf_key_at (versioned_value (noted world list 1))) = ap (λ r. after.words (leaf_key_at r)) old ∙ leaf_field_later (versioned_value (noted world list 1)) 0 (omega arith) i.leaf in
        let value : after.words (leaf_value_at (versioned_value (noted after list 1))) ≡ world.words (leaf_value_at (versioned_value (noted world list 1))) = ap (λ r. after.words (leaf_value_at r)) old ∙ leaf_field_later (versioned_value (noted world list 1)) 1 (omega arith) i.leaf in
        record {
          set = i.set;
          left = i.left;
          side = left_later list.call.op.key flagged.node (shape.flaggers list flagged).is ∙ i.side;
          place = note_later 0 (omega arith) ∙ i.place;
          leaf = subst (IsLeaf after.changes) (sym old) (leaf_later (versioned_value (noted world list 1)) i.leaf);
          other = λ e. i.other (sym key ∙ e);
          new_key = own_leaf 1 0 (inl refl) (omega arith) ∙ i.new_key;
          new_value = own_leaf 1 1 (inl refl) (omega arith) ∙ i.new_value;
          old_key = own_leaf 3 0 (inr refl) (omega arith) ∙ i.old_key ∙ sym key;
          old_value = own_leaf 3 1 (inr refl) (omega arith) ∙ i.old_value ∙ sym value;
          key = own_later 17 (omega arith) (omega arith) (inl (omega arith)) ∙ i.key ∙ ap (greater list.call.op.key) (sym key);
          fate = elim i.fate [
            | inl w ↦ waits w
            | inr changed ↦ inr (changed_later world after shape l s list changed)
          ];
        }

    removes_later : (r : Removes world list flagged.node flagged.from) → (RemoveStands world list flagged.node flagged.from r.left r.gone → world.words (update_at r.gone) ≡ noted world list 1 → RemoveFate after list flagged.node flagged.from r.left r.gone)
        → (RemoveStands world list flagged.node flagged.from r.left r.gone → IsMarked world list r.gone → RemoveFate after list flagged.node flagged.from r.left r.gone) → Removes after list flagged.node flagged.from
    removes_later r waits stands = record {
      rem = r.rem;
      left = r.left;
      gone = r.gone;
      side = left_later list.call.op.key flagged.node (shape.flaggers list flagged).is ∙ r.side;
      some = r.some;
      is = node_later r.gone r.is;
      update = note_later 0 (omega arith) ∙ r.update;
      clean = ap (λ w. versioned_value w % 4) (note_later 1 (omega arith)) ∙ r.clean;
      clear = ap versioned_bit (note_later 1 (omega arith)) ∙ r.clear;
      place = note_later 2 (omega arith) ∙ r.place;
      child = ap versioned_value (note_later 3 (omega arith)) ∙ r.child;
      stays = note_later 4 (omega arith) ∙ r.stays ∙ ap (λ b. child_at r.gone (not b)) (sym (left_later list.call.op.key r.gone r.is));
      fate = elim r.fate [
        | inl w ↦ waits w.0 w.1
        | inr rest ↦ elim rest [
          | inl m ↦ stands m.0 m.1
          | inr ended ↦ elim ended [
            | inl changed ↦ inr (inr (inl (changed_later world after shape l s list changed)))
            | inr given ↦ inr (inr (inr (given_later world after shape l s list flagged r.rem r.gone r.update given)))
          ]
        ]
      ];
    }

    pub flagger_later : ((i : Inserts world list flagged.node flagged.from) → InsertWaits world list flagged.node flagged.from i.left → InsertFate after list flagged.node flagged.from i.left)
        → ((r : Removes world list flagged.node flagged.from) → RemoveStands world list flagged.node flagged.from r.left r.gone → world.words (update_at r.gone) ≡ noted world list 1 → RemoveFate after list flagged.node flagged.from r.left r.gone)
        → ((r : Removes world list flagged.node flagged.from) → RemoveStands world list flagged.node flagged.from r.left r.gone → IsMarked world list r.gone → RemoveFate after list flagged.node flagged.from r.left r.gone)
        → IsFlagger after list flagged.node flagged.from
    flagger_later inserts waits stands =
        let is = shape.flaggers list flagged in
        record {
          some = is.some;
          small = is.small;
          used = l.used list.block is.used;
          limit = is.limit;
          value = is.value;
          is = node_later flagged.node is.is;
          clean = is.clean;
          clear = is.clear;
          does = elim is.does [
            | inl i ↦ inl (inserts_later i (inserts i))
            | inr r ↦ inr (removes_later r (waits r) (stands r))
          ];
        }
