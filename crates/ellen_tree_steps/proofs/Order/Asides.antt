-- A step that exchanges no child leaves the order, the map and each key's way.
use Rattle.std.proofs.Common.{◌≡◌, ℕ, ◌/◌, ◌%◌, ◌<◌, ◌≤◌, Bool, true, false, List, refl, sym, ap, subst, ◌∙◌, inl, inr, arith}
use Rattle.std.specs.FinMap as map
use Rattle.std.proofs.lemmas.Bool.{or_right}
use Rattle.word_fields.specs.Versioned.{versioned_value}
use Rattle.word_fields.proofs.ChangedWords.{value-cleared}
use Rattle.lin_report.specs.Commands.{KEY_LIMIT}
use Rattle.lin_report.specs.Object.{map_object}
use Rattle.node_arena.proofs.PlacesApart.{node_place-reference_to}
use Rattle.normal_traits.specs.World.{Change, World, held_after}
use Rattle.tree_help.specs.declared.states.TheConstants.{MARKED}
use Rattle.tree_help.specs.Updates.{state_of, inner}
use Rattle.ellen_tree_form.specs.Words.{child_at, update_at, key_at, leaf_key_at, is_internal}
use Rattle.ellen_tree_form.specs.Shape.{Shape, Ordered, OnWay, is_node, made_node, child_of, is_left, way, told_by, keys, children, IsLeaf, IsNamed, IsBelow}
use Rattle.ellen_tree_form.specs.Shape.OnWay.{root, below}
use Rattle.ellen_tree_form.specs.Knowledge.{Reaches}
use Rattle.ellen_tree_form.specs.Knowledge.Reaches.{on, off, told}
use Rattle.ellen_tree_form.proofs.Order.SwingWays.{inner_same, inner_is, inner_block, leaf_names}
use Rattle.ellen_tree_form.proofs.Asks.{node_word}
use Rattle.ellen_tree_form.proofs.Steps.Later.{Later}
use Rattle.ellen_tree_form.proofs.Steps.Spares.{Spares}
use Rattle.ellen_tree_steps.proofs.Lists.Told.{was_told_later}
use Rattle.ellen_tree_steps.proofs.Lists.FlagsLast.{node_later, key_later, left_later, leaf_field_later, told_later}

-- each node on a way is one
way_node : (world : World) → Shape world → (key node : ℕ) → OnWay world.words key node → is_node world.changes node ≡ true
way_node world shape key node (root e) = subst (λ n. is_node world.changes n ≡ true) (sym e) refl
way_node world shape key node (below above w e) = by_name ((shape.stored above (way_node world shape key above w)).leads (is_left world.words key above))
  where
    by_name : IsBelow world.changes (way world.words key above) → is_node world.changes node ≡ true
    by_name (inl named) = subst (λ n. is_node world.changes n ≡ true) (inner_same named.0 node (sym named.2 ∙ e)) (or_right _ (made_node world.changes named.0) named.1)
    by_name (inr leaf) =
        let no : is_internal (inner node) ≡ false = subst (λ r. is_internal r ≡ false) e (leaf_names world.changes (way world.words key above) leaf) in
        let yes : is_internal (inner node) ≡ true = inner_is node in
        absurd cc

-- an order is one of its nodes' keys and children alone
pub ordered_same : (key key' : ℕ → ℕ) (child child' : ℕ → Bool → ℕ) (on' : ℕ → Bool) (low high : ℕ → ℕ) → Ordered key child on' low high → ((r : ℕ) → on' r ≡ true → key' r ≡ key r)
    → ((r : ℕ) (left : Bool) → on' r ≡ true → is_internal r ≡ true → child' r left ≡ child r left) → Ordered key' child' on' low high
ordered_same key key' child child' on' low high o ks cs = record {
  root = o.root;
  root_low = o.root_low;
  root_high = o.root_high;
  leads = λ r left is in'. subst (λ c. on' c ≡ true) (sym (cs r left is in')) (o.leads r left is in');
  left_low = λ r is in'. ap low (cs r true is in') ∙ o.left_low r is in';
  left_high = λ r is in'. ap high (cs r true is in') ∙ o.left_high r is in' ∙ sym (ks r is);
  right_low = λ r is in'. ap low (cs r false is in') ∙ o.right_low r is in' ∙ sym (ks r is);
  right_high = λ r is in'. ap high (cs r false is in') ∙ o.right_high r is in';
  within = λ r is in'. (omega (arith, ks r is, o.within r is in'), omega (arith, ks r is, o.within r is in'));
  leaf = λ r is out. (omega (arith, ks r is, o.leaf r is out), omega (arith, ks r is, o.leaf r is out));
  one_leaf = o.one_leaf;
  one_key = λ a b is_a is_b in_a in_b e. o.one_key a b is_a is_b in_a in_b (sym (ks a is_a) ∙ e ∙ ks b is_b);
  leaf_apart = λ a b is_a is_b out_a in_b less more. o.leaf_apart a b is_a is_b out_a in_b (omega (arith, less, ks b is_b)) (omega (arith, more, ks b is_b));
  sides_apart = λ a b is_a is_b in_a in_b e. o.sides_apart a b is_a is_b in_a in_b (sym (cs a true is_a in_a) ∙ e ∙ cs b false is_b in_b);
}

module _ (world after : World) (shape : Shape world) (l : Later world after) (s : Spares world after) (changes : after.changes ≡ world.changes)
    (child : (node : ℕ) (left : Bool) → is_node world.changes node ≡ true → after.words (child_at node left) ≡ world.words (child_at node left)) where
  -- ---- ways

  pub child_stays : (node : ℕ) (left : Bool) → is_node world.changes node ≡ true → child_of after.words node left ≡ child_of world.words node left
  child_stays node left is = ap versioned_value (child node left is)

  pub way_stays : (key node : ℕ) → is_node world.changes node ≡ true → way after.words key node ≡ way world.words key node
  way_stays key node is = ap (λ b. child_of after.words node b) (left_later world after shape l key node is) ∙ child_stays node (is_left world.words key node) is

  pub on_way_stays : (key node : ℕ) → OnWay world.words key node → OnWay after.words key node
  on_way_stays key node (root e) = root e
  on_way_stays key node (below above w e) = below above (on_way_stays key above w) (way_stays key above (way_node world shape key above w) ∙ e)

  -- ---- nodes that are marked

  marked_stays : (node : ℕ) → is_node world.changes node ≡ true → state_of (world.words (update_at node)) ≡ MARKED → state_of (after.words (update_at node)) ≡ MARKED
  marked_stays node is marked = elim (s.frozen node (node_word world shape node 21 is (omega arith) (omega arith)) marked) [
    | inl same ↦ ap state_of same ∙ marked
    | inr cleared ↦ ap state_of cleared ∙ ap (λ v. v % 4) (value-cleared (world.words (update_at node))) ∙ marked
  ]

  -- ---- what a search has learnt

  pub reaches_stays : (since key reference : ℕ) → Reaches world since key reference → Reaches after since key reference
  reaches_stays since key reference (on node e w) = on node e (on_way_stays key node w)
  reaches_stays since key reference (off node e is mark rest) =
      off node e (node_later world after shape l node is) (marked_stays node is mark) (subst (Reaches after since key) (sym (way_stays key node is)) (reaches_stays since key (way world.words key node) rest))
  reaches_stays since key reference (told leaf t) = told leaf (was_told_later world after shape l since key reference t)

  -- ---- the order

  keys_stay : (r : ℕ) → shape.on r ≡ true → keys after r ≡ keys world r
  keys_stay r on' = by_name (shape.named r on')
    where
      by_name : IsNamed world.changes r → keys after r ≡ keys world r
      by_name (inl node) =
          let at : leaf_key_at r ≡ key_at node.0 = ap leaf_key_at node.2 ∙ node_place-reference_to node.0 2 0 (omega arith) (omega arith) in
          ap after.words at ∙ key_later world after shape l node.0 node.1 ∙ ap world.words (sym at)
      by_name (inr leaf) = leaf_field_later world after shape l r 0 (omega arith) leaf

  children_stay : (r : ℕ) (left : Bool) → shape.on r ≡ true → is_internal r ≡ true → children after r left ≡ children world r left
  children_stay r left on' in' = by_name (shape.named r on')
    where
      by_name : IsNamed world.changes r → children after r left ≡ children world r left
      by_name (inl node) =
          let block : r / 4 ≡ node.0 = ap (λ x. x / 4) node.2 ∙ inner_block node.0 in
          child_stays (r / 4) left (subst (λ n. is_node world.changes n ≡ true) (sym block) node.1)
      by_name (inr leaf) = let no : is_internal r ≡ false = leaf_names world.changes r leaf in absurd cc

  pub ordered_stays : Ordered (keys after) (children after) shape.on shape.low shape.high
  ordered_stays = ordered_same (keys world) (keys after) (children world) (children after) shape.on shape.low shape.high shape.ordered keys_stay children_stay

  pub living_stays : (block : ℕ) → is_node after.changes block ≡ true → shape.on (inner block) ≡ false → state_of (after.words (update_at block)) ≡ MARKED
  living_stays block is off' =
      let was : is_node world.changes block ≡ true = ap (λ (cs : List Change). is_node cs block) (sym changes) ∙ is in
      marked_stays block was (shape.living block was off')

  pub tells_stays : (leaf key : ℕ) → shape.on leaf ≡ true → is_internal leaf ≡ false → shape.low leaf ≤ key → key < shape.high leaf → key < KEY_LIMIT → map.get (held_after map_object after.changes) key ≡ told_by after.words key leaf
  tells_stays leaf key on' out from to limit =
      ap (λ (cs : List Change). map.get (held_after map_object cs) key) changes ∙ shape.tells leaf key on' out from to limit ∙ sym (told_later world after shape l key leaf (by_name (shape.named leaf on')))
    where
      by_name : IsNamed world.changes leaf → IsLeaf world.changes leaf
      by_name (inl node) =
          let no : is_internal leaf ≡ true = ap is_internal node.2 ∙ inner_is node.0 in
          absurd cc
      by_name (inr is) = is
