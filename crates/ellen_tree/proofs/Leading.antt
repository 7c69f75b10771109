-- Each key's way ends at a leaf, since the ranges of the nodes on it grow smaller.
use Rattle.std.proofs.Common.{◌≡◌, ℕ, zero, suc, ◌+◌, ◌<◌, ◌≤◌, Bool, true, false, refl, sym, ap, subst, ◌∙◌, inl, inr, arith}
use Rattle.std.proofs.lemmas.Bool.{true≢false}
use Rattle.lin_report.specs.Commands.{KEY_LIMIT}
use Rattle.normal_traits.specs.World.{World}
use Rattle.tree_help.specs.Updates.{inner}
use Rattle.ellen_tree_form.specs.Words.{is_internal}
use Rattle.ellen_tree_form.specs.Shape.{Shape, IsNamed, OnWay, keys, child_of, is_left, way}
use Rattle.ellen_tree_form.specs.Shape.OnWay.{root, below}
use Rattle.ellen_tree_form.proofs.Order.SwingWays.{InRange, way_in, next_in, children_of, inner_is, leaf_names}
use Rattle.ellen_tree.specs.TreeShape.{IsEnd, TreeShape}

module _ (world : World) (shape : Shape world) (key : ℕ) (limit : key < KEY_LIMIT) where
  here : (node : ℕ) → OnWay world.words key node → InRange shape.on shape.low shape.high key (inner node)
  here node w = way_in world shape.on shape.low shape.high shape.ordered key node (omega (arith, limit)) w

  next : (node : ℕ) → OnWay world.words key node → InRange shape.on shape.low shape.high key (way world.words key node)
  next node w = next_in world shape.on shape.low shape.high shape.ordered key node (here node w)

  -- the range of the next node is smaller
  shrinks : (node room : ℕ) → OnWay world.words key node → shape.high (inner node) ≤ shape.low (inner node) + suc room → shape.high (way world.words key node) ≤ shape.low (way world.words key node) + room
  shrinks node room w small = by_side (is_left world.words key node)
    where
      is : shape.on (inner node) ≡ true
      is = (here node w).is

      between : (shape.low (inner node) < keys world (inner node)) × (keys world (inner node) < shape.high (inner node))
      between = shape.ordered.within (inner node) is (inner_is node)

      by_side : (b : Bool) → shape.high (child_of world.words node b) ≤ shape.low (child_of world.words node b) + room
      by_side true =
          let child = children_of world shape.on shape.low shape.high shape.ordered key node true in
          omega (arith, small, between, ap shape.low child, ap shape.high child, shape.ordered.left_low (inner node) is (inner_is node), shape.ordered.left_high (inner node) is (inner_is node))
      by_side false =
          let child = children_of world shape.on shape.low shape.high shape.ordered key node false in
          omega (arith, small, between, ap shape.low child, ap shape.high child, shape.ordered.right_low (inner node) is (inner_is node), shape.ordered.right_high (inner node) is (inner_is node))

  go_down : (room node : ℕ) → OnWay world.words key node → shape.high (inner node) ≤ shape.low (inner node) + room → (leaf : ℕ) × IsEnd world.words key leaf
  go_down zero node w small = absurd (omega (arith, small, shape.ordered.within (inner node) (here node w).is (inner_is node)))
  go_down (suc room) node w small = by_kind (λ block leads. go_down room block (below node w leads) (subst (λ r. shape.high r ≤ shape.low r + room) leads (shrinks node room w small))) (is_internal (way world.words key node)) refl
    where
      by_name : ((block : ℕ) → way world.words key node ≡ inner block → (leaf : ℕ) × IsEnd world.words key leaf) → is_internal (way world.words key node) ≡ true → IsNamed world.changes (way world.words key node) → (leaf : ℕ) × IsEnd world.words key leaf
      by_name further is (inl named) = further named.0 named.2
      by_name further is (inr leaf) = absurd (true≢false (sym is ∙ leaf_names world.changes (way world.words key node) leaf))

      by_kind : ((block : ℕ) → way world.words key node ≡ inner block → (leaf : ℕ) × IsEnd world.words key leaf) → (b : Bool) → is_internal (way world.words key node) ≡ b → (leaf : ℕ) × IsEnd world.words key leaf
      by_kind further true is = by_name further is (shape.named (way world.words key node) (next node w).is)
      by_kind further false out = (way world.words key node, record { above = node; reached = w; next = refl; out = out })

  end_in : (leaf : ℕ) → IsEnd world.words key leaf → InRange shape.on shape.low shape.high key leaf
  end_in leaf e = subst (InRange shape.on shape.low shape.high key) e.next (next e.above e.reached)

  ends : (leaf : ℕ) × IsEnd world.words key leaf
  ends = go_down (shape.high 2) 0 (root refl) (omega arith)

  one : (a b : ℕ) → IsEnd world.words key a → IsEnd world.words key b → a ≡ b
  one a b ea eb = let ra = end_in a ea in let rb = end_in b eb in shape.ordered.one_leaf a b key ra.is rb.is ea.out eb.out ra.above ra.within rb.above rb.within

pub tree_shape : (world : World) → Shape world → TreeShape world
tree_shape world shape = record {
  ends = λ key limit. ends world shape key limit;
  one = λ key a b limit ea eb. one world shape key limit a b ea eb;
  tells = λ key leaf limit e. let r = end_in world shape key limit leaf e in shape.tells leaf key r.is e.out r.above r.within limit;
}
