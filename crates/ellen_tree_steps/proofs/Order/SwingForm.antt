-- A swing: the order and the map behind it.
use Rattle.std.proofs.Common.{◌≡◌, ◌≢◌, ℕ, ◌<◌, ◌≤◌, Bool, true, false, not, List, Option, refl, sym, ap, subst, ◌∙◌, inl, inr, ◌⊎◌, arith}
use Rattle.std.specs.Prelude.{◌==◌, if◌then◌else◌, Some, None}
use Rattle.std.specs.FinMap as map
use Rattle.std.proofs.lemmas.Bool.{cases_eq, eq-eqb, ne_eqb, and_parts, true≢false}
use Rattle.word_fields.specs.Versioned.{versioned_value}
use Rattle.lin_report.specs.declared.calls.Reply.TheVariants.{Yes}
use Rattle.lin_report.specs.Commands.{KEY_LIMIT}
use Rattle.lin_report.specs.Object.{map_object}
use Rattle.node_arena.proofs.PlacesApart.{node_place-reference_to}
use Rattle.normal_traits.specs.World.{World, Change, held_after}
use Rattle.tree_help.specs.declared.states.TheConstants.{MARKED}
use Rattle.tree_help.specs.Updates.{state_of, inner}
use Rattle.ellen_tree_form.specs.Words.{is_internal, leaf_key_at, leaf_value_at, update_at, is_set}
use Rattle.ellen_tree_form.specs.Shape.{Shape, Ordered, IsNamed, is_node, keys, child_of, is_left, way, TOP}
use Rattle.ellen_tree_form.specs.Shape.OnWay.{below}
use Rattle.ellen_tree_form.proofs.Plain.{both_ops, marked_value}
use Rattle.ellen_tree_form.proofs.Order.SwingWays.{InRange, way_in, inner_same, inner_is, leaf_names, child_update, told_now}
use Rattle.ellen_tree_form.proofs.Order.SwingLeft.{Goes, swing_left, tells_left}
use Rattle.ellen_tree_form.proofs.Order.SwingRight.{swing_right, tells_right}
use Rattle.ellen_tree_form.proofs.Steps.Later.{Later}
use Rattle.ellen_tree_form.proofs.Steps.Spares.{Spares}
use Rattle.ellen_tree_steps.specs.Effects.{Swings}
use Rattle.ellen_tree_steps.proofs.Order.MapSteps.{rem_gets}
use Rattle.ellen_tree_steps.proofs.Lists.FlagsLast.{named_later}
use Rattle.ellen_tree_steps.proofs.Shape.Assembled.{Form}
use Rattle.ellen_tree_steps.proofs.Order.ChildForm.{kids, kid_of, keys_same, told_same, goes, order_in, order_out, other}
use Rattle.ellen_tree_steps.proofs.Order.LinkOrder.{node_cases}

module _ (world after : World) (shape : Shape world) (l : Later world after) (s : Spares world after) (x : Swings world after) where
  abbrev node : ℕ
  node = x.flagged.node

  abbrev gone : ℕ
  gone = x.removes.gone

  abbrev K : ℕ
  K = x.list.call.op.key

  abbrev side : Bool
  side = x.removes.left

  -- the node that goes, and its leaf
  abbrev p : ℕ
  p = inner x.removes.gone

  abbrev leaf_gone : ℕ
  leaf_gone = way world.words x.list.call.op.key x.removes.gone

  limit : K < KEY_LIMIT
  limit = (shape.flaggers x.list x.flagged).limit

  at_node : InRange shape.on shape.low shape.high K (inner node)
  at_node = way_in world shape.on shape.low shape.high shape.ordered K node (omega (arith, limit)) x.stands.reached

  pub to_gone : child_of world.words node side ≡ p
  to_gone = ap versioned_value x.stands.child ∙ x.removes.child

  pub leaf_out : is_internal leaf_gone ≡ false
  leaf_out = leaf_names world.changes leaf_gone x.stands.leaf

  no_root : p ≢ 2
  no_root e = x.removes.some (omega (arith, e))

  -- what the map held
  pub held : map.get (held_after map_object world.changes) K ≡ Some (world.words (leaf_value_at leaf_gone))
  held =
      told_now world shape K gone limit (below node x.stands.reached (ap (λ t. child_of world.words node t) x.removes.side ∙ to_gone)) leaf_out
      ∙ ap (λ t. if t then Some (world.words (leaf_value_at leaf_gone)) else None) (eq-eqb (world.words (leaf_key_at leaf_gone)) K x.stands.key)

  -- ---- who is on

  abbrev on' : ℕ → Bool
  on' r = if r == p then false else (if r == leaf_gone then false else shape.on r)

  off_p : (r : ℕ) → r ≡ p → on' r ≡ false
  off_p r e = ap (λ t. if t then false else (if r == leaf_gone then false else shape.on r)) (eq-eqb r p e)

  on_rest : (r : ℕ) → r ≢ p → on' r ≡ (if r == leaf_gone then false else shape.on r)
  on_rest r e = ap (λ t. if t then false else (if r == leaf_gone then false else shape.on r)) (ne_eqb r p e)

  on_same : (r : ℕ) → r ≢ p → r ≢ leaf_gone → on' r ≡ shape.on r
  on_same r e e' = on_rest r e ∙ ap (λ t. if t then false else shape.on r) (ne_eqb r leaf_gone e')

  stays : (r : ℕ) → on' r ≡ true → (shape.on r ≡ true) × (r ≢ p) × (r ≢ leaf_gone)
  stays r is =
      let a : r ≢ p = λ e. true≢false (sym is ∙ off_p r e) in
      let b : r ≢ leaf_gone = λ e. true≢false (sym is ∙ on_rest r a ∙ ap (λ t. if t then false else shape.on r) (eq-eqb r leaf_gone e)) in
      (sym (on_same r a b) ∙ is, a, b)

  still : (r : ℕ) → shape.on r ≡ true → r ≢ p → r ≢ leaf_gone → on' r ≡ true
  still r is a b = on_same r a b ∙ is

  -- a bound that is the key of the node that goes becomes another one
  moved : (bound : ℕ → ℕ) (to : ℕ) (r : ℕ) → ((bound r ≡ keys after p) × ((if bound r == keys after p then to else bound r) ≡ to)) ⊎ ((bound r ≢ keys after p) × ((if bound r == keys after p then to else bound r) ≡ bound r))
  moved bound to r = elim (cases_eq (bound r) (keys after p)) [
    | inl e ↦ inl (e, ap (λ t. if t then to else bound r) (eq-eqb (bound r) (keys after p) e))
    | inr e ↦ inr (e, ap (λ t. if t then to else bound r) (ne_eqb (bound r) (keys after p) e))
  ]

  -- ---- nodes

  named_swing : (r : ℕ) → on' r ≡ true → IsNamed after.changes r
  named_swing r is = named_later world after shape l r (shape.named r (stays r is).0)

  living_swing : (block : ℕ) → is_node after.changes block ≡ true → on' (inner block) ≡ false → state_of (after.words (update_at block)) ≡ MARKED
  living_swing block is none = elim (node_cases (record { list = x.list; reply = Yes }) world.changes block (ap (λ (cs : List Change). is_node cs block) (sym x.changes) ∙ is)) [
    | inl here ↦ absurd (both_ops x.list.call.op (and_parts (is_set x.list.call.op) (x.list.block == block) here).0 x.rem)
    | inr was ↦ ap state_of (other world after node side x.to x.beside.words (update_at block) (child_update node block side)) ∙ elim (cases_eq block gone) [
      | inl same ↦ ap (λ n. state_of (world.words (update_at n))) same ∙ omega (arith, marked_value world x.list gone (shape.flaggers x.list x.flagged).small x.marked)
      | inr differs ↦
          let apart : inner block ≢ p = λ e. differs (inner_same block gone e) in
          let no_leaf : inner block ≢ leaf_gone = λ e. true≢false (sym (inner_is block) ∙ ap is_internal e ∙ leaf_out) in
          shape.living block was (sym (on_same (inner block) apart no_leaf) ∙ none)
    ]
  ]

  -- ---- the map

  abbrev get : ℕ → Option ℕ
  get q = map.get (held_after map_object world.changes) q

  abbrev get' : ℕ → Option ℕ
  get' q = map.get (held_after map_object after.changes) q

  key_leaf : keys after leaf_gone ≡ K
  key_leaf = keys_same world after node side x.to x.beside.words leaf_gone ∙ x.stands.key

  removed : (q : ℕ) → get' q ≡ (if q == keys after leaf_gone then None else get q)
  removed q =
      ap (λ (cs : List Change). map.get (held_after map_object cs) q) x.changes ∙ rem_gets x.list.call.op (held_after map_object world.changes) x.rem q
      ∙ ap (λ y. if q == y then None else get q) (sym key_leaf)

  tells : (r q : ℕ) → shape.on r ≡ true → is_internal r ≡ false → shape.low r ≤ q → q < shape.high r → q < KEY_LIMIT → get q ≡ (if keys after r == q then Some (after.words (leaf_value_at r)) else None)
  tells r q is out from to small = shape.tells r q is out from to small ∙ sym (told_same world after node side x.to x.beside.words q r)

  -- ---- both sides

  key_small : keys after p < TOP
  key_small = omega (arith, keys_same world after node side x.to x.beside.words p, ap world.words (node_place-reference_to gone 2 0 (omega arith) (omega arith)), (shape.stored gone x.removes.is).inner_key)

  order : Ordered (keys after) (kids world) shape.on shape.low shape.high
  order = order_in world after node side x.to x.beside.words shape.on shape.low shape.high shape.ordered

  goes_to : (t : Bool) → is_left world.words K gone ≡ t → (r : ℕ) (left : Bool) → Goes (kids world) (kids after) (inner node) side (kids world p (not t)) r left
  goes_to t e r left =
      subst (λ y. Goes (kids world) (kids after) (inner node) side y r left) (x.value ∙ ap (λ b. child_of world.words gone (not b)) e ∙ sym (kid_of world gone (not t))) (goes world after node side x.to x.beside.words r left)

  to_leaf : (t : Bool) → is_left world.words K gone ≡ t → kids world p t ≡ leaf_gone
  to_leaf t e = kid_of world gone t ∙ ap (λ b. child_of world.words gone b) (sym e)

  form_by : (t : Bool) → is_left world.words K gone ≡ t → Form after
  form_by true e = record {
    on = on';
    low = λ r. if shape.low r == keys after p then shape.low p else shape.low r;
    high = shape.high;
    ordered = order_out world after node side x.to x.beside.words on' (λ r. if shape.low r == keys after p then shape.low p else shape.low r) shape.high
        (swing_left (keys after) (kids world) shape.on shape.low shape.high order (inner node) p leaf_gone (kids world p false) side at_node.is (inner_is node) (kid_of world node side ∙ to_gone) (inner_is gone) no_root (to_leaf true e) leaf_out refl
        (kids after) on' (λ r. if shape.low r == keys after p then shape.low p else shape.low r) (goes_to true e) stays still (moved shape.low (shape.low p)));
    named = named_swing;
    living = living_swing;
    tells = λ r q is out from to small. tells_left (keys after) (kids world) shape.on shape.low shape.high order (inner node) p leaf_gone (kids world p false) side at_node.is (inner_is node) (kid_of world node side ∙ to_gone) (inner_is gone) no_root (to_leaf true e) leaf_out refl
        (kids after) on' (λ r'. if shape.low r' == keys after p then shape.low p else shape.low r') (goes_to true e) stays still (moved shape.low (shape.low p))
        get get' (λ r'. after.words (leaf_value_at r')) KEY_LIMIT removed tells r q is out from to small;
  }
  form_by false e = record {
    on = on';
    low = shape.low;
    high = λ r. if shape.high r == keys after p then shape.high p else shape.high r;
    ordered = order_out world after node side x.to x.beside.words on' shape.low (λ r. if shape.high r == keys after p then shape.high p else shape.high r)
        (swing_right (keys after) (kids world) shape.on shape.low shape.high order (inner node) p leaf_gone (kids world p true) side at_node.is (inner_is node) (kid_of world node side ∙ to_gone) (inner_is gone) no_root (to_leaf false e) leaf_out refl
        (kids after) on' (λ r. if shape.high r == keys after p then shape.high p else shape.high r) (goes_to false e) stays still (moved shape.high (shape.high p)) key_small);
    named = named_swing;
    living = living_swing;
    tells = λ r q is out from to small. tells_right (keys after) (kids world) shape.on shape.low shape.high order (inner node) p leaf_gone (kids world p true) side at_node.is (inner_is node) (kid_of world node side ∙ to_gone) (inner_is gone) no_root (to_leaf false e) leaf_out refl
        (kids after) on' (λ r'. if shape.high r' == keys after p then shape.high p else shape.high r') (goes_to false e) stays still (moved shape.high (shape.high p))
        get get' (λ r'. after.words (leaf_value_at r')) KEY_LIMIT removed tells r q is out from to small;
  }

  pub form_swing : Form after
  form_swing = form_by (is_left world.words K gone) refl
