-- Behind an insertion the nodes are in order, and the leaves tell the map with the new key.
use Rattle.std.proofs.Common.{◌≡◌, ◌≢◌, ℕ, ◌^◌, ◌<◌, ◌≤◌, Bool, true, false, not, ◌||◌, List, ◌∷◌, refl, sym, ap, subst, ◌∙◌, inl, inr, ◌⊎◌, arith}
use Rattle.std.specs.Prelude.{◌==◌, if◌then◌else◌, nat_lt, Some, None}
use Rattle.std.specs.FinMap as map
use Rattle.std.proofs.lemmas.Bool.{cases_eq, eq-eqb, ne_eqb, eqb-true, or_cases, or_left, or_right, and_parts, true≢false}
use Rattle.word_fields.specs.Versioned.{versioned_value}
use Rattle.lin_report.specs.declared.calls.Reply.TheVariants.{Yes}
use Rattle.lin_report.specs.Commands.{KEY_LIMIT}
use Rattle.lin_report.specs.Object.{map_object}
use Rattle.node_arena.specs.MemoryMap.{reference_to}
use Rattle.normal_traits.specs.World.{World, Change, held_after}
use Rattle.tree_help.specs.declared.states.TheConstants.{MARKED}
use Rattle.tree_help.specs.Updates.{state_of, inner}
use Rattle.ellen_tree_form.specs.Words.{is_internal, child_at, leaf_value_at, update_at, is_set}
use Rattle.ellen_tree_form.specs.Search.{leaf_on}
use Rattle.ellen_tree_form.specs.Shape.{Shape, Ordered, IsNamed, is_node, made_node, brings, keys, children, told_by}
use Rattle.ellen_tree_form.proofs.Order.SwingWays.{inner_is, child_same, child_update}
use Rattle.ellen_tree_form.proofs.Order.Insert.{inserted}
use Rattle.ellen_tree_form.proofs.Order.SwingLeft.{Goes}
use Rattle.ellen_tree_form.proofs.Steps.Later.{Later}
use Rattle.ellen_tree_form.proofs.Steps.Spares.{Spares}
use Rattle.ellen_tree_steps.specs.Effects.{Links}
use Rattle.ellen_tree_steps.proofs.Order.MapSteps.{set_gets}
use Rattle.ellen_tree_steps.proofs.Lists.FlagsLast.{named_later}
use Rattle.ellen_tree_steps.proofs.Shape.Assembled.{Form}
use Rattle.ellen_tree_steps.proofs.Order.ChildForm.{kids, kid_of, value_same, told_same, goes, order_in, order_out, other}
use Rattle.ellen_tree_steps.proofs.Order.LinkForm as new

pub small_value : (word : ℕ) → word < 2 ^ 24 → versioned_value word ≡ word
unfolding versioned_value
small_value word small = omega (arith, small)

-- a node is the one that a change brought, or an older one
pub node_cases : (change : Change) (older : List Change) (block : ℕ) → is_node (change ∷ older) block ≡ true → (brings change block ≡ true) ⊎ (is_node older block ≡ true)
node_cases change older block is = elim (or_cases (block == 0) (brings change block || made_node older block) is) [
  | inl root ↦ inr (or_left (block == 0) (made_node older block) root)
  | inr made ↦ elim (or_cases (brings change block) (made_node older block) made) [
    | inl here ↦ inl here
    | inr there ↦ inr (or_right (block == 0) (made_node older block) there)
  ]
]

module _ (world after : World) (shape : Shape world) (l : Later world after) (s : Spares world after) (x : Links world after) where
  abbrev node : ℕ
  node = x.flagged.node

  abbrev block : ℕ
  block = x.list.block

  abbrev K : ℕ
  K = x.list.call.op.key

  abbrev old : ℕ
  old = new.old world after shape x

  abbrev k : ℕ
  k = new.k world after shape x

  abbrev on' : ℕ → Bool
  on' = new.on' world after shape x

  abbrev low' : ℕ → ℕ
  low' = new.low' world after shape x

  abbrev high' : ℕ → ℕ
  high' = new.high' world after shape x

  -- ---- the order

  -- the children of the new node
  new_child : (left : Bool) (w : Bool) → world.words (child_at block left) ≡ leaf_on w block → kids after (inner block) left ≡ leaf_on w block
  new_child left w is =
      kid_of after block left
      ∙ ap versioned_value (other world after node x.inserts.left x.to x.beside.words (child_at block left) (λ e. new.none world after shape x (subst (λ y. is_node world.changes y ≡ true) (sym (child_same block node left x.inserts.left e).0) (shape.flaggers x.list x.flagged).is)) ∙ is)
      ∙ small w
    where
      block_small : block < 2 ^ 17
      block_small = (shape.flaggers x.list x.flagged).small

      small : (v : Bool) → versioned_value (leaf_on v block) ≡ leaf_on v block
      small true = small_value (leaf_on true block) (omega (arith, block_small))
      small false = small_value (leaf_on false block) (omega (arith, block_small))

  ordered_link : Ordered (keys after) (children after) on' low' high'
  ordered_link =
      let bounds = new.between world after shape x in
      order_out world after node x.inserts.left x.to x.beside.words on' low' high'
      (inserted (keys after) (kids world) shape.on shape.low shape.high (order_in world after node x.inserts.left x.to x.beside.words shape.on shape.low shape.high shape.ordered)
      (inner node) old (inner block) (new.a world after shape x) (new.b world after shape x) x.inserts.left
      (new.at_node world after shape x).is (inner_is node) (kid_of world node x.inserts.left ∙ new.to_old world after shape x) (new.leaf_old world after shape x)
      (inner_is block) (new.is_leaf world after shape x (nat_lt K k)) (new.is_leaf world after shape x (not (nat_lt K k))) (new.a_b world after shape x)
      (new.new_n world after shape x) (new.new_leaf world after shape x (nat_lt K k)) (new.new_leaf world after shape x (not (nat_lt K k)))
      (bounds.above, bounds.within) (bounds.low_a, bounds.high_a) (bounds.low_b, bounds.high_b)
      (kids after) on' low' high'
      (λ r left is. subst (λ y. Goes (kids world) (kids after) (inner node) x.inserts.left y r left) x.value (goes world after node x.inserts.left x.to x.beside.words r left))
      (new_child true (nat_lt K k) x.waits.new.left) (new_child false (not (nat_lt K k)) x.waits.new.right)
      (new.is_on world after shape x) (λ r is differs. new.puts_on world after shape x r differs (or_left (shape.on r) (r == inner block || (r == new.a world after shape x || r == new.b world after shape x)) is))
      (new.on_n world after shape x) (new.on_a world after shape x) (new.on_b world after shape x) (new.same world after shape x) (new.range_n world after shape x) (new.range_a world after shape x) (new.range_b world after shape x))

  -- ---- nodes

  pub is_new : is_node after.changes block ≡ true
  is_new = ap (λ (cs : List Change). is_node cs block) x.changes ∙ or_right (block == 0) (brings (record { list = x.list; reply = Yes }) block || made_node world.changes block) (or_left (brings (record { list = x.list; reply = Yes }) block) (made_node world.changes block) (rw (x.set, eq-eqb block block refl) refl))

  named_link : (r : ℕ) → on' r ≡ true → IsNamed after.changes r
  named_link r is = elim (new.is_on world after shape x r is) [
    | inl was ↦ named_later world after shape l r (shape.named r was.0)
    | inr fresh ↦ elim fresh [
      | inl e ↦ inl (block, is_new, e)
      | inr leaf ↦ elim leaf [
        | inl e ↦ inr (record { block = block; node = is_new; names = by_which (nat_lt K k) e })
        | inr e ↦ inr (record { block = block; node = is_new; names = by_which (not (nat_lt K k)) e })
      ]
    ]
  ]
    where
      by_which : (w : Bool) → r ≡ leaf_on w block → (r ≡ reference_to block 1) ⊎ (r ≡ reference_to block 3)
      by_which true e = inl e
      by_which false e = inr e

  living_link : (other' : ℕ) → is_node after.changes other' ≡ true → on' (inner other') ≡ false → state_of (after.words (update_at other')) ≡ MARKED
  living_link other' is none = elim (node_cases (record { list = x.list; reply = Yes }) world.changes other' (ap (λ (cs : List Change). is_node cs other') (sym x.changes) ∙ is)) [
    | inl here ↦
        let same : block ≡ other' = eqb-true block other' (and_parts (is_set x.list.call.op) (block == other') here).1 in
        absurd (true≢false (sym (new.on_n world after shape x) ∙ ap (λ y. on' (inner y)) same ∙ none))
    | inr was ↦
        ap state_of (other world after node x.inserts.left x.to x.beside.words (update_at other') (child_update node other' x.inserts.left))
        ∙ shape.living other' was (by_test (shape.on (inner other')) refl)
  ]
    where
      apart : inner other' ≢ old
      apart e = true≢false (sym (inner_is other') ∙ ap is_internal e ∙ new.leaf_old world after shape x)

      by_test : (t : Bool) → shape.on (inner other') ≡ t → shape.on (inner other') ≡ false
      by_test true is' = absurd (true≢false (sym (new.puts_on world after shape x (inner other') apart (or_left (shape.on (inner other')) _ is')) ∙ none))
      by_test false is' = is'

  -- ---- the map

  pub absent : map.get (held_after map_object world.changes) K ≡ None
  absent =
      let r = new.at_old world after shape x in
      shape.tells old K r.is (new.leaf_old world after shape x) r.above r.within (new.limit world after shape x)
      ∙ ap (λ t. if t then Some (world.words (leaf_value_at old)) else None) (ne_eqb k K x.inserts.other)

  gets : (q : ℕ) → map.get (held_after map_object after.changes) q ≡ (if q == K then Some x.list.call.op.value else map.get (held_after map_object world.changes) q)
  gets q = ap (λ (cs : List Change). map.get (held_after map_object cs) q) x.changes ∙ set_gets x.list.call.op (held_after map_object world.changes) x.set absent q

  gets_old : (q : ℕ) → q ≢ K → map.get (held_after map_object after.changes) q ≡ map.get (held_after map_object world.changes) q
  gets_old q differs = gets q ∙ ap (λ t. if t then Some x.list.call.op.value else map.get (held_after map_object world.changes) q) (ne_eqb q K differs)

  told_none : (q r : ℕ) → keys world r ≢ q → told_by world.words q r ≡ None
  told_none q r differs = ap (λ t. if t then Some (world.words (leaf_value_at r)) else None) (ne_eqb (keys world r) q differs)

  -- in the old leaf's range
  tells_new : (w : Bool) (q : ℕ) → (w ≡ true → q ≢ k) → (w ≡ false → q ≢ K) → shape.low old ≤ q → q < shape.high old → q < KEY_LIMIT → map.get (held_after map_object after.changes) q ≡ told_by after.words q (leaf_on w block)
  tells_new true q other_key own_key from to limit = elim (cases_eq q K) [
    | inl same ↦
        gets q ∙ ap (λ t. if t then Some x.list.call.op.value else map.get (held_after map_object world.changes) q) (eq-eqb q K same)
        ∙ ap Some (sym (value_same world after node x.inserts.left x.to x.beside.words (leaf_on true block) ∙ x.inserts.new_value))
        ∙ sym (ap (λ t. if t then Some (after.words (leaf_value_at (leaf_on true block))) else None) (eq-eqb (keys after (leaf_on true block)) q (new.key_new world after shape x ∙ sym same)))
    | inr differs ↦
        gets_old q differs ∙ shape.tells old q (new.at_old world after shape x).is (new.leaf_old world after shape x) from to limit ∙ told_none q old (λ e. other_key refl (sym e))
        ∙ sym (ap (λ t. if t then Some (after.words (leaf_value_at (leaf_on true block))) else None) (ne_eqb (keys after (leaf_on true block)) q (λ e. differs (sym e ∙ new.key_new world after shape x))))
  ]
  tells_new false q other_key own_key from to limit =
      gets_old q (own_key refl) ∙ shape.tells old q (new.at_old world after shape x).is (new.leaf_old world after shape x) from to limit
      ∙ ap (λ v. if k == q then Some v else None) (sym (value_same world after node x.inserts.left x.to x.beside.words (leaf_on false block) ∙ x.inserts.old_value))
      ∙ ap (λ y. if y == q then Some (after.words (leaf_value_at (leaf_on false block))) else None) (sym (new.key_copy world after shape x))

  tells_link : (leaf q : ℕ) → on' leaf ≡ true → is_internal leaf ≡ false → low' leaf ≤ q → q < high' leaf → q < KEY_LIMIT → map.get (held_after map_object after.changes) q ≡ told_by after.words q leaf
  tells_link leaf q is out from to limit = elim (new.is_on world after shape x leaf is) [
    | inl was ↦
        let same = new.same world after shape x leaf was.0 in
        let at_old = new.at_old world after shape x in
        let differs : q ≢ K = λ e. was.1 (shape.ordered.one_leaf leaf old q was.0 at_old.is out (new.leaf_old world after shape x) (omega (arith, from, same.0)) (omega (arith, to, same.1)) (omega (arith, at_old.above, e)) (omega (arith, at_old.within, e))) in
        gets_old q differs ∙ shape.tells leaf q was.0 out (omega (arith, from, same.0)) (omega (arith, to, same.1)) limit ∙ sym (told_same world after node x.inserts.left x.to x.beside.words q leaf)
    | inr fresh ↦ elim fresh [
      | inl e ↦ absurd (true≢false (sym (inner_is block) ∙ ap is_internal (sym e) ∙ out))
      | inr new_leaf ↦ elim new_leaf [
        | inl e ↦
            let range = new.range_a world after shape x in
            let lower : shape.low old ≤ q = omega (arith, from, ap low' e, range.0) in
            let upper : q < keys after (inner block) = omega (arith, to, ap high' e, range.1) in
            let apart = bounds.apart q in
            subst (λ y. map.get (held_after map_object after.changes) q ≡ told_by after.words q y) (sym e) (tells_new (nat_lt K k) q (apart.1.0 upper) (apart.0.1 upper) lower (omega (arith, upper, bounds.within)) limit)
        | inr e ↦
            let range = new.range_b world after shape x in
            let lower : keys after (inner block) ≤ q = omega (arith, from, ap low' e, range.0) in
            let upper : q < shape.high old = omega (arith, to, ap high' e, range.1) in
            let apart = bounds.apart q in
            subst (λ y. map.get (held_after map_object after.changes) q ≡ told_by after.words q y) (sym e)
            (tells_new (not (nat_lt K k)) q (λ w. apart.1.1 lower (negated (nat_lt K k) w)) (λ w. apart.0.0 lower (affirmed (nat_lt K k) w)) (omega (arith, lower, bounds.above)) upper limit)
      ]
    ]
  ]
    where
      bounds : new.Between world after shape x (nat_lt K k)
      bounds = new.between world after shape x

      negated : (t : Bool) → not t ≡ true → t ≡ false
      negated true e = absurd cc
      negated false e = refl

      affirmed : (t : Bool) → not t ≡ false → t ≡ true
      affirmed true e = refl
      affirmed false e = absurd cc

  pub form_link : Form after
  form_link = record { on = on'; low = low'; high = high'; ordered = ordered_link; named = named_link; living = living_link; tells = tells_link }
