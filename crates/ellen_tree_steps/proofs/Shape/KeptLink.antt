-- An insertion keeps the shape.
use Rattle.std.proofs.Common.{◌≡◌, ℕ, ◌^◌, ◌%◌, ◌<◌, Bool, true, false, not, List, refl, sym, ap, subst, ◌∙◌, inl, inr, arith}
use Rattle.std.specs.Prelude.{◌==◌, if◌then◌else◌, nat_lt}
use Rattle.std.proofs.lemmas.Bool.{or_left, eqb-true, eq-eqb, and_parts}
use Rattle.word_fields.specs.Versioned.{versioned_value, versioned_version}
use Rattle.lin_report.specs.declared.calls.Reply.TheVariants.{Yes}
use Rattle.node_arena.specs.MemoryMap.{reference_to}
use Rattle.normal_traits.specs.World.{Listed, World, Change}
use Rattle.ellen_tree_form.specs.Words.{is_internal, child_at, update_at, leaf_value_at, is_set}
use Rattle.ellen_tree_form.specs.Search.{leaf_on, greater}
use Rattle.ellen_tree_form.specs.Shape.{Shape, Flagged, Changed, IsFlagger, IsStored, IsLeaf, WasMade, OnWay, is_node, made_node, brings, TOP}
use Rattle.ellen_tree_form.proofs.Plain.{both_ops}
use Rattle.ellen_tree_form.proofs.Order.InsertWays.{still_way}
use Rattle.ellen_tree_form.proofs.Offers.{leaf_bounds}
use Rattle.ellen_tree_form.proofs.Steps.Later.{Later}
use Rattle.ellen_tree_form.proofs.Steps.Spares.{Spares}
use Rattle.ellen_tree_steps.specs.Effects.{Links}
use Rattle.ellen_tree_steps.proofs.Lists.FlagsLast.{flagger_later, note_later, own_later}
use Rattle.ellen_tree_steps.proofs.Order.MapSteps.{set_effective}
use Rattle.ellen_tree_steps.proofs.Lists.Waiting.{insert_unmade}
use Rattle.ellen_tree_steps.proofs.Words.ChildWords.{child_here, child_apart, update_stays, changed_own, inserts_child, waits_child, marked_child, stored_child}
use Rattle.ellen_tree_steps.proofs.Order.ChildForm.{keys_same, value_same}
use Rattle.ellen_tree_steps.proofs.Order.LinkForm as new
use Rattle.ellen_tree_steps.proofs.Order.LinkOrder.{node_cases, small_value, is_new, absent, form_link}
use Rattle.ellen_tree_steps.proofs.Lists.Journals.{beside_flags, beside_causes}
use Rattle.ellen_tree_steps.proofs.Shape.Assembled.{shape_change}

module _ (world after : World) (shape : Shape world) (l : Later world after) (s : Spares world after) (x : Links world after) where
  abbrev node : ℕ
  node = x.flagged.node

  abbrev block : ℕ
  block = x.list.block

  abbrev side : Bool
  side = x.inserts.left

  -- ---- the lists

  reached : (key n : ℕ) → OnWay world.words key n → OnWay after.words key n
  reached key n w = still_way world after node side x.to x.beside.words (ap is_internal (new.to_old world after shape x) ∙ new.leaf_old world after shape x) key n w

  flagger_link : (list : Listed) (flagged : Flagged world list) → IsFlagger after list flagged.node flagged.from
  flagger_link list flagged =
      flagger_later world after shape l s list flagged
      (λ i waits. inserts_child world after shape l s x.list x.flagged side x.to x.beside.words x.changes x.waits.up list flagged i
      (λ own. inr (subst (Changed after) own (changed_own world after shape l s x.list x.flagged side x.to x.beside.words x.changes x.waits.up))) (λ w up. reached list.call.op.key flagged.node w) waits)
      (λ r stands here. waits_child world after shape l s x.list x.flagged side x.to x.beside.words x.changes x.waits.up list flagged r (λ own. absurd (both_ops list.call.op (ap (λ (y : Listed). is_set y.call.op) (sym own) ∙ x.set) r.rem))
      (λ w up. reached list.call.op.key flagged.node w) stands here)
      (λ r stands marked. marked_child world after shape l s x.list x.flagged side x.to x.beside.words x.changes x.waits.up list flagged r (λ own. absurd (both_ops list.call.op (ap (λ (y : Listed). is_set y.call.op) (sym own) ∙ x.set) r.rem))
      (λ w up. reached list.call.op.key flagged.node w) stands marked)

  -- ---- the new node

  block_small : block < 2 ^ 17
  block_small = (shape.flaggers x.list x.flagged).small

  made_new : made_node after.changes block ≡ true
  made_new = ap (λ (cs : List Change). made_node cs block) x.changes ∙ or_left (brings (record { list = x.list; reply = Yes }) block) (made_node world.changes block) (rw (x.set, eq-eqb block block refl) refl)

  bounds : (new.k world after shape x < TOP) × (world.words (leaf_value_at (new.old world after shape x)) < 2 ^ 32)
  bounds = leaf_bounds world shape (new.old world after shape x) x.inserts.leaf

  key_small : x.list.call.op.key < TOP
  key_small = omega (arith, (shape.flaggers x.list x.flagged).limit)

  greater_small : greater x.list.call.op.key (new.k world after shape x) < TOP
  greater_small = by_test (nat_lt x.list.call.op.key (new.k world after shape x))
    where
      by_test : (t : Bool) → (if t then new.k world after shape x else x.list.call.op.key) < TOP
      by_test true = bounds.0
      by_test false = key_small

  update_zero : after.words (update_at block) ≡ 0
  update_zero = update_stays world after shape l s x.list x.flagged side x.to x.beside.words x.changes x.waits.up block ∙ x.waits.new.update

  child_word : (left : Bool) (w : Bool) → world.words (child_at block left) ≡ leaf_on w block → after.words (child_at block left) ≡ leaf_on w block
  child_word left w is = child_apart world after shape l s x.list x.flagged side x.to x.beside.words x.changes x.waits.up block left (λ e. new.none world after shape x (subst (λ y. is_node world.changes y ≡ true) (sym e) (shape.flaggers x.list x.flagged).is)) ∙ is

  on_small : (w : Bool) → leaf_on w block < 2 ^ 24
  on_small true = omega (arith, block_small)
  on_small false = omega (arith, block_small)

  leaf_is : (w : Bool) → IsLeaf after.changes (leaf_on w block)
  leaf_is true = record { block = block; node = is_new world after shape l s x; names = inl refl }
  leaf_is false = record { block = block; node = is_new world after shape l s x; names = inr refl }

  each_child : (left : Bool) → (w : Bool) × (after.words (child_at block left) ≡ leaf_on w block)
  each_child true = (nat_lt x.list.call.op.key (new.k world after shape x), child_word true _ x.waits.new.left)
  each_child false = (not (nat_lt x.list.call.op.key (new.k world after shape x)), child_word false _ x.waits.new.right)

  stored_new : IsStored after block
  stored_new = record {
    used = l.used block (shape.flaggers x.list x.flagged).used;
    small = block_small;
    leads = λ left. let c = each_child left in inr (subst (IsLeaf after.changes) (sym (ap versioned_value c.1 ∙ small_value (leaf_on c.0 block) (on_small c.0))) (leaf_is c.0));
    fits = λ left. let c = each_child left in omega (arith, c.1, on_small c.0);
    update_fits = omega (arith, update_zero);
    values = (
      omega (arith, value_same world after node side x.to x.beside.words (reference_to block 1), x.inserts.new_value, (shape.flaggers x.list x.flagged).value),
      omega (arith, value_same world after node side x.to x.beside.words (reference_to block 3), x.inserts.old_value, bounds.1),
    );
    leaf_keys = (omega (arith, keys_same world after node side x.to x.beside.words (reference_to block 1), x.inserts.new_key, key_small), omega (arith, keys_same world after node side x.to x.beside.words (reference_to block 3), x.inserts.old_key, bounds.0));
    inner_key = omega (arith, own_later world after shape l s x.list x.flagged 17 (omega arith) (omega arith) (inl (omega arith)), x.inserts.key, greater_small);
    state = inl (ap (λ w. versioned_value w % 4) update_zero ∙ ap (λ v. v % 4) (small_value 0 (omega arith)));
  }

  stored_link : (other : ℕ) → is_node after.changes other ≡ true → IsStored after other
  stored_link other is = elim (node_cases (record { list = x.list; reply = Yes }) world.changes other (ap (λ (cs : List Change). is_node cs other) (sym x.changes) ∙ is)) [
    | inl here ↦ subst (IsStored after) (eqb-true block other (and_parts (is_set x.list.call.op) (block == other) here).1) stored_new
    | inr was ↦ stored_child world after shape l s x.list x.flagged side x.to x.beside.words x.changes x.waits.up (inl (block, made_new, x.value)) x.beside.fits other was
  ]

  -- ---- the change

  made_link : WasMade after x.list
  made_link = inl (
    x.set,
    record {
      node = node;
      left = side;
      place = note_later world after shape l s x.list x.flagged 0 (omega arith) ∙ x.inserts.place;
      passed = omega (
        arith,
        x.beside.raised,
        ap versioned_version (child_here world after shape l s x.list x.flagged side x.to x.beside.words x.changes x.waits.up),
        ap versioned_version x.waits.child,
        ap versioned_version (note_later world after shape l s x.list x.flagged 1 (omega arith)),
      );
    },
  )

  pub shape_link : Shape after
  shape_link =
      shape_change world after shape l s x.list x.flagged x.changes (insert_unmade world shape x.list x.flagged x.inserts x.waits) (set_effective x.list.call.op _ x.set (absent world after shape l s x)) made_link stored_link (form_link world after shape l s x)
      (beside_flags world after shape l s x.list 1 (child_at node side) x.to x.beside flagger_link)
      (beside_causes world after shape l s x.list 1 (child_at node side) x.to x.beside x.flagged (insert_unmade world shape x.list x.flagged x.inserts x.waits) (changed_own world after shape l s x.list x.flagged side x.to x.beside.words x.changes x.waits.up))
