-- An exchange of one child word, as the order sees it: one child of an internal node goes elsewhere.
use Rattle.std.proofs.Common.{◌≡◌, ◌≢◌, ℕ, ◌+◌, ◌-◌, ◌*◌, ◌/◌, ◌%◌, ◌<◌, Bool, true, false, refl, sym, ap, ◌∙◌, inl, inr, arith}
use Rattle.std.specs.Prelude.{◌==◌, if◌then◌else◌, Some, None}
use Rattle.std.proofs.lemmas.Bool.{eqb-true}
use Rattle.word_fields.specs.Versioned.{versioned_value}
use Rattle.node_arena.specs.MemoryMap.{node_place, node_named, field_at}
use Rattle.node_arena.proofs.PlacesApart.{field_at-block_place, field_at-node_place, node_named_below, node_named_some}
use Rattle.normal_traits.specs.World.{World}
use Rattle.normal_traits.specs.Steps.{with_word}
use Rattle.tree_help.specs.Updates.{inner}
use Rattle.ellen_tree_form.specs.Words.{is_internal, child_at, child_field, leaf_key_at, leaf_value_at}
use Rattle.ellen_tree_form.specs.Shape.{Ordered, keys, children, child_of, told_by}
use Rattle.ellen_tree_form.proofs.Order.SwingWays.{field_small, inner_is, inner_block}
use Rattle.ellen_tree_form.proofs.Helps.Wraps.{with_here, with_other}
use Rattle.ellen_tree_form.proofs.Order.SwingLeft.{Goes}
use Rattle.ellen_tree_steps.proofs.Order.Asides.{ordered_same}
use Rattle.ellen_tree_steps.proofs.Words.ChildWords.{child_cases}

-- the children of internal nodes alone
abbrev pub kids : World → ℕ → Bool → ℕ
kids world r left = if is_internal r then children world r left else 0

kid_in : (world : World) (r : ℕ) (left : Bool) → is_internal r ≡ true → kids world r left ≡ children world r left
kid_in world r left is = ap (λ b. if b then children world r left else 0) is

pub kid_of : (world : World) (node : ℕ) (left : Bool) → kids world (inner node) left ≡ child_of world.words node left
kid_of world node left = kid_in world (inner node) left (inner_is node) ∙ ap (λ b. child_of world.words b left) (inner_block node)

module _ (world after : World) (g : ℕ) (side : Bool) (to : ℕ) (words : (at : ℕ) → after.words at ≡ with_word (child_at g side) to world.words at) where
  pub other : (at : ℕ) → at ≢ child_at g side → after.words at ≡ world.words at
  other at differs = words at ∙ with_other (child_at g side) to world.words at differs

  -- ---- keys and values of leaves are none of the words that are exchanged

  leaf_field : (left : Bool) (reference field : ℕ) → field < 2 → 12 + 5 * (node_named reference - 1) + field ≢ child_field left
  leaf_field true reference field small e = absurd (omega (arith, e, small, node_named_below reference, node_named_some reference))
  leaf_field false reference field small e = absurd (omega (arith, e, small, node_named_below reference, node_named_some reference))

  leaf_same : (reference field : ℕ) → field < 2 → after.words (node_place reference field) ≡ world.words (node_place reference field)
  leaf_same reference field small =
      other (node_place reference field) (λ e. leaf_field side reference field small (sym (field_at-node_place reference field (omega (arith, small))) ∙ ap field_at e ∙ field_at-block_place g (child_field side) (field_small side)))

  pub keys_same : (r : ℕ) → keys after r ≡ keys world r
  keys_same r = leaf_same r 0 (omega arith)

  pub value_same : (r : ℕ) → after.words (leaf_value_at r) ≡ world.words (leaf_value_at r)
  value_same r = leaf_same r 1 (omega arith)

  pub told_same : (key r : ℕ) → told_by after.words key r ≡ told_by world.words key r
  told_same key r = ap (λ k. if k == key then Some (after.words (leaf_value_at r)) else None) (keys_same r) ∙ ap (λ v. if world.words (leaf_key_at r) == key then Some v else None) (value_same r)

  -- ---- children

  block_is : (r : ℕ) → is_internal r ≡ true → r ≡ inner (r / 4)
  block_is r is = omega (arith, eqb-true (r % 4) 2 is)

  pub goes : (r : ℕ) (left : Bool) → Goes (kids world) (kids after) (inner g) side (versioned_value to) r left
  goes r left = by_kind (is_internal r) refl
    where
      by_kind : (b : Bool) → is_internal r ≡ b → Goes (kids world) (kids after) (inner g) side (versioned_value to) r left
      by_kind true is = elim (child_cases (r / 4) g left side) [
        | inl same ↦
            let here : after.words (child_at (r / 4) left) ≡ to =
            ap (λ n. after.words (child_at n left)) same.0 ∙ ap (λ b. after.words (child_at g b)) same.1 ∙ words (child_at g side) ∙ with_here (child_at g side) to world.words (child_at g side) refl in
            inl (block_is r is ∙ ap inner same.0, same.1, kid_in after r left is ∙ ap versioned_value here)
        | inr differs ↦
            inr (
              λ e e'. differs (ap (λ n. child_at n left) (ap (λ x. x / 4) e ∙ inner_block g) ∙ ap (child_at g) e'),
              kid_in after r left is ∙ ap versioned_value (other (child_at (r / 4) left) differs) ∙ sym (kid_in world r left is),
            )
      ]
      by_kind false none = inr (
        λ e e'. let yes : is_internal r ≡ true = ap is_internal e ∙ inner_is g in absurd cc,
        ap (λ b. if b then children after r left else 0) none ∙ sym (ap (λ b. if b then children world r left else 0) none),
      )

  -- ---- the order, over these keys and children

  pub order_in : (on : ℕ → Bool) (low high : ℕ → ℕ) → Ordered (keys world) (children world) on low high → Ordered (keys after) (kids world) on low high
  order_in on low high o = ordered_same (keys world) (keys after) (children world) (kids world) on low high o (λ r is. keys_same r) (λ r left is in'. kid_in world r left in')

  pub order_out : (on : ℕ → Bool) (low high : ℕ → ℕ) → Ordered (keys after) (kids after) on low high → Ordered (keys after) (children after) on low high
  order_out on low high o = ordered_same (keys after) (keys after) (kids after) (children after) on low high o (λ r is. refl) (λ r left is in'. sym (kid_in after r left in'))
