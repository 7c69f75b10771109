-- Whose change an exchange of a child is, and that at most one removal waits for a node.
use Rattle.std.proofs.Common.{◌≡◌, ℕ, ◌+◌, ◌*◌, ◌/◌, ◌^◌, ◌<◌, Bool, true, false, ◌||◌, ◌&&◌, refl, sym, ap, subst, ◌∙◌, inl, inr, ◌⊎◌, arith}
use Rattle.std.specs.Prelude.{◌==◌, Some, nat_le}
use Rattle.std.proofs.lemmas.Bool.{le-leb}
use Rattle.word_fields.specs.Versioned.{versioned_value, versioned_version}
use Rattle.word_fields.proofs.ChangedWords.{value-cleared}
use Rattle.lin_report.specs.declared.calls.Reply.TheVariants.{Yes}
use Rattle.node_arena.specs.declared.places.TheConstants.{FIRST_WORDS}
use Rattle.node_arena.proofs.PlacesApart.{block_place_behind, block_at-block_place, field_at-block_place}
use Rattle.normal_traits.specs.declared.lists.Entry.{Entry}
use Rattle.normal_traits.specs.World.{Listed, World}
use Rattle.tree_help.specs.declared.states.TheConstants.{CLEAN}
use Rattle.tree_help.specs.Updates.{state_of, block_of, inner}
use Rattle.ellen_tree_form.specs.Words.{is_internal, child_at, child_field, update_at, is_child, is_rem}
use Rattle.ellen_tree_form.specs.Shape.{Shape, Ordered, Flagged, flag_state, flag_over, adds_beside, IsUp, RemoveStands, Removes, Inserts, IsGivenUp, IsMarked, IsFlagger, Changed, noted}
use Rattle.ellen_tree_form.proofs.Helps.Journal.{flagger_is}
use Rattle.ellen_tree_form.proofs.Plain.{update_same, both_ops, marked_value}
use Rattle.ellen_tree_form.proofs.Helps.Wraps.{flag_block_is, flag_value}
use Rattle.ellen_tree_form.proofs.Order.SwingWays.{field_small, way_in, children_are, inner_is}

-- ---- the flag that is up at a node

module _ (world : World) (list : Listed) (node from : ℕ) (up : IsUp world list node from) (small : list.block < 2 ^ 17) where
  pub up_value : versioned_value (world.words (update_at node)) ≡ 4 * list.block + flag_state list.call.op
  up_value = sym (value-cleared (world.words (update_at node))) ∙ ap versioned_value up ∙ flag_value list small node from

  pub up_block : block_of (world.words (update_at node)) ≡ list.block
  up_block = ap (λ v. v / 4) (sym (value-cleared (world.words (update_at node))) ∙ ap versioned_value up) ∙ flag_block_is list small node from

pub child_is : (node : ℕ) (left : Bool) → is_child (child_at node left) ≡ true
child_is node left =
    let behind : nat_le FIRST_WORDS (child_at node left) ≡ true = le-leb FIRST_WORDS (child_at node left) (block_place_behind node (child_field left)) in
    rw (behind, field_at-block_place node (child_field left) (field_small left)) (by_side left)
  where
    by_side : (b : Bool) → (true && (child_field b == 19 || child_field b == 20)) ≡ true
    by_side true = refl
    by_side false = refl

-- an exchange of a child over which the flag of a list is up makes that list's change
pub adds_own : (world : World) (list : Listed) (node from : ℕ) (left : Bool) (entry : Entry) → Shape world → Flagged world list → IsUp world list node from → list.block < 2 ^ 17 → entry.target ≡ child_at node left → adds_beside world entry ≡ Some list
adds_own world list node from left entry shape flagged up small at =
    let over : block_of (flag_over world.words (child_at node left)) ≡ list.block =
    ap (λ b. block_of (world.words (update_at b))) (block_at-block_place node (child_field left) (field_small left)) ∙ up_block world list node from up small in
    rw (at, child_is node left, over) (flagger_is world list shape flagged)

-- ---- a swing that wins

-- where the child is still as the list of a marked node noted it, the list's flag is up and its change is to come
pub swing_stands : (world : World) (list : Listed) (gone at : ℕ) → Shape world → (flagged : Flagged world list) → is_rem list.call.op ≡ true → noted world list 0 ≡ update_at gone → IsMarked world list gone → at ≡ noted world list 2 → world.words at ≡ noted world list 3
    → (left : Bool) × (at ≡ child_at flagged.node left) × RemoveStands world list flagged.node flagged.from left gone
swing_stands world list gone at shape flagged rem update marked place stands = by_does is.does
  where
    is : IsFlagger world list flagged.node flagged.from
    is = shape.flaggers list flagged

    by_fate : (r : Removes world list flagged.node flagged.from) → r.gone ≡ gone
        → (RemoveStands world list flagged.node flagged.from r.left r.gone × (world.words (update_at r.gone) ≡ noted world list 1)) ⊎ ((RemoveStands world list flagged.node flagged.from r.left r.gone × IsMarked world list r.gone) ⊎ (Changed world list ⊎ IsGivenUp world list r.gone))
        → (left : Bool) × (at ≡ child_at flagged.node left) × RemoveStands world list flagged.node flagged.from left gone
    by_fate r same (inl waits) =
        let value = marked_value world list gone is.small marked in
        let clean : state_of (world.words (update_at gone)) ≡ CLEAN = ap (λ n. state_of (world.words (update_at n))) (sym same) ∙ ap state_of waits.1 ∙ r.clean in
        absurd (omega (arith, value, clean))
    by_fate r same (inr (inl marks)) = (r.left, place ∙ r.place, subst (RemoveStands world list flagged.node flagged.from r.left) same marks.0)
    by_fate r same (inr (inr (inl changed))) = absurd (elim (shape.made (record { list = list; reply = Yes }) changed) [
      | inl set ↦ both_ops list.call.op set.0 rem
      | inr made ↦ omega (arith, made.1.passed, ap versioned_version (ap world.words (sym made.1.place ∙ sym place) ∙ stands))
    ])
    by_fate r same (inr (inr (inr given))) = absurd (given.unmarked (ap (λ n. versioned_value (world.words (update_at n))) same ∙ marked_value world list gone is.small marked))

    by_does : Inserts world list flagged.node flagged.from ⊎ Removes world list flagged.node flagged.from → (left : Bool) × (at ≡ child_at flagged.node left) × RemoveStands world list flagged.node flagged.from left gone
    by_does (inl inserts) = absurd (both_ops list.call.op inserts.set rem)
    by_does (inr r) = by_fate r (update_same r.gone gone (sym r.update ∙ update)) r.fate

-- ---- one removal a node

-- no two nodes that the root leads to have one child
pub one_parent : {key : ℕ → ℕ} {child : ℕ → Bool → ℕ} {on : ℕ → Bool} {low high : ℕ → ℕ} → Ordered key child on low high → (r s : ℕ) (x y : Bool) → on r ≡ true → on s ≡ true → is_internal r ≡ true → is_internal s ≡ true → child r x ≡ child s y → (r ≡ s) × (x ≡ y)
one_parent {high = high} o r s true true on_r on_s in_r in_s e = (o.one_key r s on_r on_s in_r in_s (omega (arith, o.left_high r on_r in_r, o.left_high s on_s in_s, ap high e)), refl)
one_parent {low = low} o r s false false on_r on_s in_r in_s e = (o.one_key r s on_r on_s in_r in_s (omega (arith, o.right_low r on_r in_r, o.right_low s on_s in_s, ap low e)), refl)
one_parent o r s true false on_r on_s in_r in_s e = absurd (o.sides_apart r s on_r on_s in_r in_s e)
one_parent o r s false true on_r on_s in_r in_s e = absurd (o.sides_apart s r on_s on_r in_s in_r (sym e))

-- two lists that stand and wait for one node are one list
pub one_removal : (world : World) (a b : Listed) (gone : ℕ) (left left' : Bool) → Shape world → (fa : Flagged world a) (fb : Flagged world b) → RemoveStands world a fa.node fa.from left gone → RemoveStands world b fb.node fb.from left' gone
    → versioned_value (noted world a 3) ≡ inner gone → versioned_value (noted world b 3) ≡ inner gone → a ≡ b
one_removal world a b gone left left' shape fa fb sa sb child_a child_b =
    let o = shape.ordered in
    let ia = shape.flaggers a fa in
    let ib = shape.flaggers b fb in
    let ra = way_in world shape.on shape.low shape.high o a.call.op.key fa.node (omega (arith, ia.limit)) sa.reached in
    let rb = way_in world shape.on shape.low shape.high o b.call.op.key fb.node (omega (arith, ib.limit)) sb.reached in
    let one = one_parent o (inner fa.node) (inner fb.node) left left' ra.is rb.is (inner_is fa.node) (inner_is fb.node)
    (children_are world fa.node left ∙ ap versioned_value sa.child ∙ child_a ∙ sym child_b ∙ sym (ap versioned_value sb.child) ∙ sym (children_are world fb.node left')) in
    let same : fa.node ≡ fb.node = omega (arith, one.0) in
    shape.same_block a b fa fb (sym (up_block world a fa.node fa.from sa.up ia.small) ∙ ap (λ n. block_of (world.words (update_at n))) same ∙ up_block world b fb.node fb.from sb.up ib.small)
