-- A step that exchanges nothing keeps the shape.
use Rattle.std.proofs.Common.{◌≡◌, ℕ, ◌^◌, ◌<◌, Bool, true, refl, sym, ap, subst, ◌∙◌, inl, inr, ◌⊎◌, arith}
use Rattle.std.proofs.lemmas.Bool.{true≢false}
use Rattle.word_fields.specs.Versioned.{versioned_bit, cleared_word}
use Rattle.word_fields.proofs.ChangedWords.{bit-cleared, cleared-clear, cleared_below}
use Rattle.normal_traits.specs.World.{Listed, World}
use Rattle.ellen_tree_form.specs.Words.{child_at, child_field, update_at}
use Rattle.ellen_tree_form.specs.Shape.{Shape, Flagged, IsFlagger, Inserts, InsertWaits, Removes, RemoveStands, IsStored, IsBelow, IsUp, IsMarked, noted, is_node}
use Rattle.ellen_tree_form.proofs.Fields.{field_word}
use Rattle.ellen_tree_form.proofs.Order.SwingWays.{field_small}
use Rattle.ellen_tree_form.proofs.Asks.{field_high, child_unlisted}
use Rattle.ellen_tree_form.proofs.Steps.Later.{Later}
use Rattle.ellen_tree_form.proofs.Steps.Spares.{Spares}
use Rattle.ellen_tree_form.proofs.Helps.FollowedStays.{marked_later}
use Rattle.ellen_tree_steps.specs.Effects.{IsQuiet}
use Rattle.ellen_tree_steps.proofs.Lists.FlagsLast.{InsertFate, RemoveFate, flagger_later, note_later, below_later}
use Rattle.ellen_tree_steps.proofs.Order.Asides.{child_stays, way_stays, on_way_stays}
use Rattle.ellen_tree_steps.proofs.Words.Stored.{state_later, stored_later}
use Rattle.ellen_tree_steps.proofs.Lists.Waiting.{insert_waits_by, remove_stands_by}
use Rattle.ellen_tree_steps.proofs.Lists.Journals.{quiet_flags, quiet_causes}
use Rattle.ellen_tree_steps.proofs.Shape.Assembled.{shape_aside}

zero_clear : versioned_bit 0 ≡ 0
unfolding versioned_bit
zero_clear = refl

module _ (world after : World) (shape : Shape world) (l : Later world after) (s : Spares world after) (q : IsQuiet world after) where
  -- ---- words

  update_quiet : (node : ℕ) → world.used node ≡ true → (after.words (update_at node) ≡ world.words (update_at node)) ⊎ (after.words (update_at node) ≡ cleared_word (world.words (update_at node)))
  update_quiet node used = elim (q.words (update_at node) (field_word world node 21 used (omega arith) (omega arith))) [
    | inl same ↦ inl same
    | inr clears ↦ inr clears.1
  ]

  pub child_quiet : (node : ℕ) (left : Bool) → world.used node ≡ true → after.words (child_at node left) ≡ world.words (child_at node left)
  child_quiet node left used = elim (q.words (child_at node left) (field_word world node (child_field left) used (field_high left) (field_small left))) [
    | inl same ↦ same
    | inr clears ↦ absurd (true≢false (sym clears.0 ∙ child_unlisted node left))
  ]

  child_is : (node : ℕ) (left : Bool) → is_node world.changes node ≡ true → after.words (child_at node left) ≡ world.words (child_at node left)
  child_is node left is = child_quiet node left (shape.stored node is).used

  clear_quiet : (node : ℕ) → world.used node ≡ true → cleared_word (after.words (update_at node)) ≡ cleared_word (world.words (update_at node))
  clear_quiet node used = elim (update_quiet node used) [
    | inl same ↦ ap cleared_word same
    | inr clears ↦ ap cleared_word clears ∙ cleared-clear (cleared_word (world.words (update_at node))) (bit-cleared (world.words (update_at node)))
  ]

  exact_quiet : (node word : ℕ) → world.used node ≡ true → world.words (update_at node) ≡ word → versioned_bit word ≡ 0 → after.words (update_at node) ≡ word
  exact_quiet node word used here clear = elim (update_quiet node used) [
    | inl same ↦ same ∙ here
    | inr clears ↦ clears ∙ ap cleared_word here ∙ cleared-clear word clear
  ]

  update_fits : (node : ℕ) → is_node world.changes node ≡ true → after.words (update_at node) < 2 ^ 64
  update_fits node is = elim (update_quiet node (shape.stored node is).used) [
    | inl same ↦ omega (arith, same, (shape.stored node is).update_fits)
    | inr clears ↦ omega (arith, clears, cleared_below (world.words (update_at node)) (shape.stored node is).update_fits)
  ]

  -- ---- lists

  module _ (list : Listed) (flagged : Flagged world list) where
    at_node : is_node world.changes flagged.node ≡ true
    at_node = (shape.flaggers list flagged).is

    up : IsUp world list flagged.node flagged.from → IsUp after list flagged.node flagged.from
    up is = clear_quiet flagged.node (shape.stored flagged.node at_node).used ∙ is

    stands : (r : Removes world list flagged.node flagged.from) → RemoveStands world list flagged.node flagged.from r.left r.gone → RemoveStands after list flagged.node flagged.from r.left r.gone
    stands r is =
        remove_stands_by world shape after l s list flagged r (up is.up) (child_is flagged.node r.left at_node) (on_way_stays world after shape l s q.changes child_is list.call.op.key flagged.node is.reached)
        (way_stays world after shape l s q.changes child_is list.call.op.key r.gone r.is) is

    inserts_quiet : (i : Inserts world list flagged.node flagged.from) → InsertWaits world list flagged.node flagged.from i.left → InsertFate after list flagged.node flagged.from i.left
    inserts_quiet i waits =
        let own = (shape.flaggers list flagged).used in
        inl (insert_waits_by world shape after l s list flagged i (up waits.up) (child_is flagged.node i.left at_node) (on_way_stays world after shape l s q.changes child_is list.call.op.key flagged.node waits.reached)
        (λ left. child_quiet list.block left own) (exact_quiet list.block 0 own waits.new.update zero_clear) waits)

    waits_quiet : (r : Removes world list flagged.node flagged.from) → RemoveStands world list flagged.node flagged.from r.left r.gone → world.words (update_at r.gone) ≡ noted world list 1 → RemoveFate after list flagged.node flagged.from r.left r.gone
    waits_quiet r is here = inl (stands r is, exact_quiet r.gone (noted world list 1) (shape.stored r.gone r.is).used here r.clear ∙ sym (note_later world after shape l s list flagged 1 (omega arith)))

    marked_quiet : (r : Removes world list flagged.node flagged.from) → RemoveStands world list flagged.node flagged.from r.left r.gone → IsMarked world list r.gone → RemoveFate after list flagged.node flagged.from r.left r.gone
    marked_quiet r is marked = inr (inl (stands r is, marked_later world after shape l s list flagged r.rem r.gone r.update marked))

    flagger_quiet : IsFlagger after list flagged.node flagged.from
    flagger_quiet = flagger_later world after shape l s list flagged inserts_quiet waits_quiet marked_quiet

  stored_quiet : (block : ℕ) → is_node world.changes block ≡ true → IsStored after block
  stored_quiet block is =
      let was = shape.stored block is in
      stored_later world after shape l s block is (λ left. below_later world after shape l _ (subst (IsBelow world.changes) (sym (child_stays world after shape l s q.changes child_is block left is)) (was.leads left)))
      (λ left. omega (arith, child_is block left is, was.fits left)) (update_fits block is) (state_later world after shape l s block (clear_quiet block was.used) was.state)

  pub shape_quiet : Shape after
  shape_quiet = shape_aside world after shape l s q.changes child_is stored_quiet (quiet_flags world after shape l s q.journal flagger_quiet) (quiet_causes world after shape l s q.journal)
