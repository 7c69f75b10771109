-- An exchange of one node's update word: what it leaves of lists whose flag is at other nodes, and of the nodes' words.
use Rattle.std.proofs.Common.{◌≡◌, ◌≢◌, ℕ, ◌^◌, ◌<◌, Bool, true, refl, sym, ap, subst, ◌∙◌, inl, inr, arith}
use Rattle.std.proofs.lemmas.Bool.{cases_eq}
use Rattle.word_fields.specs.Versioned.{cleared_word}
use Rattle.normal_traits.specs.World.{Listed, World}
use Rattle.normal_traits.specs.Steps.{with_word}
use Rattle.ellen_tree_form.specs.Words.{child_at, update_at}
use Rattle.ellen_tree_form.specs.Shape.{Shape, Flagged, Inserts, InsertWaits, Removes, RemoveStands, IsStored, IsBelow, IsUp, IsMarked, noted, is_node}
use Rattle.ellen_tree_form.proofs.Plain.{update_same}
use Rattle.ellen_tree_form.proofs.Order.SwingWays.{child_update}
use Rattle.ellen_tree_form.proofs.Helps.Wraps.{with_here, with_other}
use Rattle.ellen_tree_form.proofs.Steps.Later.{Later}
use Rattle.ellen_tree_form.proofs.Steps.Spares.{Spares}
use Rattle.ellen_tree_form.proofs.Helps.FollowedStays.{marked_later}
use Rattle.ellen_tree_steps.proofs.Lists.FlagsLast.{InsertFate, RemoveFate, note_later, below_later}
use Rattle.ellen_tree_steps.proofs.Order.Asides.{child_stays, way_stays, on_way_stays}
use Rattle.ellen_tree_steps.proofs.Words.Stored.{State, state_later, stored_later}
use Rattle.ellen_tree_steps.proofs.Lists.Waiting.{insert_new, insert_waits_by, remove_stands_by}

module _ (world after : World) (shape : Shape world) (l : Later world after) (s : Spares world after) (x to : ℕ) (is_x : is_node world.changes x ≡ true) (words : (at : ℕ) → after.words at ≡ with_word (update_at x) to world.words at)
    (changes : after.changes ≡ world.changes) where
  -- ---- words

  pub update_here : after.words (update_at x) ≡ to
  update_here = words (update_at x) ∙ with_here (update_at x) to world.words (update_at x) refl

  update_other : (node : ℕ) → node ≢ x → after.words (update_at node) ≡ world.words (update_at node)
  update_other node differs = words (update_at node) ∙ with_other (update_at x) to world.words (update_at node) (λ e. differs (update_same node x e))

  pub child_same_word : (node : ℕ) (left : Bool) → after.words (child_at node left) ≡ world.words (child_at node left)
  child_same_word node left = words (child_at node left) ∙ with_other (update_at x) to world.words (child_at node left) (λ e. child_update node x left (sym e))

  abbrev child_is : (node : ℕ) (left : Bool) → is_node world.changes node ≡ true → after.words (child_at node left) ≡ world.words (child_at node left)
  child_is node left is = child_same_word node left

  -- ---- lists

  module _ (list : Listed) (flagged : Flagged world list) (away : flagged.node ≢ x) where
    up_other : IsUp world list flagged.node flagged.from → IsUp after list flagged.node flagged.from
    up_other up = ap cleared_word (update_other flagged.node away) ∙ up

    pub inserts_other : (i : Inserts world list flagged.node flagged.from) → InsertWaits world list flagged.node flagged.from i.left → InsertFate after list flagged.node flagged.from i.left
    inserts_other i waits =
        let new : list.block ≢ x = λ e. insert_new world shape list flagged i waits (subst (λ n. is_node world.changes n ≡ true) (sym e) is_x) in
        inl (insert_waits_by world shape after l s list flagged i (up_other waits.up) (child_same_word flagged.node i.left) (on_way_stays world after shape l s changes child_is list.call.op.key flagged.node waits.reached)
        (child_same_word list.block) (update_other list.block new ∙ waits.new.update) waits)

    pub stands_other : (r : Removes world list flagged.node flagged.from) → RemoveStands world list flagged.node flagged.from r.left r.gone → RemoveStands after list flagged.node flagged.from r.left r.gone
    stands_other r stands =
        remove_stands_by world shape after l s list flagged r (up_other stands.up) (child_same_word flagged.node r.left) (on_way_stays world after shape l s changes child_is list.call.op.key flagged.node stands.reached)
        (way_stays world after shape l s changes child_is list.call.op.key r.gone r.is) stands

    pub waits_other : (r : Removes world list flagged.node flagged.from) → r.gone ≢ x → RemoveStands world list flagged.node flagged.from r.left r.gone → world.words (update_at r.gone) ≡ noted world list 1 → RemoveFate after list flagged.node flagged.from r.left r.gone
    waits_other r apart stands here = inl (stands_other r stands, update_other r.gone apart ∙ here ∙ sym (note_later world after shape l s list flagged 1 (omega arith)))

    pub marked_other : (r : Removes world list flagged.node flagged.from) → RemoveStands world list flagged.node flagged.from r.left r.gone → IsMarked world list r.gone → RemoveFate after list flagged.node flagged.from r.left r.gone
    marked_other r stands marked = inr (inl (stands_other r stands, marked_later world after shape l s list flagged r.rem r.gone r.update marked))

  -- ---- nodes

  stored_by : (block : ℕ) → is_node world.changes block ≡ true → after.words (update_at block) < 2 ^ 64 → State after block → IsStored after block
  stored_by block is fits state =
      let was = shape.stored block is in
      stored_later world after shape l s block is (λ left. below_later world after shape l _ (subst (IsBelow world.changes) (sym (child_stays world after shape l s changes child_is block left is)) (was.leads left)))
      (λ left. omega (arith, child_same_word block left, was.fits left)) fits state

  pub stored_update : to < 2 ^ 64 → State after x → (block : ℕ) → is_node world.changes block ≡ true → IsStored after block
  stored_update fits state block is = elim (cases_eq block x) [
    | inl same ↦ subst (IsStored after) (sym same) (stored_by x is_x (omega (arith, fits, update_here)) state)
    | inr differs ↦
        let here = update_other block differs in
        stored_by block is (omega (arith, here, (shape.stored block is).update_fits)) (state_later world after shape l s block (ap cleared_word here) (shape.stored block is).state)
  ]
