-- What every allowed step leaves of changes that were made and of causes that are over.
use Rattle.std.proofs.Common.{◌≡◌, ℕ, zero, suc, true, sym, subst, ◌∙◌, inl, inr, ◌⊎◌, arith}
use Rattle.normal_traits.specs.World.{Listed, Cause, World}
use Rattle.ellen_tree_form.specs.Words.{update_at, is_rem}
use Rattle.ellen_tree_form.specs.Shape.{Shape, Flagged, Inserts, Removes, WasMade, IsOver, IsSpent, noted, is_node}
use Rattle.ellen_tree_form.proofs.Order.SwingWays.{child_same, child_update}
use Rattle.ellen_tree_form.proofs.Helps.Swings.{removes}
use Rattle.ellen_tree_form.proofs.Asks.{inserts, node_word}
use Rattle.ellen_tree_form.proofs.Steps.Later.{Later, passed_on}
use Rattle.ellen_tree_form.proofs.Steps.Spares.{Spares}
use Rattle.ellen_tree_form.proofs.Helps.FollowedStays.{flagged_later, changed_later, marked_later, update_later}
use Rattle.ellen_tree_steps.proofs.Lists.FlagsLast.{is_made_later}

module _ (world after : World) (shape : Shape world) (l : Later world after) (s : Spares world after) where
  module _ (list : Listed) (flagged : Flagged world list) where
    -- a removal notes an update word first
    is_removal : (gone : ℕ) → noted world list 0 ≡ update_at gone → is_rem list.call.op ≡ true
    is_removal gone update = by_does (shape.flaggers list flagged).does
      where
        by_does : Inserts world list flagged.node flagged.from ⊎ Removes world list flagged.node flagged.from → is_rem list.call.op ≡ true
        by_does (inl i) = absurd (child_update flagged.node gone i.left (sym update ∙ i.place))
        by_does (inr r) = r.rem

    pub was_made_later : WasMade world list → WasMade after list
    was_made_later (inl made) =
        let i = inserts world shape list flagged made.0 in
        let same : flagged.node ≡ made.1.node = (child_same flagged.node made.1.node i.left made.1.left (sym i.place ∙ made.1.place)).0 in
        let node : is_node world.changes made.1.node ≡ true = subst (λ n. is_node world.changes n ≡ true) same (shape.flaggers list flagged).is in
        inl (made.0, is_made_later world after shape l s list flagged 0 (omega arith) made.1 node)
    was_made_later (inr made) =
        let r = removes world list shape flagged made.0 in
        let same : flagged.node ≡ made.1.node = (child_same flagged.node made.1.node r.left made.1.left (sym r.place ∙ made.1.place)).0 in
        let node : is_node world.changes made.1.node ≡ true = subst (λ n. is_node world.changes n ≡ true) same (shape.flaggers list flagged).is in
        let gone = made.2.0 in
        inr (
          made.0,
          is_made_later world after shape l s list flagged 2 (omega arith) made.1 node,
          (gone, update_later world after shape l s list flagged made.0 gone made.2.1, marked_later world after shape l s list flagged made.0 gone made.2.1 made.2.2),
        )

    over_later : (kind : ℕ) → IsOver world list kind → IsOver after list kind
    unfolding flagged_later
    over_later zero over = tt
    over_later (suc zero) over = changed_later world after shape l s list over
    over_later (suc (suc zero)) over = (
      flagged_later world after shape l s list over.0,
      passed_on (update_at over.0.node) _ (node_word world shape over.0.node 21 (shape.flaggers list over.0).is (omega arith) (omega arith)) l over.1,
    )
    over_later (suc (suc (suc zero))) over =
        let rem = is_removal over.0 over.1 in
        (over.0, update_later world after shape l s list flagged rem over.0 over.1, marked_later world after shape l s list flagged rem over.0 over.1 over.2)
    over_later (suc (suc (suc (suc kind)))) over = absurd over

  pub spent_later : (cause : Cause) → IsSpent world cause → IsSpent after cause
  spent_later cause spent = record {
    list = spent.list;
    flagged = flagged_later world after shape l s spent.list spent.flagged;
    block = spent.block;
    over = over_later spent.list spent.flagged cause.kind spent.over;
  }
