-- The shape after a step, put together from its parts: where no change was made, and behind one more change.
use Rattle.std.proofs.Common.{◌≡◌, ◌≢◌, ℕ, ◌<◌, ◌≤◌, Bool, true, false, List, ◌∷◌, refl, sym, ap, subst, ◌∙◌}
use Rattle.std.specs.Prelude.{AllPairs}
use Rattle.std.specs.FinMap as map
use Rattle.lin_report.specs.declared.calls.Reply.TheVariants.{Yes}
use Rattle.lin_report.specs.Commands.{KEY_LIMIT}
use Rattle.lin_report.specs.Object.{map_object}
use Rattle.normal_traits.specs.World.{Listed, Change, World, Among, Observes, held_after}
use Rattle.tree_help.specs.declared.states.TheConstants.{MARKED}
use Rattle.tree_help.specs.Updates.{state_of, inner}
use Rattle.ellen_tree_form.specs.Words.{child_at, update_at, is_internal}
use Rattle.ellen_tree_form.specs.Shape.{Shape, Ordered, IsStored, IsNamed, Flagged, Changed, WasMade, EachChanges, is_node, keys, children, told_by}
use Rattle.ellen_tree_form.proofs.Steps.Later.{Later}
use Rattle.ellen_tree_form.proofs.Steps.Spares.{Spares}
use Rattle.ellen_tree_form.proofs.Helps.FollowedStays.{flagged_later}
use Rattle.ellen_tree_steps.proofs.Lists.FlagsLast.{named_later}
use Rattle.ellen_tree_steps.proofs.Lists.Made.{was_made_later}
use Rattle.ellen_tree_steps.proofs.Order.Asides.{ordered_stays, living_stays, tells_stays}
use Rattle.ellen_tree_steps.proofs.Lists.Journals.{Flags, Causes}
use Rattle.client_lemmas.proofs.Growing.{each_more, pairs_more}

-- the order and the map
pub record Form (world : World) : Type 0 where
  pub on : ℕ → Bool
  pub low : ℕ → ℕ
  pub high : ℕ → ℕ
  pub ordered : Ordered (keys world) (children world) on low high
  pub named : (reference : ℕ) → on reference ≡ true → IsNamed world.changes reference
  pub living : (block : ℕ) → is_node world.changes block ≡ true → on (inner block) ≡ false → state_of (world.words (update_at block)) ≡ MARKED
  pub tells : (leaf key : ℕ) → on leaf ≡ true → is_internal leaf ≡ false → low leaf ≤ key → key < high leaf → key < KEY_LIMIT → map.get (held_after map_object world.changes) key ≡ told_by world.words key leaf

module _ (world after : World) (shape : Shape world) (l : Later world after) (s : Spares world after) where
  -- ---- no change

  aside_form : after.changes ≡ world.changes → ((node : ℕ) (left : Bool) → is_node world.changes node ≡ true → after.words (child_at node left) ≡ world.words (child_at node left)) → Form after
  aside_form changes child = record {
    on = shape.on;
    low = shape.low;
    high = shape.high;
    ordered = ordered_stays world after shape l s changes child;
    named = λ r is. named_later world after shape l r (shape.named r is);
    living = living_stays world after shape l s changes child;
    tells = tells_stays world after shape l s changes child;
  }

  was_flagged : (change : Change) → Among change world.changes → Flagged after change.list
  was_flagged change among = flagged_later world after shape l s change.list (shape.flagged change among)

  was_made : (change : Change) → Among change world.changes → WasMade after change.list
  was_made change among = was_made_later world after shape l s change.list (shape.flagged change among) (shape.made change among)

  pub shape_aside : (changes : after.changes ≡ world.changes) → ((node : ℕ) (left : Bool) → is_node world.changes node ≡ true → after.words (child_at node left) ≡ world.words (child_at node left))
      → ((block : ℕ) → is_node world.changes block ≡ true → IsStored after block) → Flags after → Causes after → Shape after
  shape_aside changes child stored flags causes =
      let form = aside_form changes child in
      record {
        opened = l.used 0 shape.opened;
        stored = λ block is. stored block (ap (λ (cs : List Change). is_node cs block) (sym changes) ∙ is);
        on = form.on;
        low = form.low;
        high = form.high;
        ordered = form.ordered;
        named = form.named;
        living = form.living;
        tells = form.tells;
        items = flags.items;
        flaggers = flags.flaggers;
        same_identity = flags.same_identity;
        same_block = flags.same_block;
        flagged = λ change among. was_flagged change (subst (Among change) changes among);
        made = λ change among. was_made change (subst (Among change) changes among);
        yes = λ change among. shape.yes change (subst (Among change) changes among);
        effective = subst EachChanges (sym changes) shape.effective;
        one_list = subst (AllPairs (λ (a b : Change). a.list.identity ≢ b.list.identity)) (sym changes) shape.one_list;
        one_block = subst (AllPairs (λ (a b : Change). 0 < a.list.block → a.list.block ≢ b.list.block)) (sym changes) shape.one_block;
        spent = causes.spent;
        causes_differ = causes.differ;
      }

  -- ---- one more change, of a list that had made none

  module _ (list : Listed) (flagged : Flagged world list) (changes : after.changes ≡ record { list = list; reply = Yes } ∷ world.changes) (unmade : Changed world list → ⊥) where
    -- a change by a list that is this one would be this list's
    own_change : (old : Change) → Among old world.changes → old.list ≡ list → ⊥
    own_change old among same =
        unmade (subst (λ (y : Listed). Among (record { list = y; reply = Yes }) world.changes) same (subst (λ r. Among (record { list = old.list; reply = r }) world.changes) (shape.yes old among) among))

    pub shape_change : ¬ Observes map_object list.call.op (held_after map_object world.changes) → WasMade after list → ((block : ℕ) → is_node after.changes block ≡ true → IsStored after block) → Form after → Flags after → Causes after → Shape after
    shape_change effective made stored form flags causes = record {
      opened = l.used 0 shape.opened;
      stored = stored;
      on = form.on;
      low = form.low;
      high = form.high;
      ordered = form.ordered;
      named = form.named;
      living = form.living;
      tells = form.tells;
      items = flags.items;
      flaggers = flags.flaggers;
      same_identity = flags.same_identity;
      same_block = flags.same_block;
      flagged = each_more (λ (c : Change). Flagged after c.list) (record { list = list; reply = Yes }) world.changes after.changes changes (flagged_later world after shape l s list flagged) was_flagged;
      made = each_more (λ (c : Change). WasMade after c.list) (record { list = list; reply = Yes }) world.changes after.changes changes made was_made;
      yes = each_more (λ (c : Change). c.reply ≡ Yes) (record { list = list; reply = Yes }) world.changes after.changes changes refl shape.yes;
      effective = subst EachChanges (sym changes) (effective, shape.effective);
      one_list = pairs_more (λ (a b : Change). a.list.identity ≢ b.list.identity) (record { list = list; reply = Yes }) world.changes after.changes changes
          (λ old among e. own_change old among (shape.same_identity old.list list (shape.flagged old among) flagged (sym e))) shape.one_list;
      one_block = pairs_more (λ (a b : Change). 0 < a.list.block → a.list.block ≢ b.list.block) (record { list = list; reply = Yes }) world.changes after.changes changes
          (λ old among some e. own_change old among (shape.same_block old.list list (shape.flagged old among) flagged (sym e))) shape.one_block;
      spent = causes.spent;
      causes_differ = causes.differ;
    }
