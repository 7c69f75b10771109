-- A swing keeps the shape.
use Rattle.std.proofs.Common.{◌≡◌, ◌≢◌, ℕ, ◌^◌, ◌<◌, Bool, true, not, List, sym, ap, subst, ◌∙◌, inl, inr, arith}
use Rattle.std.specs.Prelude.{◌==◌}
use Rattle.std.proofs.lemmas.Bool.{and_parts}
use Rattle.word_fields.specs.Versioned.{versioned_value, versioned_version}
use Rattle.lin_report.specs.declared.calls.Reply.TheVariants.{Yes}
use Rattle.normal_traits.specs.World.{Listed, World, Change}
use Rattle.tree_help.specs.Updates.{state_of}
use Rattle.ellen_tree_form.specs.Words.{child_at, update_at, leaf_value_at, is_set, is_rem}
use Rattle.ellen_tree_form.specs.Shape.{Shape, Flagged, Changed, IsFlagger, IsStored, IsBelow, IsUp, WasMade, OnWay, is_node, is_left, way}
use Rattle.ellen_tree_form.proofs.Plain.{both_ops, marked_value}
use Rattle.ellen_tree_form.proofs.Order.SwingWays.{swung_way}
use Rattle.ellen_tree_form.proofs.Steps.Later.{Later}
use Rattle.ellen_tree_form.proofs.Steps.Spares.{Spares}
use Rattle.ellen_tree_form.proofs.Helps.FollowedStays.{marked_later, update_later}
use Rattle.ellen_tree_steps.specs.Effects.{Swings}
use Rattle.ellen_tree_steps.proofs.Lists.FlagsLast.{flagger_later, note_later, below_later}
use Rattle.ellen_tree_steps.proofs.Order.MapSteps.{rem_effective}
use Rattle.ellen_tree_steps.proofs.Lists.Waiting.{up_alive, remove_unmade}
use Rattle.ellen_tree_steps.proofs.Words.ChildWords.{child_here, changed_own, inserts_child, waits_child, marked_child, stored_child}
use Rattle.ellen_tree_steps.proofs.Order.LinkOrder.{node_cases}
use Rattle.ellen_tree_steps.proofs.Order.SwingForm.{to_gone, leaf_out, held, form_swing}
use Rattle.ellen_tree_steps.proofs.Lists.Journals.{beside_flags, beside_causes}
use Rattle.ellen_tree_steps.proofs.Shape.Assembled.{shape_change}

module _ (world after : World) (shape : Shape world) (l : Later world after) (s : Spares world after) (x : Swings world after) where
  abbrev node : ℕ
  node = x.flagged.node

  abbrev gone : ℕ
  gone = x.removes.gone

  abbrev side : Bool
  side = x.removes.left

  abbrev K : ℕ
  K = x.list.call.op.key

  small : x.list.block < 2 ^ 17
  small = (shape.flaggers x.list x.flagged).small

  -- a node with a flag isn't the marked one
  no_flag : (list : Listed) (flagged : Flagged world list) → IsUp world list flagged.node flagged.from → flagged.node ≢ gone
  no_flag list flagged up e =
      up_alive world list flagged.node flagged.from up (shape.flaggers list flagged).small (ap (λ n. state_of (world.words (update_at n))) e ∙ omega (arith, marked_value world x.list gone small x.marked))

  pub apart : gone ≢ node
  apart e = no_flag x.list x.flagged x.stands.up (sym e)

  -- ---- the lists

  reached : (list : Listed) (flagged : Flagged world list) → OnWay world.words list.call.op.key flagged.node → IsUp world list flagged.node flagged.from → OnWay after.words list.call.op.key flagged.node
  reached list flagged w up = elim (swung_way world after node gone side (is_left world.words K gone) x.to x.beside.words (to_gone world after shape l s x) x.value (leaf_out world after shape l s x) x.removes.some apart list.call.op.key flagged.node w) [
    | inl on ↦ on
    | inr past ↦ absurd (no_flag list flagged up past.is)
  ]

  changed_now : Changed after x.list
  changed_now = changed_own world after shape l s x.list x.flagged side x.to x.beside.words x.changes x.stands.up

  flagger_swing : (list : Listed) (flagged : Flagged world list) → IsFlagger after list flagged.node flagged.from
  flagger_swing list flagged =
      flagger_later world after shape l s list flagged
      (λ i waits. inserts_child world after shape l s x.list x.flagged side x.to x.beside.words x.changes x.stands.up list flagged i (λ own. absurd (both_ops list.call.op i.set (ap (λ (y : Listed). is_rem y.call.op) (sym own) ∙ x.rem)))
      (reached list flagged) waits)
      (λ r stands here. waits_child world after shape l s x.list x.flagged side x.to x.beside.words x.changes x.stands.up list flagged r (λ own. inr (inr (inl (subst (Changed after) own changed_now)))) (reached list flagged) stands here)
      (λ r stands marked. marked_child world after shape l s x.list x.flagged side x.to x.beside.words x.changes x.stands.up list flagged r (λ own. inr (inr (inl (subst (Changed after) own changed_now)))) (reached list flagged) stands marked)

  -- ---- nodes

  stored_swing : (block : ℕ) → is_node after.changes block ≡ true → IsStored after block
  stored_swing block is = elim (node_cases (record { list = x.list; reply = Yes }) world.changes block (ap (λ (cs : List Change). is_node cs block) (sym x.changes) ∙ is)) [
    | inl here ↦ absurd (both_ops x.list.call.op (and_parts (is_set x.list.call.op) (x.list.block == block) here).0 x.rem)
    | inr was ↦
        stored_child world after shape l s x.list x.flagged side x.to x.beside.words x.changes x.stands.up
        (below_later world after shape l (versioned_value x.to) (subst (IsBelow world.changes) (sym x.value) ((shape.stored gone x.removes.is).leads (not (is_left world.words K gone))))) x.beside.fits block was
  ]

  -- ---- the change

  made_swing : WasMade after x.list
  made_swing = inr (
    x.rem,
    record {
      node = node;
      left = side;
      place = note_later world after shape l s x.list x.flagged 2 (omega arith) ∙ x.removes.place;
      passed = omega (
        arith,
        x.beside.raised,
        ap versioned_version (child_here world after shape l s x.list x.flagged side x.to x.beside.words x.changes x.stands.up),
        ap versioned_version x.stands.child,
        ap versioned_version (note_later world after shape l s x.list x.flagged 3 (omega arith)),
      );
    },
    (gone, update_later world after shape l s x.list x.flagged x.rem gone x.removes.update, marked_later world after shape l s x.list x.flagged x.rem gone x.removes.update x.marked),
  )

  pub shape_swing : Shape after
  shape_swing =
      shape_change world after shape l s x.list x.flagged x.changes (remove_unmade world shape x.list x.flagged x.removes x.stands)
      (rem_effective x.list.call.op _ x.rem (world.words (leaf_value_at (way world.words K gone))) (held world after shape l s x)) made_swing stored_swing (form_swing world after shape l s x)
      (beside_flags world after shape l s x.list 1 (child_at node side) x.to x.beside flagger_swing)
      (beside_causes world after shape l s x.list 1 (child_at node side) x.to x.beside x.flagged (remove_unmade world shape x.list x.flagged x.removes x.stands) changed_now)
