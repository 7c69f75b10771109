-- The swing of a removal, won or lost: afterwards its list has made its change, with the reply Yes.
use Rattle.std.proofs.Common.{◌≡◌, ◌≢◌, ℕ, ◌^◌, ◌<◌, true, Option, is_some, sym, ap, subst, ◌∙◌, inl, inr, ◌⊎◌}
use Rattle.std.specs.Prelude.{if◌then◌else◌, Some, None}
use Rattle.std.specs.FinMap as map
use Rattle.std.specs.Ordering.{nat_cmp}
use Rattle.std.proofs.lemmas.Bool.{eqb-true, eq-eqb}
use Rattle.word_fields.specs.Versioned.{versioned_value}
use Rattle.lin_report.specs.declared.calls.Op.{Op}
use Rattle.lin_report.specs.declared.calls.Reply.TheVariants.{Yes}
use Rattle.lin_report.specs.declared.calls.TheConstants.{REM}
use Rattle.lin_report.specs.Object.{map_object, map_apply, yes_if}
use Rattle.step_memory.specs.declared.steps.Seen.{Seen}
use Rattle.normal_traits.specs.World.{Listed, World, Among, held_after}
use Rattle.normal_traits.specs.Steps.{Requested, with_change}
use Rattle.normal_traits.specs.Steps.Requested.{lost, won}
use Rattle.tree_help.specs.Updates.{inner}
use Rattle.ellen_tree_form.specs.Words.{update_at, leaf_key_at, leaf_value_at, is_rem}
use Rattle.tree_help.specs.declared.states.Flag.{Flag}
use Rattle.tree_help.specs.Helps.{help_asked, help_fed}
use Rattle.tree_help.specs.declared.states.Help.TheVariants as helps
use Rattle.tree_help.specs.declared.states.HelpDelete.TheVariants as delete
use Rattle.ellen_tree_form.specs.Shape.{Shape, Flagged, RemoveStands, Removes, Inserts, IsGivenUp, IsMarked, Changed, noted, IsLeaf, child_of, way, told_by, adds_beside}
use Rattle.ellen_tree_form.specs.Shape.OnWay.{below}
use Rattle.ellen_tree_form.specs.Knowledge.{Follows, WillStay}
use Rattle.ellen_tree_form.specs.Form.{tree_form}
use Rattle.ellen_tree_form.proofs.Plain.{update_same, both_ops, marked_value}
use Rattle.ellen_tree_form.proofs.Order.SwingWays.{told_now, leaf_names, child_same}
use Rattle.ellen_tree_form.proofs.Helps.Owners.{adds_own, swing_stands}

-- a removal of a key that the map holds is told Yes
rem_yes : (op : Op) (pairs : map.FinMap nat_cmp ℕ) (value : ℕ) → is_rem op ≡ true → map.get pairs op.key ≡ Some value → (map_apply op pairs).1 ≡ Yes
rem_yes op pairs value rem holds =
    let code : op.code ≡ REM = eqb-true op.code REM rem in
    rw code (ap yes_if (ap is_some holds))

module _ (world : World) (list : Listed) (shape : Shape world) (flagged : Flagged world list) (rem : is_rem list.call.op ≡ true) where
  pub removes : Removes world list flagged.node flagged.from
  removes = by_does (shape.flaggers list flagged).does
    where
      by_does : Inserts world list flagged.node flagged.from ⊎ Removes world list flagged.node flagged.from → Removes world list flagged.node flagged.from
      by_does (inl inserts) = absurd (both_ops list.call.op inserts.set rem)
      by_does (inr r) = r

  -- while it stands, the map holds its key
  pub swing_yes : (gone : ℕ) → removes.gone ≡ gone → RemoveStands world list flagged.node flagged.from removes.left gone → (map_apply list.call.op (held_after map_object world.changes)).1 ≡ Yes
  swing_yes gone same stands =
      let limit = (shape.flaggers list flagged).limit in
      let to_gone : way world.words list.call.op.key flagged.node ≡ inner gone = ap (λ b. child_of world.words flagged.node b) removes.side ∙ ap versioned_value stands.child ∙ removes.child ∙ ap inner same in
      let leaf : IsLeaf world.changes (way world.words list.call.op.key gone) = stands.leaf in
      let told : map.get (held_after map_object world.changes) list.call.op.key ≡ told_by world.words list.call.op.key (way world.words list.call.op.key gone) =
      told_now world shape list.call.op.key gone limit (below flagged.node stands.reached to_gone) (leaf_names world.changes (way world.words list.call.op.key gone) leaf) in
      rem_yes list.call.op (held_after map_object world.changes) (world.words (leaf_value_at (way world.words list.call.op.key gone))) rem
      (told ∙ ap (λ b. if b then Some (world.words (leaf_value_at (way world.words list.call.op.key gone))) else None) (eq-eqb (world.words (leaf_key_at (way world.words list.call.op.key gone))) list.call.op.key stands.key))

  -- a swing that loses finds the change made
  pub swing_lost : (gone at : ℕ) → noted world list 0 ≡ update_at gone → IsMarked world list gone → at ≡ noted world list 2 → world.words at ≢ noted world list 3 → Changed world list
  swing_lost gone at update marked place differs = by_fate removes.fate
    where
      same : removes.gone ≡ gone
      same = update_same removes.gone gone (sym removes.update ∙ update)

      small : list.block < 2 ^ 17
      small = (shape.flaggers list flagged).small

      by_fate : (RemoveStands world list flagged.node flagged.from removes.left removes.gone × (world.words (update_at removes.gone) ≡ noted world list 1))
          ⊎ ((RemoveStands world list flagged.node flagged.from removes.left removes.gone × IsMarked world list removes.gone) ⊎ (Changed world list ⊎ IsGivenUp world list removes.gone)) → Changed world list
      by_fate (inl waits) = absurd (differs (ap world.words (place ∙ removes.place) ∙ waits.0.child))
      by_fate (inr (inl marks)) = absurd (differs (ap world.words (place ∙ removes.place) ∙ marks.0.child))
      by_fate (inr (inr (inl changed))) = changed
      by_fate (inr (inr (inr given))) = absurd (given.unmarked (ap (λ n. versioned_value (world.words (update_at n))) same ∙ marked_value world list gone small marked))

-- after the swing, won or lost, the list's change stands with the reply Yes
pub swing_fed : (world : World) (list : Listed) (flag : Flag) (stays at from : ℕ) (after : World) (seen : Seen) → Shape world → Follows (helps.Delete (delete.Swing flag stays at from)) world list → Requested tree_form (help_asked (helps.Delete (delete.Swing flag stays at from))) world after seen
    → Follows (help_fed (helps.Delete (delete.Swing flag stays at from)) seen).0 after list
swing_fed world list flag stays at from after seen shape follows (lost at' from' to' differs) =
    let flagged = follows.0.0.flagged in
    let gone = follows.3.0 in
    let will : WillStay world list gone stays = follows.3.1 in
    (follows.0.0, swing_lost world list shape flagged follows.0.1 gone at will.marked.update will.marked.marked follows.1 (λ e. differs (e ∙ sym follows.2)))
swing_fed world list flag stays at from after seen shape follows (won at' from' to stood raised) =
    let flagged = follows.0.0.flagged in
    let gone = follows.3.0 in
    let will : WillStay world list gone stays = follows.3.1 in
    let rem : is_rem list.call.op ≡ true = follows.0.1 in
    let small = (shape.flaggers list flagged).small in
    let s = swing_stands world list gone at shape flagged rem will.marked.update will.marked.marked follows.1 (stood ∙ follows.2) in
    let r = removes world list shape flagged rem in
    let own : adds_beside world (record { target = at; from = from; to = to }) ≡ Some list = adds_own world list flagged.node flagged.from s.0 (record { target = at; from = from; to = to }) shape flagged s.2.up small s.1 in
    let same : r.gone ≡ gone = update_same r.gone gone (sym r.update ∙ will.marked.update) in
    let side : s.0 ≡ r.left = (child_same flagged.node flagged.node s.0 r.left (sym s.1 ∙ follows.1 ∙ r.place)).1 in
    let yes : (map_apply list.call.op (held_after map_object world.changes)).1 ≡ Yes = swing_yes world list shape flagged rem gone same (subst (λ l. RemoveStands world list flagged.node flagged.from l gone) side s.2) in (
      record { flagged = record { node = flagged.node; from = flagged.from; entries = flagged.entries; won = inr flagged.won }; own = follows.0.0.own },
      subst (λ (o : Option Listed). Among (record { list = list; reply = Yes }) (with_change tree_form.object o world.changes)) (sym own) (inl (ap (λ reply. record { list = list; reply = reply }) (sym yes))),
    )
