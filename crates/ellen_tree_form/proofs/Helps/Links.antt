-- The link of an insertion, won or lost: afterwards its list has made its change, with the reply Yes.
use Rattle.std.proofs.Common.{◌≡◌, ◌≢◌, ℕ, Bool, true, Option, is_some, sym, ap, subst, ◌∙◌, inl, inr, ◌⊎◌, arith}
use Rattle.std.specs.Prelude.{if◌then◌else◌, Some, None}
use Rattle.std.specs.FinMap as map
use Rattle.std.specs.Ordering.{nat_cmp}
use Rattle.std.proofs.lemmas.Bool.{eqb-true, ne_eqb}
use Rattle.word_fields.specs.Versioned.{versioned_value, versioned_version}
use Rattle.lin_report.specs.declared.calls.Op.{Op}
use Rattle.lin_report.specs.declared.calls.Reply.{Reply}
use Rattle.lin_report.specs.declared.calls.Reply.TheVariants.{Yes, No}
use Rattle.lin_report.specs.declared.calls.TheConstants.{SET}
use Rattle.lin_report.specs.Object.{map_object, map_apply}
use Rattle.step_memory.specs.declared.steps.Seen.{Seen}
use Rattle.normal_traits.specs.World.{Listed, World, Among, held_after}
use Rattle.normal_traits.specs.Steps.{Requested, with_change}
use Rattle.normal_traits.specs.Steps.Requested.{lost, won}
use Rattle.tree_help.specs.declared.states.Flag.{Flag}
use Rattle.tree_help.specs.declared.states.Help.TheVariants as helps
use Rattle.tree_help.specs.declared.states.HelpInsert.TheVariants as insert
use Rattle.tree_help.specs.Helps.{help_asked, help_fed}
use Rattle.ellen_tree_form.specs.Words.{leaf_key_at, leaf_value_at, is_set}
use Rattle.ellen_tree_form.specs.Shape.{Shape, Flagged, Inserts, InsertWaits, Changed, noted, IsLeaf, child_of, way, told_by, adds_beside}
use Rattle.ellen_tree_form.specs.Knowledge.{Follows}
use Rattle.ellen_tree_form.specs.Form.{tree_form}
use Rattle.ellen_tree_form.proofs.Plain.{both_ops}
use Rattle.ellen_tree_form.proofs.Order.SwingWays.{told_now, leaf_names}
use Rattle.ellen_tree_form.proofs.Helps.Owners.{adds_own}
use Rattle.ellen_tree_form.proofs.Asks.{inserts}

-- what a set comes to, by whether the map holds the key
abbrev set_by : Bool → map.FinMap nat_cmp ℕ → map.FinMap nat_cmp ℕ → map.FinMap nat_cmp ℕ × Reply
set_by held pairs more = if held then (pairs, No) else (more, Yes)

-- a set of a key that the map doesn't hold is told Yes
set_yes : (op : Op) (pairs : map.FinMap nat_cmp ℕ) → is_set op ≡ true → map.get pairs op.key ≡ None → (map_apply op pairs).1 ≡ Yes
set_yes op pairs set absent =
    let code : op.code ≡ SET = eqb-true op.code SET set in
    rw code (ap (λ b. (set_by b pairs (map.insert pairs op.key op.value)).1) (ap is_some absent))

module _ (world : World) (list : Listed) (shape : Shape world) (flagged : Flagged world list) (set : is_set list.call.op ≡ true) where
  -- while it waits, the map doesn't hold its key
  pub link_yes : (i : Inserts world list flagged.node flagged.from) → InsertWaits world list flagged.node flagged.from i.left → (map_apply list.call.op (held_after map_object world.changes)).1 ≡ Yes
  link_yes i waits =
      let to_leaf : way world.words list.call.op.key flagged.node ≡ versioned_value (noted world list 1) = ap (λ b. child_of world.words flagged.node b) i.side ∙ ap versioned_value waits.child in
      let leaf : IsLeaf world.changes (way world.words list.call.op.key flagged.node) = subst (IsLeaf world.changes) (sym to_leaf) i.leaf in
      let told : map.get (held_after map_object world.changes) list.call.op.key ≡ told_by world.words list.call.op.key (way world.words list.call.op.key flagged.node) =
      told_now world shape list.call.op.key flagged.node (shape.flaggers list flagged).limit waits.reached (leaf_names world.changes (way world.words list.call.op.key flagged.node) leaf) in
      set_yes list.call.op (held_after map_object world.changes) set
      (told ∙ ap (told_by world.words list.call.op.key) to_leaf
      ∙ ap (λ b. if b then Some (world.words (leaf_value_at (versioned_value (noted world list 1)))) else None) (ne_eqb (world.words (leaf_key_at (versioned_value (noted world list 1)))) list.call.op.key i.other))

  -- a link that loses finds the change made
  link_lost : (i : Inserts world list flagged.node flagged.from) → (at : ℕ) → at ≡ noted world list 0 → world.words at ≢ noted world list 1 → InsertWaits world list flagged.node flagged.from i.left ⊎ Changed world list → Changed world list
  link_lost i at place differs (inl waits) = absurd (differs (ap world.words (place ∙ i.place) ∙ waits.child))
  link_lost i at place differs (inr changed) = changed

  -- one that wins finds that it waits
  pub link_waits : (i : Inserts world list flagged.node flagged.from) → (at : ℕ) → at ≡ noted world list 0 → world.words at ≡ noted world list 1 → InsertWaits world list flagged.node flagged.from i.left ⊎ Changed world list → InsertWaits world list flagged.node flagged.from i.left
  link_waits i at place stands (inl waits) = waits
  link_waits i at place stands (inr changed) = absurd (elim (shape.made (record { list = list; reply = Yes }) changed) [
    | inl made ↦ omega (arith, made.1.passed, ap versioned_version (ap world.words (sym made.1.place ∙ sym place) ∙ stands))
    | inr rem ↦ both_ops list.call.op set rem.0
  ])

-- after the link, won or lost, the list's change stands with the reply Yes
pub link_fed : (world : World) (list : Listed) (flag : Flag) (at from : ℕ) (after : World) (seen : Seen) → Shape world → Follows (helps.Insert (insert.Link flag at from)) world list → Requested tree_form (help_asked (helps.Insert (insert.Link flag at from))) world after seen
    → Follows (help_fed (helps.Insert (insert.Link flag at from)) seen).0 after list
link_fed world list flag at from after seen shape follows (lost at' from' to' differs) =
    let flagged = follows.0.0.flagged in
    let i = inserts world shape list flagged follows.0.1 in
    (follows.0.0, link_lost world list shape flagged follows.0.1 i at follows.1 (λ e. differs (e ∙ sym follows.2)) i.fate)
link_fed world list flag at from after seen shape follows (won at' from' to stood raised) =
    let flagged = follows.0.0.flagged in
    let set : is_set list.call.op ≡ true = follows.0.1 in
    let i = inserts world shape list flagged set in
    let waits = link_waits world list shape flagged set i at follows.1 (stood ∙ follows.2) i.fate in
    let own : adds_beside world (record { target = at; from = from; to = to }) ≡ Some list =
    adds_own world list flagged.node flagged.from i.left (record { target = at; from = from; to = to }) shape flagged waits.up (shape.flaggers list flagged).small (follows.1 ∙ i.place) in
    let yes = link_yes world list shape flagged set i waits in (
      record { flagged = record { node = flagged.node; from = flagged.from; entries = flagged.entries; won = inr flagged.won }; own = follows.0.0.own },
      subst (λ (o : Option Listed). Among (record { list = list; reply = Yes }) (with_change tree_form.object o world.changes)) (sym own) (inl (ap (λ reply. record { list = list; reply = reply }) (sym yes))),
    )
