-- The exchanges of a help, won or lost: each that is won is an insertion, a mark, a swing or the end of a flag.
use Rattle.std.proofs.Common.{◌≡◌, ℕ, ◌+◌, ◌*◌, ◌^◌, ◌<◌, Bool, true, false, not, ◌∷◌, Option, refl, sym, ap, subst, ◌∙◌, inl, inr, ◌⊎◌, arith}
use Rattle.std.specs.Prelude.{◌==◌, nat_lt, Some, None}
use Rattle.std.proofs.lemmas.Bool.{eq-eqb, ne_eqb}
use Rattle.word_fields.specs.Versioned.{versioned_value, versioned_version, value_below}
use Rattle.word_fields.proofs.ChangedWords.{value-changed, changed_below}
use Rattle.lin_report.specs.declared.calls.Reply.TheVariants.{Yes}
use Rattle.lin_report.specs.Object.{map_object, map_apply}
use Rattle.step_memory.specs.declared.steps.Seen.{Seen}
use Rattle.node_arena.proofs.PlacesApart.{block_at-block_place}
use Rattle.normal_traits.specs.declared.lists.Entry.{Entry}
use Rattle.normal_traits.specs.World.{Listed, World, held_after}
use Rattle.normal_traits.specs.World.Maker.{Beside}
use Rattle.normal_traits.specs.Steps.{Requested, exchanged, with_word, with_change}
use Rattle.normal_traits.specs.Steps.Requested.{lost, won}
use Rattle.tree_help.specs.declared.states.Flag.{Flag}
use Rattle.tree_help.specs.declared.states.HelpInsert.TheVariants as insert
use Rattle.tree_help.specs.declared.states.HelpDelete.TheVariants as delete
use Rattle.tree_help.specs.declared.states.TheConstants.{CLEAN, MARKED}
use Rattle.tree_help.specs.Updates.{state_of, block_of, updated, inner}
use Rattle.tree_help.specs.Helps.{flag_block, insert_asked, delete_asked}
use Rattle.ellen_tree_form.specs.Words.{child_at, child_field, update_at, key_at, is_set, is_rem}
use Rattle.ellen_tree_form.specs.Search.{flag_of}
use Rattle.ellen_tree_form.specs.Shape.{Shape, Flagged, Removes, RemoveStands, Changed, IsGone, IsGivenUp, IsMarked, IsUp, noted, flags_at, flag_over, adds_beside, cause_of, cause_here}
use Rattle.ellen_tree_form.specs.Knowledge.{FollowsInsert, FollowsDelete, IsFlag}
use Rattle.ellen_tree_form.specs.Form.{tree_form}
use Rattle.ellen_tree_form.proofs.Plain.{update_same, both_ops, marked_value}
use Rattle.ellen_tree_form.proofs.Order.SwingWays.{field_small, child_same}
use Rattle.ellen_tree_form.proofs.Helps.Wraps.{own_block, no_child}
use Rattle.ellen_tree_form.proofs.Helps.Owners.{adds_own, swing_stands, child_is, up_block}
use Rattle.ellen_tree_form.proofs.Helps.Swings.{removes, swing_yes}
use Rattle.ellen_tree_form.proofs.Helps.Links.{link_yes, link_waits}
use Rattle.ellen_tree_form.proofs.Asks.{inserts}
use Rattle.ellen_tree_steps.specs.Effects.{IsQuiet, IsBeside, Effect}
use Rattle.ellen_tree_steps.specs.Effects.Effect.{quiet, links, marks, swings, ends}

-- ---- nothing, and an exchange beside the lists

pub same_quiet : (world : World) → IsQuiet world world
same_quiet world = record { words = λ at is. inl refl; changes = refl; used = λ block. refl; journal = refl }

beside_of : (world : World) (list : Listed) (kind place at from to : ℕ) (added : Option Listed) → at ≡ place → world.words at ≡ from → versioned_version to ≡ versioned_version from + 1 → to < 2 ^ 64
    → cause_of world Beside (record { target = at; from = from; to = to }) ≡ cause_here list.block kind
    → IsBeside world (exchanged tree_form Beside added (record { target = at; from = from; to = to }) to world) list kind place to
beside_of world list kind place at from to added here stood raised fits cause = record {
  words = λ other. ap (λ p. with_word p to world.words other) here;
  used = λ block. refl;
  item = record { place = at; before = from; after = to; maker = Beside; cause = cause_of world Beside (record { target = at; from = from; to = to }) };
  maker = refl;
  cause = cause;
  journal = refl;
  raised = omega (arith, raised, ap versioned_version (sym (ap world.words here) ∙ stood));
  fits = fits;
}

-- ---- the causes

module _ (world : World) (entry : Entry) where
  child_cause : (list : Listed) (node from : ℕ) (left : Bool) → entry.target ≡ child_at node left → IsUp world list node from → list.block < 2 ^ 17 → cause_of world Beside entry ≡ cause_here list.block 1
  child_cause list node from left at up small =
      let over : block_of (flag_over world.words (child_at node left)) ≡ list.block = ap (λ b. block_of (world.words (update_at b))) (block_at-block_place node (child_field left) (field_small left)) ∙ up_block world list node from up small in
      rw (at, child_is node left, over) refl

  no_change : (node : ℕ) → entry.target ≡ update_at node → adds_beside world entry ≡ None
  no_change node at = rw (at, no_child node) refl

  mark_cause : (node : ℕ) → entry.target ≡ update_at node → (block : ℕ) → versioned_value entry.to ≡ 4 * block + MARKED → cause_of world Beside entry ≡ cause_here block 3
  mark_cause node at block value =
      let is : (state_of entry.to == MARKED) ≡ true = eq-eqb (state_of entry.to) MARKED (omega (arith, value)) in
      let own : block_of entry.to ≡ block = omega (arith, value) in
      rw (at, no_child node, is, own) refl

  end_cause : (node : ℕ) → entry.target ≡ update_at node → (block : ℕ) → versioned_value entry.to ≡ 4 * block + CLEAN → cause_of world Beside entry ≡ cause_here block 2
  end_cause node at block value =
      let is : (state_of entry.to == MARKED) ≡ false = ne_eqb (state_of entry.to) MARKED (λ e. omega (arith, value, e)) in
      let own : block_of entry.to ≡ block = omega (arith, value) in
      rw (at, no_child node, is, own) refl

module _ (world : World) (shape : Shape world) (list : Listed) where
  -- ---- an insertion

  pub link_effect : (flag : Flag) (at from : ℕ) (after : World) (seen : Seen) → FollowsInsert (insert.Link flag at from) world list → Requested tree_form (insert_asked (insert.Link flag at from)) world after seen → Effect world after
  link_effect flag at from after seen f (lost at' from' to differs) = quiet (same_quiet world)
  link_effect flag at from after seen f (won at' from' to stood raised) =
      let flagged = f.0.0.flagged in
      let set : is_set list.call.op ≡ true = f.0.1 in
      let i = inserts world shape list flagged set in
      let small = (shape.flaggers list flagged).small in
      let own = own_block world list flag shape f.0.0 in
      let block_small : flag_block flag < 2 ^ 17 = omega (arith, own, small) in
      let waits = link_waits world list shape flagged set i at f.1 (stood ∙ f.2) i.fate in
      let place : at ≡ child_at flagged.node i.left = f.1 ∙ i.place in
      let adds : adds_beside world (record { target = at; from = from; to = to }) ≡ Some list = adds_own world list flagged.node flagged.from i.left (record { target = at; from = from; to = to }) shape flagged waits.up small place in
      let yes = link_yes world list shape flagged set i waits in
      links (record {
        list = list;
        flagged = flagged;
        set = set;
        inserts = i;
        waits = waits;
        to = to;
        value = value-changed from (inner (flag_block flag)) (omega (arith, block_small)) ∙ ap inner own;
        beside = beside_of world list 1 (child_at flagged.node i.left) at from to _ place stood raised (changed_below from (inner (flag_block flag)) (omega (arith, block_small)))
            (child_cause world (record { target = at; from = from; to = to }) list flagged.node flagged.from i.left place waits.up small);
        changes = ap (λ (o : Option Listed). with_change tree_form.object o world.changes) adds ∙ ap (λ reply. record { list = list; reply = reply } ∷ world.changes) yes;
      })

  -- ---- a swing

  pub swing_effect : (flag : Flag) (stays at from : ℕ) (after : World) (seen : Seen) → FollowsDelete (delete.Swing flag stays at from) world list → Requested tree_form (delete_asked (delete.Swing flag stays at from)) world after seen → Effect world after
  swing_effect flag stays at from after seen f (lost at' from' to differs) = quiet (same_quiet world)
  swing_effect flag stays at from after seen f (won at' from' to stood raised) =
      let flagged = f.0.0.flagged in
      let rem : is_rem list.call.op ≡ true = f.0.1 in
      let gone = f.3.0 in
      let will = f.3.1 in
      let r = removes world list shape flagged rem in
      let small = (shape.flaggers list flagged).small in
      let same : gone ≡ r.gone = update_same gone r.gone (sym will.marked.update ∙ r.update) in
      let s = swing_stands world list gone at shape flagged rem will.marked.update will.marked.marked f.1 (stood ∙ f.2) in
      let place : at ≡ child_at flagged.node r.left = f.1 ∙ r.place in
      let side : s.0 ≡ r.left = (child_same flagged.node flagged.node s.0 r.left (sym s.1 ∙ place)).1 in
      let stands : RemoveStands world list flagged.node flagged.from r.left r.gone = subst (RemoveStands world list flagged.node flagged.from r.left) same (subst (λ l. RemoveStands world list flagged.node flagged.from l gone) side s.2) in
      let adds : adds_beside world (record { target = at; from = from; to = to }) ≡ Some list = adds_own world list flagged.node flagged.from r.left (record { target = at; from = from; to = to }) shape flagged stands.up small place in
      let yes : (map_apply list.call.op (held_after map_object world.changes)).1 ≡ Yes = swing_yes world list shape flagged rem r.gone refl stands in
      swings (record {
        list = list;
        flagged = flagged;
        rem = rem;
        removes = r;
        stands = stands;
        marked = subst (IsMarked world list) same will.marked.marked;
        to = to;
        value = value-changed from (versioned_value stays) (value_below stays) ∙ subst (λ g. versioned_value stays ≡ versioned_value (world.words (child_at g (not (nat_lt list.call.op.key (world.words (key_at g))))))) same will.child;
        beside = beside_of world list 1 (child_at flagged.node r.left) at from to _ place stood raised (changed_below from (versioned_value stays) (value_below stays))
            (child_cause world (record { target = at; from = from; to = to }) list flagged.node flagged.from r.left place stands.up small);
        changes = ap (λ (o : Option Listed). with_change tree_form.object o world.changes) adds ∙ ap (λ reply. record { list = list; reply = reply } ∷ world.changes) yes;
      })

  -- ---- a mark

  -- the list waits where the node that is to go has the word that was noted
  mark_waits : (flagged : Flagged world list) (rem : is_rem list.call.op ≡ true) (r : Removes world list flagged.node flagged.from) → world.words (update_at r.gone) ≡ noted world list 1
      → (RemoveStands world list flagged.node flagged.from r.left r.gone × (world.words (update_at r.gone) ≡ noted world list 1)) ⊎ ((RemoveStands world list flagged.node flagged.from r.left r.gone × IsMarked world list r.gone) ⊎ (Changed world list ⊎ IsGivenUp world list r.gone))
      → RemoveStands world list flagged.node flagged.from r.left r.gone
  mark_waits flagged rem r stood (inl waits) = waits.0
  mark_waits flagged rem r stood (inr (inl marked)) = marked.0
  mark_waits flagged rem r stood (inr (inr (inl changed))) = absurd (elim (shape.made (record { list = list; reply = Yes }) changed) [
    | inl set ↦ both_ops list.call.op set.0 rem
    | inr made ↦
        let same : made.2.0 ≡ r.gone = update_same made.2.0 r.gone (sym made.2.1 ∙ r.update) in
        let value : versioned_value (world.words (update_at made.2.0)) ≡ 4 * list.block + MARKED = marked_value world list made.2.0 (shape.flaggers list flagged).small made.2.2 in
        omega (arith, value, ap (λ g. state_of (world.words (update_at g))) same, ap state_of stood, r.clean)
  ])
  mark_waits flagged rem r stood (inr (inr (inr given))) = absurd (omega (arith, given.passed, ap versioned_version stood))

  pub mark_effect : (flag : Flag) (at from : ℕ) (after : World) (seen : Seen) → FollowsDelete (delete.Mark flag at from) world list → Requested tree_form (delete_asked (delete.Mark flag at from)) world after seen → Effect world after
  mark_effect flag at from after seen f (lost at' from' to differs) = quiet (same_quiet world)
  mark_effect flag at from after seen f (won at' from' to stood raised) =
      let flagged = f.0.0.flagged in
      let rem : is_rem list.call.op ≡ true = f.0.1 in
      let r = removes world list shape flagged rem in
      let small = (shape.flaggers list flagged).small in
      let own = own_block world list flag shape f.0.0 in
      let place : at ≡ update_at r.gone = f.1 ∙ r.update in
      let here : world.words (update_at r.gone) ≡ noted world list 1 = ap world.words (sym place) ∙ stood ∙ f.2 in
      let written : updated from (flag_block flag) MARKED ≡ updated (noted world list 1) list.block MARKED = ap (λ b. updated from b MARKED) own ∙ ap (λ w. updated w list.block MARKED) f.2 in
      let value : versioned_value (updated from (flag_block flag) MARKED) ≡ 4 * list.block + MARKED = value-changed from (4 * flag_block flag + MARKED) (omega (arith, own, small)) ∙ ap (λ b. 4 * b + MARKED) own in
      marks (record {
        list = list;
        flagged = flagged;
        rem = rem;
        removes = r;
        stands = mark_waits flagged rem r here r.fate;
        stood = here;
        beside = subst (IsBeside world _ list 3 (update_at r.gone)) written
            (beside_of world list 3 (update_at r.gone) at from (updated from (flag_block flag) MARKED) _ place stood raised (changed_below from (4 * flag_block flag + MARKED) (omega (arith, own, small)))
            (mark_cause world (record { target = at; from = from; to = updated from (flag_block flag) MARKED }) r.gone place list.block value));
        changes = ap (λ (o : Option Listed). with_change tree_form.object o world.changes) (no_change world (record { target = at; from = from; to = updated from (flag_block flag) MARKED }) r.gone place);
      })

  -- ---- the end of a flag

  pub end_effect : (flag : Flag) (after : World) (seen : Seen) → IsFlag world list flag → Changed world list ⊎ IsGone world list → Requested tree_form (delete_asked (delete.Unflag flag true)) world after seen → Effect world after
  end_effect flag after seen is done (lost at' from' to differs) = quiet (same_quiet world)
  end_effect flag after seen is done (won at' from' to stood raised) =
      let flagged = is.flagged in
      let small = (shape.flaggers list flagged).small in
      let own = own_block world list flag shape is in
      let place : flag.place ≡ update_at flagged.node = ap (λ (f : Flag). f.place) (is.own ∙ ap flag_of flagged.entries) in
      let word : flag.word ≡ (flags_at flagged.node flagged.from list).to = ap (λ (f : Flag). f.word) (is.own ∙ ap flag_of flagged.entries) in
      let written : updated flag.word (flag_block flag) CLEAN ≡ updated (flags_at flagged.node flagged.from list).to list.block CLEAN = ap (λ b. updated flag.word b CLEAN) own ∙ ap (λ w. updated w list.block CLEAN) word in
      let value : versioned_value (updated flag.word (flag_block flag) CLEAN) ≡ 4 * list.block + CLEAN = value-changed flag.word (4 * flag_block flag + CLEAN) (omega (arith, own, small)) ∙ ap (λ b. 4 * b + CLEAN) own in
      ends (record {
        list = list;
        flagged = flagged;
        done = done;
        stood = ap world.words (sym place) ∙ stood ∙ word;
        beside = subst (IsBeside world _ list 2 (update_at flagged.node)) written
            (beside_of world list 2 (update_at flagged.node) flag.place flag.word (updated flag.word (flag_block flag) CLEAN) _ place stood raised (changed_below flag.word (4 * flag_block flag + CLEAN) (omega (arith, own, small)))
            (end_cause world (record { target = flag.place; from = flag.word; to = updated flag.word (flag_block flag) CLEAN }) flagged.node place list.block value));
        changes = ap (λ (o : Option Listed). with_change tree_form.object o world.changes) (no_change world (record { target = flag.place; from = flag.word; to = updated flag.word (flag_block flag) CLEAN }) flagged.node place);
      })
