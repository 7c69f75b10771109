-- What no allowed step does: a marked node's update word and child words are not exchanged, a mark is set from the
-- noted word alone, and a list's flag is set by its entry alone.
use Rattle.std.proofs.Common.{◌≡◌, ◌≢◌, ℕ, ◌+◌, ◌*◌, ◌^◌, ◌<◌, Bool, true, false, sym, ap, subst, ◌∙◌, inl, inr, ◌⊎◌, arith}
use Rattle.std.specs.Prelude.{if◌then◌else◌}
use Rattle.std.proofs.lemmas.Bool.{true≢false}
use Rattle.word_fields.specs.Versioned.{versioned_value, versioned_version}
use Rattle.word_fields.proofs.ChangedWords.{value-changed}
use Rattle.lin_report.specs.declared.calls.Op.{Op}
use Rattle.lin_report.specs.declared.calls.Reply.TheVariants.{Yes}
use Rattle.step_memory.specs.declared.steps.Request.{Request}
use Rattle.step_memory.specs.declared.steps.Request.TheVariants.{Load, Store, Exchange, Add}
use Rattle.normal_traits.specs.World.{Listed, World}
use Rattle.tree_help.specs.declared.states.Flag.{Flag}
use Rattle.tree_help.specs.declared.states.Help.{Help}
use Rattle.tree_help.specs.declared.states.Help.TheVariants as helps
use Rattle.tree_help.specs.declared.states.HelpInsert.{HelpInsert}
use Rattle.tree_help.specs.declared.states.HelpInsert.TheVariants as insert
use Rattle.tree_help.specs.declared.states.HelpDelete.{HelpDelete}
use Rattle.tree_help.specs.declared.states.HelpDelete.TheVariants as delete
use Rattle.tree_help.specs.declared.states.HelpMark.{HelpMark}
use Rattle.tree_help.specs.declared.states.HelpMark.TheVariants as mark
use Rattle.tree_help.specs.declared.states.TheConstants.{CLEAN, INSERTING, DELETING, MARKED}
use Rattle.tree_help.specs.Updates.{state_of}
use Rattle.tree_help.specs.Helps.{flag_block, insert_asked, delete_asked, mark_asked, help_asked}
use Rattle.ellen_tree_form.specs.Words.{child_at, update_at, is_update, is_set}
use Rattle.ellen_tree_form.specs.Search.{flag_of}
use Rattle.ellen_tree_form.specs.Shape.{Shape, Flagged, Inserts, InsertWaits, Changed, IsUp, flags_at, flag_state, noted}
use Rattle.ellen_tree_form.specs.Knowledge.{Follows, FollowsInsert, FollowsDelete, FollowsMark, IsFlag}
use Rattle.ellen_tree_form.proofs.Plain.{both_ops}
use Rattle.ellen_tree_form.proofs.Order.SwingWays.{child_same, child_update}
use Rattle.ellen_tree_form.proofs.Helps.Wraps.{own_block, flag_state_is}
use Rattle.ellen_tree_form.proofs.Helps.Swings.{removes}
use Rattle.ellen_tree_form.proofs.Helps.Owners.{swing_stands, up_value}
use Rattle.ellen_tree_form.proofs.Asks.{child_unlisted, inserts}

-- an exchange that spares marked nodes, and marks for a list alone, from the word that it noted
pub record IsFair (world : World) (at from to : ℕ) : Type 0 where
  pub unmarked : is_update at ≡ true → state_of from ≢ MARKED
  pub marks : is_update at ≡ true → (block : ℕ) → versioned_value to ≡ 4 * block + MARKED → (list : Listed) × Flagged world list × (list.block ≡ block) × (from ≡ noted world list 1)
  pub held : (node : ℕ) (left : Bool) → at ≡ child_at node left → world.words at ≡ from → state_of (world.words (update_at node)) ≢ MARKED

abbrev pub AsksFair : World → Request → Type 0
AsksFair world (Load at) = Unit {0}
AsksFair world (Exchange at from to) = IsFair world at from to
AsksFair world (Store at value) = ⊥
AsksFair world (Add at by) = ⊥

pub flag_unmarked : (op : Op) → flag_state op ≢ MARKED
flag_unmarked op e = by_set (is_set op) e
  where
    by_set : (b : Bool) → (if b then INSERTING else DELETING) ≡ MARKED → ⊥
    by_set true e' = absurd (omega (arith, e'))
    by_set false e' = absurd (omega (arith, e'))

module _ (world : World) (shape : Shape world) (list : Listed) where
  -- a node at which the flag of the list is up isn't marked
  up_unmarked : (node from : ℕ) → list.block < 2 ^ 17 → IsUp world list node from → state_of (world.words (update_at node)) ≢ MARKED
  up_unmarked node from small up e =
      let value = up_value world list node from up small in
      by_set (is_set list.call.op) value
    where
      by_set : (b : Bool) → versioned_value (world.words (update_at node)) ≡ 4 * list.block + (if b then INSERTING else DELETING) → ⊥
      by_set true value = absurd (omega (arith, value, e))
      by_set false value = absurd (omega (arith, value, e))

  unflags_fair : (flag : Flag) → IsFlag world list flag → AsksFair world (delete_asked (delete.Unflag flag true))
  unflags_fair flag is =
      let node = is.flagged.node in
      let checks = shape.flaggers list is.flagged in
      let place : flag.place ≡ update_at node = ap (λ (f : Flag). f.place) (is.own ∙ ap flag_of is.flagged.entries) in
      let word : flag.word ≡ (flags_at node is.flagged.from list).to = ap (λ (f : Flag). f.word) (is.own ∙ ap flag_of is.flagged.entries) in
      record {
        unmarked = λ updates e. flag_unmarked list.call.op (sym (flag_state_is list checks.small node is.flagged.from) ∙ ap state_of (sym word) ∙ e);
        marks = λ updates block e. absurd (omega (arith, e, own_block world list flag shape is, checks.small, value-changed flag.word (4 * flag_block flag + CLEAN) (omega (arith, own_block world list flag shape is, checks.small))));
        held = λ other left e stands. absurd (child_update other node left (sym place ∙ e));
      }

  insert_fair : (it : HelpInsert) → FollowsInsert it world list → AsksFair world (insert_asked it)
  insert_fair (insert.ReadPlace flag) follows = tt
  insert_fair (insert.ReadWord flag at) follows = tt
  insert_fair (insert.Link flag at from) follows =
      let is = follows.0.0 in
      let i = inserts world shape list is.flagged follows.0.1 in
      let place : at ≡ child_at is.flagged.node i.left = follows.1 ∙ i.place in
      let child : is_update at ≡ false = ap is_update place ∙ child_unlisted is.flagged.node i.left in
      record {
        unmarked = λ updates. absurd (true≢false (sym updates ∙ child));
        marks = λ updates. absurd (true≢false (sym updates ∙ child));
        held = λ node left e stands. subst (λ n. state_of (world.words (update_at n)) ≢ MARKED) (child_same is.flagged.node node i.left left (sym place ∙ e)).0 (by_fate is.flagged i follows.1 (stands ∙ follows.2) i.fate);
      }
    where
      by_fate : (flagged : Flagged world list) (i : Inserts world list flagged.node flagged.from) → at ≡ noted world list 0 → world.words at ≡ noted world list 1 → InsertWaits world list flagged.node flagged.from i.left ⊎ Changed world list → state_of (world.words (update_at flagged.node)) ≢ MARKED
      by_fate flagged i place stands (inl waits) = up_unmarked flagged.node flagged.from (shape.flaggers list flagged).small waits.up
      by_fate flagged i place stands (inr changed) = absurd (elim (shape.made (record { list = list; reply = Yes }) changed) [
        | inl made ↦ omega (arith, made.1.passed, ap versioned_version (ap world.words (sym made.1.place ∙ sym place) ∙ stands))
        | inr rem ↦ both_ops list.call.op i.set rem.0
      ])
  insert_fair (insert.Unflag flag) follows = unflags_fair flag follows.0

  pub delete_fair : (it : HelpDelete) → FollowsDelete it world list → AsksFair world (delete_asked it)
  delete_fair (delete.MarkPlace flag) follows = tt
  delete_fair (delete.MarkWord flag at) follows = tt
  delete_fair (delete.Mark flag at from) follows =
      let is = follows.0.0 in
      let r = removes world list shape is.flagged follows.0.1 in
      let checks = shape.flaggers list is.flagged in
      let own = own_block world list flag shape is in
      record {
        unmarked = λ updates e. absurd (omega (arith, r.clean, e, ap state_of follows.2));
        marks = λ updates block e. (list, is.flagged, omega (arith, e, own, value-changed from (4 * flag_block flag + MARKED) (omega (arith, own, checks.small))), follows.2);
        held = λ node left e stands. absurd (child_update node r.gone left (sym (follows.1 ∙ r.update) ∙ e));
      }
  delete_fair (delete.Check flag at) follows = tt
  delete_fair (delete.StayPlace flag) follows = tt
  delete_fair (delete.StayWord flag at) follows = tt
  delete_fair (delete.SwingPlace flag stays) follows = tt
  delete_fair (delete.SwingWord flag stays at) follows = tt
  delete_fair (delete.Swing flag stays at from) follows =
      let is = follows.0.0 in
      let r = removes world list shape is.flagged follows.0.1 in
      let place : at ≡ child_at is.flagged.node r.left = follows.1 ∙ r.place in
      let child : is_update at ≡ false = ap is_update place ∙ child_unlisted is.flagged.node r.left in
      let will = follows.3.1 in
      record {
        unmarked = λ updates. absurd (true≢false (sym updates ∙ child));
        marks = λ updates. absurd (true≢false (sym updates ∙ child));
        held = λ node left e stands.
            let s = swing_stands world list follows.3.0 at shape is.flagged follows.0.1 will.marked.update will.marked.marked follows.1 (stands ∙ follows.2) in
            subst (λ n. state_of (world.words (update_at n)) ≢ MARKED) (child_same is.flagged.node node r.left left (sym place ∙ e)).0 (up_unmarked is.flagged.node is.flagged.from (shape.flaggers list is.flagged).small s.2.up);
      }
  delete_fair (delete.Unflag flag true) follows = unflags_fair flag follows.0
  delete_fair (delete.Unflag flag false) follows = unflags_fair flag follows.0

  mark_fair : (it : HelpMark) → FollowsMark it world list → AsksFair world (mark_asked it)
  mark_fair (mark.FindPlace block) follows = tt
  mark_fair (mark.FindFlag block at) follows = tt
  mark_fair (mark.Deletes it) follows = delete_fair it follows

  -- every request of a help
  pub help_fair : (help : Help) → Follows help world list → AsksFair world (help_asked help)
  help_fair (helps.Insert it) follows = insert_fair it follows
  help_fair (helps.Delete it) follows = delete_fair it follows
  help_fair (helps.Mark it) follows = mark_fair it follows
