-- What a help follows stays true whatever anyone does, and a dead list stays dead.
use Rattle.std.proofs.Common.{◌≡◌, ℕ, ◌+◌, ◌*◌, ◌^◌, ◌<◌, Bool, true, false, not, List, sym, ap, subst, ◌∙◌, inl, inr, ◌⊎◌, arith}
use Rattle.std.specs.Prelude.{nat_lt}
use Rattle.word_fields.specs.Versioned.{versioned_value, versioned_version, cleared_word}
use Rattle.word_fields.proofs.ChangedWords.{cleared-changed}
use Rattle.lin_report.specs.declared.calls.Reply.TheVariants.{Yes}
use Rattle.normal_traits.specs.declared.lists.Entry.{Entry}
use Rattle.normal_traits.specs.World.{Listed, Change, World, Among, IsPassed, is_word, no_root}
use Rattle.normal_traits.specs.Steps.{IsStep}
use Rattle.tree_help.specs.declared.states.Flag.{Flag}
use Rattle.tree_help.specs.declared.states.Help.{Help}
use Rattle.tree_help.specs.declared.states.Help.TheVariants as helps
use Rattle.tree_help.specs.declared.states.HelpInsert.{HelpInsert}
use Rattle.tree_help.specs.declared.states.HelpInsert.TheVariants as insert
use Rattle.tree_help.specs.declared.states.HelpDelete.{HelpDelete}
use Rattle.tree_help.specs.declared.states.HelpDelete.TheVariants as delete
use Rattle.tree_help.specs.declared.states.HelpMark.{HelpMark}
use Rattle.tree_help.specs.declared.states.HelpMark.TheVariants as mark
use Rattle.tree_help.specs.declared.states.TheConstants.{MARKED}
use Rattle.tree_help.specs.Updates.{state_of, updated, note_at}
use Rattle.ellen_tree_form.specs.Words.{child_field, update_at, key_at, is_rem}
use Rattle.ellen_tree_form.specs.Shape.{Shape, Flagged, Changed, IsMarked, IsGivenUp, IsGone, is_node, is_left, child_of, noted}
use Rattle.ellen_tree_form.specs.Knowledge.{Dead, Follows, FollowsInsert, FollowsDelete, FollowsMark, IsFlag, IsTried, WasMarked, WillStay}
use Rattle.ellen_tree_form.specs.Form.{tree_form}
use Rattle.ellen_tree_form.proofs.Plain.{update_same, marked_value}
use Rattle.ellen_tree_form.proofs.Order.SwingWays.{field_small}
use Rattle.ellen_tree_form.proofs.Helps.Swings.{removes}
use Rattle.ellen_tree_form.proofs.Fields.{field_word}
use Rattle.ellen_tree_form.proofs.Asks.{field_high}
use Rattle.ellen_tree_form.proofs.Offers.{plain}
use Rattle.ellen_tree_form.proofs.Steps.Later.{Later, passed_on, later}
use Rattle.ellen_tree_form.proofs.Steps.Spares.{Spares, spares}
use Rattle.std.specs.Prelude.{slice_get}
use Rattle.client_lemmas.proofs.Entries.{the_entry}

module _ (world after : World) (shape : Shape world) (l : Later world after) (s : Spares world after) (list : Listed) where
  -- ---- flags, notes, changes

  unfoldable pub flagged_later : Flagged world list → Flagged after list
  flagged_later flagged = record { node = flagged.node; from = flagged.from; entries = flagged.entries; won = l.journal _ flagged.won }

  pub noted_later : Flagged world list → (note : ℕ) → note < 5 → noted after list note ≡ noted world list note
  noted_later flagged note small =
      l.plain (note_at list.block note) (field_word world list.block (27 + note) (shape.flaggers list flagged).used (omega arith) (omega (arith, small))) (plain list.block (27 + note) (omega (arith, small)) (inr (omega arith)))

  pub changed_later : Changed world list → Changed after list
  changed_later changed = elim l.changes [
    | inl same ↦ subst (λ (cs : List Change). Among (record { list = list; reply = Yes }) cs) (sym same) changed
    | inr more ↦ subst (λ (cs : List Change). Among (record { list = list; reply = Yes }) cs) (sym more.1) (inr changed)
  ]

  flag_later : (flag : Flag) → IsFlag world list flag → IsFlag after list flag
  flag_later flag is = record { flagged = flagged_later is.flagged; own = is.own }

  -- ---- the node that is to go

  module _ (flagged : Flagged world list) (rem : is_rem list.call.op ≡ true) (gone : ℕ) (update : noted world list 0 ≡ update_at gone) where
    is_gone : is_node world.changes gone ≡ true
    is_gone =
        let r = removes world list shape flagged rem in
        subst (λ n. is_node world.changes n ≡ true) (update_same r.gone gone (sym r.update ∙ update)) r.is

    used_gone : world.used gone ≡ true
    used_gone = (shape.stored gone is_gone).used

    small : list.block < 2 ^ 17
    small = (shape.flaggers list flagged).small

    update_word : is_word no_root world (update_at gone) ≡ true
    update_word = field_word world gone 21 used_gone (omega arith) (omega arith)

    pub update_later : noted after list 0 ≡ update_at gone
    update_later = noted_later flagged 0 (omega arith) ∙ update

    is_state : IsMarked world list gone → state_of (world.words (update_at gone)) ≡ MARKED
    is_state marked = omega (arith, marked_value world list gone small marked)

    pub marked_later : IsMarked world list gone → IsMarked after list gone
    marked_later marked =
        let noted' : updated (noted world list 1) list.block MARKED ≡ updated (noted after list 1) list.block MARKED = ap (λ w. updated w list.block MARKED) (sym (noted_later flagged 1 (omega arith))) in
        elim (s.frozen gone update_word (is_state marked)) [
          | inl same ↦ same ∙ marked ∙ noted'
          | inr cleared ↦ cleared ∙ ap cleared_word marked ∙ cleared-changed (noted world list 1) (4 * list.block + MARKED) (omega (arith, small)) ∙ noted'
        ]

    pub given_later : IsGivenUp world list gone → IsGivenUp after list gone
    given_later given = record {
      passed = subst (λ w. versioned_version w < versioned_version (after.words (update_at gone))) (sym (noted_later flagged 1 (omega arith))) (passed_on (update_at gone) (noted world list 1) update_word l given.passed);
      unmarked = λ e. elim (s.marks gone update_word list.block e) [
        | inl was ↦ given.unmarked was
        | inr other ↦
            let same : other.0 ≡ list = shape.same_block other.0 list other.1 flagged other.2 in
            omega (arith, given.passed, ap versioned_version other.3, ap (λ (x : Listed). versioned_version (noted world x 1)) same)
      ];
    }

    left_later : is_left after.words list.call.op.key gone ≡ is_left world.words list.call.op.key gone
    left_later = ap (λ k. nat_lt list.call.op.key k) (l.plain (key_at gone) (field_word world gone 17 used_gone (omega arith) (omega arith)) (plain gone 17 (omega arith) (inl (omega arith))))

    pub child_later : (left : Bool) → IsMarked world list gone → child_of after.words gone left ≡ child_of world.words gone left
    child_later left marked = ap versioned_value (s.held gone left (field_word world gone (child_field left) used_gone (field_high left) (field_small left)) (is_state marked))

    pub stay_later : (stays : ℕ) → WillStay world list gone stays → WillStay after list gone stays
    stay_later stays will = record {
      marked = record { update = update_later; marked = marked_later will.marked.marked };
      child = will.child ∙ sym (child_later (not (is_left world.words list.call.op.key gone)) will.marked.marked) ∙ ap (λ b. child_of after.words gone (not b)) (sym left_later);
    }

  was_later : Flagged world list → is_rem list.call.op ≡ true → (gone : ℕ) → WasMarked world list gone → WasMarked after list gone
  was_later flagged rem gone was = record { update = update_later flagged rem gone was.update; marked = marked_later flagged rem gone was.update was.marked }

  pub gone_later : Flagged world list → IsGone world list → IsGone after list
  gone_later flagged gone = (gone.0, (gone.1.0, update_later flagged gone.0 gone.1.0 gone.1.1, given_later flagged gone.0 gone.1.0 gone.1.1 gone.1.2))

  tried_later : Flagged world list → is_rem list.call.op ≡ true → IsTried world list → IsTried after list
  tried_later flagged rem tried = (
    tried.0,
    update_later flagged rem tried.0 tried.1,
    elim tried.2 [
      | inl marked ↦ inl (marked_later flagged rem tried.0 tried.1 marked)
      | inr given ↦ inr (given_later flagged rem tried.0 tried.1 given)
    ],
  )

  -- ---- helps

  insert_later : (it : HelpInsert) → FollowsInsert it world list → FollowsInsert it after list
  insert_later (insert.ReadPlace flag) f = (flag_later flag f.0, f.1)
  insert_later (insert.ReadWord flag at) f = ((flag_later flag f.0.0, f.0.1), f.1 ∙ sym (noted_later f.0.0.flagged 0 (omega arith)))
  insert_later (insert.Link flag at from) f = ((flag_later flag f.0.0, f.0.1), f.1 ∙ sym (noted_later f.0.0.flagged 0 (omega arith)), f.2 ∙ sym (noted_later f.0.0.flagged 1 (omega arith)))
  insert_later (insert.Unflag flag) f = (flag_later flag f.0, changed_later f.1)

  pub delete_later : (it : HelpDelete) → FollowsDelete it world list → FollowsDelete it after list
  delete_later (delete.MarkPlace flag) f = (flag_later flag f.0, f.1)
  delete_later (delete.MarkWord flag at) f = ((flag_later flag f.0.0, f.0.1), f.1 ∙ sym (noted_later f.0.0.flagged 0 (omega arith)))
  delete_later (delete.Mark flag at from) f = ((flag_later flag f.0.0, f.0.1), f.1 ∙ sym (noted_later f.0.0.flagged 0 (omega arith)), f.2 ∙ sym (noted_later f.0.0.flagged 1 (omega arith)))
  delete_later (delete.Check flag at) f = ((flag_later flag f.0.0, f.0.1), f.1 ∙ sym (noted_later f.0.0.flagged 0 (omega arith)), tried_later f.0.0.flagged f.0.1 f.2)
  delete_later (delete.StayPlace flag) f = ((flag_later flag f.0.0, f.0.1), (f.1.0, was_later f.0.0.flagged f.0.1 f.1.0 f.1.1))
  delete_later (delete.StayWord flag at) f = ((flag_later flag f.0.0, f.0.1), f.1 ∙ sym (noted_later f.0.0.flagged 4 (omega arith)), (f.2.0, was_later f.0.0.flagged f.0.1 f.2.0 f.2.1))
  delete_later (delete.SwingPlace flag stays) f = ((flag_later flag f.0.0, f.0.1), (f.1.0, stay_later f.0.0.flagged f.0.1 f.1.0 f.1.1.marked.update stays f.1.1))
  delete_later (delete.SwingWord flag stays at) f =
      ((flag_later flag f.0.0, f.0.1), f.1 ∙ sym (noted_later f.0.0.flagged 2 (omega arith)), (f.2.0, stay_later f.0.0.flagged f.0.1 f.2.0 f.2.1.marked.update stays f.2.1))
  delete_later (delete.Swing flag stays at from) f = (
    (flag_later flag f.0.0, f.0.1),
    f.1 ∙ sym (noted_later f.0.0.flagged 2 (omega arith)),
    f.2 ∙ sym (noted_later f.0.0.flagged 3 (omega arith)),
    (f.3.0, stay_later f.0.0.flagged f.0.1 f.3.0 f.3.1.marked.update stays f.3.1),
  )
  delete_later (delete.Unflag flag true) f = (flag_later flag f.0, changed_later f.1)
  delete_later (delete.Unflag flag false) f = (flag_later flag f.0, gone_later f.0.flagged f.1)

  mark_later : (it : HelpMark) → FollowsMark it world list → FollowsMark it after list
  unfolding flagged_later
  mark_later (mark.FindPlace block) f = (flagged_later f.0, f.1, f.2, (f.3.0, was_later f.0 f.1 f.3.0 f.3.1))
  mark_later (mark.FindFlag block at) f = (flagged_later f.0, f.1, f.2, (flagged_later f.3.0, f.3.1), (f.4.0, was_later f.0 f.1 f.4.0 f.4.1))
  mark_later (mark.Deletes it) f = delete_later it f

  pub follows_later : (help : Help) → Follows help world list → Follows help after list
  follows_later (helps.Insert it) f = insert_later it f
  follows_later (helps.Delete it) f = delete_later it f
  follows_later (helps.Mark it) f = mark_later it f

pub follows_kept : (world after : World) (help : Help) (list : Listed) → Shape world → Follows help world list → IsStep tree_form world after → Follows help after list
follows_kept world after help list shape follows step = follows_later world after shape (later world after shape step) (spares world after shape step) list help follows

-- ---- dead lists

pub dead_kept : (world after : World) (list : Listed) → Shape world → Dead list world → IsStep tree_form world after → Dead list after
dead_kept world after list shape dead step = record { entry = dead.entry; entries = dead.entries; fate = by_fate dead.fate }
  where
    l : Later world after
    l = later world after shape step

    s : Spares world after
    s = spares world after shape step

    by_fate : (IsPassed world dead.entry × (¬ Flagged world list) × ((node : ℕ) × (dead.entry.target ≡ update_at node) × (world.used node ≡ true))) ⊎ (Flagged world list × IsGone world list)
        → (IsPassed after dead.entry × (¬ Flagged after list) × ((node : ℕ) × (dead.entry.target ≡ update_at node) × (after.used node ≡ true))) ⊎ (Flagged after list × IsGone after list)
    by_fate (inl lost) = inl (
      passed_on dead.entry.target dead.entry.from (ap (is_word no_root world) lost.2.1 ∙ field_word world lost.2.0 21 lost.2.2 (omega arith) (omega arith)) l lost.0,
      λ flagged. elim (s.flags list flagged) [
        | inl was ↦ lost.1 was
        | inr own ↦
            let same : own.0 ≡ dead.entry = the_entry list.entries dead.entry own.0 (ap (λ (es : List Entry). slice_get es 0) dead.entries) own.1 in
            let here : world.words dead.entry.target ≡ dead.entry.from = subst (λ (e : Entry). world.words e.target ≡ e.from) same own.2 in
            omega (arith, lost.0, ap versioned_version here)
      ],
      (lost.2.0, lost.2.1, l.used lost.2.0 lost.2.2),
    )
    by_fate (inr gone) = inr (flagged_later world after shape l s list gone.0, gone_later world after shape l s list gone.0 gone.1)
