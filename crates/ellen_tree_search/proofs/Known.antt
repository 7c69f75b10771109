-- What an update word tells that is seen: it is clean, or whose flag or mark it is; and the help that it asks for.
use Rattle.std.proofs.Common.{◌≡◌, ◌≢◌, ℕ, ◌+◌, ◌*◌, Bool, true, false, refl, sym, ap, subst, ◌∙◌, inl, inr, ◌⊎◌, arith}
use Rattle.std.specs.Prelude.{◌==◌, if◌then◌else◌}
use Rattle.std.proofs.lemmas.Bool.{eq-eqb, ne_eqb}
use Rattle.word_fields.specs.Versioned.{versioned_value, versioned_bit, value_below}
use Rattle.word_fields.proofs.ChangedWords.{cleared-clear}
use Rattle.normal_traits.specs.World.{Listed, World}
use Rattle.tree_help.specs.declared.states.Flag.{Flag}
use Rattle.tree_help.specs.declared.states.Help.TheVariants as helps
use Rattle.tree_help.specs.declared.states.HelpInsert.TheVariants as insert
use Rattle.tree_help.specs.declared.states.HelpDelete.TheVariants as delete
use Rattle.tree_help.specs.declared.states.HelpMark.TheVariants as mark
use Rattle.tree_help.specs.declared.states.TheConstants.{INSERTING, DELETING, MARKED}
use Rattle.tree_help.specs.Updates.{state_of}
use Rattle.tree_help.specs.Helps.{Fits, flag_block, help_of}
use Rattle.ellen_tree_form.specs.Words.{update_at, is_set}
use Rattle.ellen_tree_form.specs.Search.{flag_of}
use Rattle.ellen_tree_form.specs.Shape.{Shape, HasFlag, HasMark, IsFlagger, Inserts, Removes, is_node, flags_at, flag_state}
use Rattle.ellen_tree_form.specs.Knowledge.{Follows, IsFlag, IsKnown}
use Rattle.ellen_tree_form.proofs.Plain.{marked_value, both_ops}
use Rattle.ellen_tree_form.proofs.Helps.Owners.{up_value}
use Rattle.ellen_tree_steps.proofs.Lists.Waiting.{up_alive}

-- ---- help of a word by its state

module _ (flag : Flag) where
  help_1 : state_of flag.word ≡ INSERTING → help_of flag ≡ helps.Insert (insert.ReadPlace flag)
  help_1 e =
      ap (λ b. if b then helps.Insert (insert.ReadPlace flag) else (if state_of flag.word == DELETING then helps.Delete (delete.MarkPlace flag) else helps.Mark (mark.FindPlace (flag_block flag)))) (eq-eqb (state_of flag.word) INSERTING e)

  other_1 : state_of flag.word ≢ INSERTING → help_of flag ≡ (if state_of flag.word == DELETING then helps.Delete (delete.MarkPlace flag) else helps.Mark (mark.FindPlace (flag_block flag)))
  other_1 e =
      ap (λ b. if b then helps.Insert (insert.ReadPlace flag) else (if state_of flag.word == DELETING then helps.Delete (delete.MarkPlace flag) else helps.Mark (mark.FindPlace (flag_block flag)))) (ne_eqb (state_of flag.word) INSERTING e)

  help_2 : state_of flag.word ≡ DELETING → help_of flag ≡ helps.Delete (delete.MarkPlace flag)
  help_2 e =
      other_1 (λ e'. omega (arith, e, e')) ∙ ap (λ b. if b then helps.Delete (delete.MarkPlace flag) else helps.Mark (mark.FindPlace (flag_block flag))) (eq-eqb (state_of flag.word) DELETING e)

  help_3 : state_of flag.word ≡ MARKED → help_of flag ≡ helps.Mark (mark.FindPlace (flag_block flag))
  help_3 e =
      other_1 (λ e'. omega (arith, e, e')) ∙ ap (λ b. if b then helps.Delete (delete.MarkPlace flag) else helps.Mark (mark.FindPlace (flag_block flag))) (ne_eqb (state_of flag.word) DELETING (λ e'. omega (arith, e, e')))

  -- a help that is met fits
  pub help_fits : Fits (help_of flag)
  help_fits = by_tests (state_of flag.word == INSERTING) (state_of flag.word == DELETING)
    where
      by_tests : (a b : Bool) → Fits (if a then helps.Insert (insert.ReadPlace flag) else (if b then helps.Delete (delete.MarkPlace flag) else helps.Mark (mark.FindPlace (flag_block flag))))
      by_tests true b = tt
      by_tests false true = tt
      by_tests false false = omega (arith, value_below flag.word)

module _ (world : World) (shape : Shape world) (node : ℕ) (is : is_node world.changes node ≡ true) where
  abbrev word : ℕ
  word = world.words (update_at node)

  abbrev flag : Flag
  flag = record { place = update_at node; word = world.words (update_at node) }

  -- a flag that stands with its bit clear is that of a list
  pub flag_is : versioned_bit (world.words (update_at node)) ≡ 0 → (f : HasFlag world node) → IsFlag world f.list flag
  flag_is clear f = record { flagged = f.flagged; own = own }
    where
      own : flag ≡ flag_of f.list.entries
      own =
          ap (λ w. record { place = update_at node; word = w }) (sym (cleared-clear word clear) ∙ f.up) ∙ ap (λ n. record { place = update_at n; word = (flags_at n f.flagged.from f.list).to }) (sym f.here)
          ∙ ap flag_of (sym f.flagged.entries)

  flag_known : versioned_bit word ≡ 0 → (f : HasFlag world node) → Follows (help_of flag) world f.list
  flag_known clear f = by_does checks.does
    where
      checks : IsFlagger world f.list f.flagged.node f.flagged.from
      checks = shape.flaggers f.list f.flagged

      value : versioned_value word ≡ 4 * f.list.block + flag_state f.list.call.op
      value = up_value world f.list node f.flagged.from f.up checks.small

      is_flag : IsFlag world f.list flag
      is_flag = flag_is clear f

      by_does : Inserts world f.list f.flagged.node f.flagged.from ⊎ Removes world f.list f.flagged.node f.flagged.from → Follows (help_of flag) world f.list
      by_does (inl i) =
          let state : flag_state f.list.call.op ≡ INSERTING = ap (λ b. if b then INSERTING else DELETING) i.set in
          subst (λ h. Follows h world f.list) (sym (help_1 flag (omega (arith, value, state)))) (is_flag, i.set)
      by_does (inr r) =
          let state : flag_state f.list.call.op ≡ DELETING = by_set (is_set f.list.call.op) refl in
          subst (λ h. Follows h world f.list) (sym (help_2 flag (omega (arith, value, state)))) (is_flag, r.rem)
        where
          by_set : (b : Bool) → is_set f.list.call.op ≡ b → (if b then INSERTING else DELETING) ≡ DELETING
          by_set true e = absurd (both_ops f.list.call.op e r.rem)
          by_set false e = refl

  -- a mark, whatever its bit
  mark_known : (m : HasMark world node) → Follows (help_of flag) world m.list
  mark_known m =
      let small = (shape.flaggers m.list m.flagged).small in
      let value = marked_value world m.list node small m.marked in
      subst (λ h. Follows h world m.list) (sym (help_3 flag (omega (arith, value)))) (m.flagged, m.rem, omega (arith, value), (node, record { update = m.update; marked = m.marked }))

  -- what is known of the word that stands there
  pub known_now : IsKnown world node (world.words (update_at node))
  known_now clear = elim (shape.stored node is).state [
    | inl clean ↦ inl clean
    | inr dirty ↦ elim dirty [
      | inl f ↦ inr (f.list, flag_known clear f)
      | inr m ↦ inr (m.list, mark_known m)
    ]
  ]

  -- a word in the state of a mark is a mark
  pub marked_now : state_of (world.words (update_at node)) ≡ MARKED → (list : Listed) × Follows (help_of flag) world list
  marked_now marked = elim (shape.stored node is).state [
    | inl clean ↦ absurd (omega (arith, clean, marked))
    | inr dirty ↦ elim dirty [
      | inl f ↦ absurd (up_alive world f.list node f.flagged.from f.up (shape.flaggers f.list f.flagged).small marked)
      | inr m ↦ (m.list, mark_known m)
    ]
  ]
