-- Each step of a help within a search: it goes on following its list.
use Rattle.std.proofs.Common.{◌≡◌, ◌≢◌, ℕ, ◌+◌, ◌*◌, ◌^◌, ◌<◌, Bool, true, false, not, refl, sym, ap, subst, ◌∙◌, inl, inr, ◌⊎◌, arith}
use Rattle.std.specs.Prelude.{◌==◌, if◌then◌else◌}
use Rattle.std.proofs.lemmas.Bool.{eqb-true, eq-eqb, and_parts}
use Rattle.word_fields.specs.Versioned.{versioned_value, versioned_bit, is_modified}
use Rattle.word_fields.proofs.ChangedWords.{bit_below}
use Rattle.node_arena.specs.MemoryMap.{block_place}
use Rattle.step_memory.specs.declared.steps.Seen.{Seen}
use Rattle.normal_traits.specs.World.{Listed, World}
use Rattle.normal_traits.specs.Steps.{Requested}
use Rattle.normal_traits.specs.Steps.Requested.{loaded}
use Rattle.normal_traits.specs.Laws.{WrappedWell}
use Rattle.normal_traits.specs.declared.form.Wrapped.TheVariants as wrapped
use Rattle.tree_help.specs.declared.states.Flag.{Flag}
use Rattle.tree_help.specs.declared.states.Help.{Help}
use Rattle.tree_help.specs.declared.states.Help.TheVariants as helps
use Rattle.tree_help.specs.declared.states.Helping.{Helping}
use Rattle.tree_help.specs.declared.states.Helping.TheVariants.{Running, Finished}
use Rattle.tree_help.specs.declared.states.HelpInsert.{HelpInsert}
use Rattle.tree_help.specs.declared.states.HelpInsert.TheVariants as insert
use Rattle.tree_help.specs.declared.states.HelpDelete.{HelpDelete}
use Rattle.tree_help.specs.declared.states.HelpDelete.TheVariants as delete
use Rattle.tree_help.specs.declared.states.HelpMark.{HelpMark}
use Rattle.tree_help.specs.declared.states.HelpMark.TheVariants as mark
use Rattle.tree_help.specs.declared.states.TheConstants.{CLEAN, DELETING}
use Rattle.tree_help.specs.Updates.{state_of, note_at, place_in, flag_place}
use Rattle.tree_help.specs.Helps.{Fits, NamesBlock, has_mark, is_flag_of, insert_asked, insert_next, delete_asked, delete_next, mark_asked, mark_fed, help_asked, help_fed}
use Rattle.ellen_tree_form.specs.Words.{child_at, update_at, is_rem}
use Rattle.ellen_tree_form.specs.Shape.{Shape, Flagged, HasFlag, HasMark, is_node}
use Rattle.ellen_tree_form.specs.Knowledge.{Follows, FollowsInsert, FollowsDelete, FollowsMark, IsFlag}
use Rattle.ellen_tree_form.specs.Form.{tree_form}
use Rattle.ellen_tree_form.proofs.Plain.{marked_value}
use Rattle.ellen_tree_form.proofs.Helps.Owners.{up_value}
use Rattle.ellen_tree_form.proofs.Helps.Swings.{removes}
use Rattle.ellen_tree_form.proofs.Helps.WrapFed.{insert_well, delete_well}
use Rattle.ellen_tree_form.proofs.Steps.Later.{Later}
use Rattle.ellen_tree_form.proofs.Steps.Spares.{Spares}
use Rattle.ellen_tree_form.proofs.Helps.FollowedStays.{follows_later}
use Rattle.ellen_tree_steps.proofs.Lists.Waiting.{flag_states}
use Rattle.ellen_tree_search.proofs.Known.{flag_is}

-- the update word of the node that has a child's place
flag_place_is : (node : ℕ) (left : Bool) → node < 2 ^ 17 → flag_place (place_in (child_at node left)) ≡ update_at node
unfolding block_place
flag_place_is node true small = omega (arith, small)
flag_place_is node false small = omega (arith, small)

-- what comes of a look for a flag, by whether it was found
abbrev found_if : Bool → ℕ → ℕ → ℕ → HelpMark × Helping
found_if b block at word = if b then (mark.Deletes (delete.MarkPlace (record { place = at; word = word })), Running) else (mark.FindFlag block at, Finished)

clear_bit : (word : ℕ) → not (is_modified word) ≡ true → versioned_bit word ≡ 0
clear_bit word e = by_test (is_modified word) refl e
  where
    by_test : (b : Bool) → is_modified word ≡ b → not b ≡ true → versioned_bit word ≡ 0
    by_test true is e' = absurd cc
    by_test false is e' = omega (arith, bit_below word, ne is)
      where
        ne : is_modified word ≡ false → versioned_bit word ≢ 1
        ne none same = let yes' : is_modified word ≡ true = eq-eqb (versioned_bit word) 1 same in absurd cc

module _ (world : World) (shape : Shape world) (list : Listed) where
  -- ---- a mark that was met

  -- the flag of the list's block, seen with its bit clear, is that of the list
  found_flag : (block node : ℕ) (flagged : Flagged world list) → flagged.node ≡ node → is_rem list.call.op ≡ true → list.block ≡ block → is_flag_of block (world.words (update_at node)) ≡ true
      → FollowsDelete (delete.MarkPlace (record { place = update_at node; word = world.words (update_at node) })) world list
  found_flag block node flagged here rem block_is is = (by_state (shape.stored node at_node).state, rem)
    where
      at_node : is_node world.changes node ≡ true
      at_node = subst (λ n. is_node world.changes n ≡ true) here (shape.flaggers list flagged).is

      parts : ((versioned_value (world.words (update_at node)) == 4 * block + DELETING) ≡ true) × (not (is_modified (world.words (update_at node))) ≡ true)
      parts = and_parts (versioned_value (world.words (update_at node)) == 4 * block + DELETING) (not (is_modified (world.words (update_at node)))) is

      value : versioned_value (world.words (update_at node)) ≡ 4 * list.block + DELETING
      value = eqb-true (versioned_value (world.words (update_at node))) (4 * block + DELETING) parts.0 ∙ ap (λ b. 4 * b + DELETING) (sym block_is)

      by_state : (state_of (world.words (update_at node)) ≡ CLEAN) ⊎ (HasFlag world node ⊎ HasMark world node) → IsFlag world list (record { place = update_at node; word = world.words (update_at node) })
      by_state (inl clean) = absurd (omega (arith, value, clean))
      by_state (inr (inl h)) =
          let small = (shape.flaggers h.list h.flagged).small in
          let up = up_value world h.list node h.flagged.from h.up small in
          let block' : h.list.block ≡ list.block = elim (flag_states h.list.call.op) [
            | inl ins ↦ omega (arith, up, value, ins)
            | inr del ↦ omega (arith, up, value, del)
          ] in
          let same : h.list ≡ list = shape.same_block h.list list h.flagged flagged block' in
          subst (λ (y : Listed). IsFlag world y (record { place = update_at node; word = world.words (update_at node) })) same (flag_is world shape node at_node (clear_bit (world.words (update_at node)) parts.1) h)
      by_state (inr (inr m)) = absurd (omega (arith, value, marked_value world m.list node (shape.flaggers m.list m.flagged).small m.marked))

  -- what comes of a look for the flag
  find_place : (block : ℕ) (after : World) (seen : Seen) → FollowsMark (mark.FindPlace block) world list → Requested tree_form (mark_asked (mark.FindPlace block)) world after seen → FollowsMark (mark_fed (mark.FindPlace block) seen).0 after list
  find_place block after seen f (loaded at') =
      let flagged = f.0 in
      let r = removes world list shape flagged f.1 in
      let small : flagged.node < 2 ^ 17 = (shape.stored flagged.node (shape.flaggers list flagged).is).small in
      let place : flag_place (place_in (world.words (note_at block 2))) ≡ update_at flagged.node = ap (λ b. flag_place (place_in (world.words (note_at b 2)))) (sym f.2) ∙ ap (λ w. flag_place (place_in w)) r.place ∙ flag_place_is flagged.node r.left small in
      (f.0, f.1, f.2, (flagged, place), f.3)

  find_flag : (block at : ℕ) (after : World) (seen : Seen) → FollowsMark (mark.FindFlag block at) world list → Requested tree_form (mark_asked (mark.FindFlag block at)) world after seen → FollowsMark (mark_fed (mark.FindFlag block at) seen).0 after list
  find_flag block at after seen f (loaded at') = by_test (is_flag_of block (world.words at)) refl
    where
      by_test : (b : Bool) → is_flag_of block (world.words at) ≡ b → FollowsMark (found_if b block at (world.words at)).0 world list
      by_test true e =
          let here : update_at f.3.0.node ≡ at = sym f.3.1 in
          subst (λ p. FollowsDelete (delete.MarkPlace (record { place = p; word = world.words p })) world list) here (found_flag block f.3.0.node f.3.0 refl f.1 f.2 (ap (λ p. is_flag_of block (world.words p)) here ∙ e))
      by_test false e = f

  -- ---- each step

  module _ (after : World) (l : Later world after) (s : Spares world after) where
    insert_follows : (it : HelpInsert) (seen : Seen) → FollowsInsert it world list → Requested tree_form (insert_asked it) world after seen → FollowsInsert (insert_next it seen) after list
    insert_follows (insert.ReadPlace flag) seen f r = (insert_well world shape list 0 (insert.ReadPlace flag) after seen f r).1
    insert_follows (insert.ReadWord flag at) seen f r = (insert_well world shape list 0 (insert.ReadWord flag at) after seen f r).1
    insert_follows (insert.Link flag at from) seen f r = (insert_well world shape list 0 (insert.Link flag at from) after seen f r).1
    insert_follows (insert.Unflag flag) seen f r = follows_later world after shape l s list (helps.Insert (insert.Unflag flag)) f

    -- whether it is the mark that was seen or not
    check_follows : (flag : Flag) (at : ℕ) (seen : Seen) → FollowsDelete (delete.Check flag at) world list → Requested tree_form (delete_asked (delete.Check flag at)) world after seen → FollowsDelete (delete_next (delete.Check flag at) seen) after list
    check_follows flag at seen f r = by_test (has_mark flag seen.before) (delete_well world shape list 0 (delete.Check flag at) after seen f r)
      where
        by_test : (b : Bool) → WrappedWell tree_form after list 0 (helps.Delete (if b then delete.StayPlace flag else delete.Unflag flag false)) wrapped.Going → FollowsDelete (if b then delete.StayPlace flag else delete.Unflag flag false) after list
        by_test true well = well.1
        by_test false well = well.1

    delete_follows : (it : HelpDelete) (seen : Seen) → FollowsDelete it world list → Requested tree_form (delete_asked it) world after seen → FollowsDelete (delete_next it seen) after list
    delete_follows (delete.MarkPlace flag) seen f r = (delete_well world shape list 0 (delete.MarkPlace flag) after seen f r).1
    delete_follows (delete.MarkWord flag at) seen f r = (delete_well world shape list 0 (delete.MarkWord flag at) after seen f r).1
    delete_follows (delete.Mark flag at from) seen f r = (delete_well world shape list 0 (delete.Mark flag at from) after seen f r).1
    delete_follows (delete.Check flag at) seen f r = check_follows flag at seen f r
    delete_follows (delete.StayPlace flag) seen f r = (delete_well world shape list 0 (delete.StayPlace flag) after seen f r).1
    delete_follows (delete.StayWord flag at) seen f r = (delete_well world shape list 0 (delete.StayWord flag at) after seen f r).1
    delete_follows (delete.SwingPlace flag stays) seen f r = (delete_well world shape list 0 (delete.SwingPlace flag stays) after seen f r).1
    delete_follows (delete.SwingWord flag stays at) seen f r = (delete_well world shape list 0 (delete.SwingWord flag stays at) after seen f r).1
    delete_follows (delete.Swing flag stays at from) seen f r = (delete_well world shape list 0 (delete.Swing flag stays at from) after seen f r).1
    delete_follows (delete.Unflag flag made) seen f r = follows_later world after shape l s list (helps.Delete (delete.Unflag flag made)) f

    mark_follows : (it : HelpMark) (seen : Seen) → FollowsMark it world list → Requested tree_form (mark_asked it) world after seen → FollowsMark (mark_fed it seen).0 after list
    mark_follows (mark.FindPlace block) seen f r = find_place block after seen f r
    mark_follows (mark.FindFlag block at) seen f r = find_flag block at after seen f r
    mark_follows (mark.Deletes it) seen f r = delete_follows it seen f r

    pub help_follows : (help : Help) (seen : Seen) → Follows help world list → Requested tree_form (help_asked help) world after seen → Follows (help_fed help seen).0 after list
    help_follows (helps.Insert it) seen f r = insert_follows it seen f r
    help_follows (helps.Delete it) seen f r = delete_follows it seen f r
    help_follows (helps.Mark it) seen f r = mark_follows it seen f r

-- a help that goes on fits
pub help_fits_on : (help : Help) (seen : Seen) → Fits (help_fed help seen).0
help_fits_on (helps.Insert it) seen = tt
help_fits_on (helps.Delete it) seen = tt
help_fits_on (helps.Mark (mark.FindPlace block)) seen = tt
help_fits_on (helps.Mark (mark.FindFlag block at)) seen = by_test (is_flag_of block seen.before)
  where
    by_test : (b : Bool) → NamesBlock (found_if b block at seen.before).0
    by_test true = tt
    by_test false = tt
help_fits_on (helps.Mark (mark.Deletes it)) seen = tt
