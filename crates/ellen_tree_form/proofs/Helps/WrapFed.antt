-- Each step of a wrap-up: it goes on following its list, or its end is right.
use Rattle.std.proofs.Common.{◌≡◌, ◌≢◌, ℕ, ◌^◌, ◌<◌, true, not, sym, ap, subst, ◌∙◌, inl, inr, ◌⊎◌, arith}
use Rattle.std.specs.Prelude.{if◌then◌else◌}
use Rattle.std.proofs.lemmas.Bool.{eq-eqb}
use Rattle.word_fields.specs.Versioned.{versioned_value}
use Rattle.lin_report.specs.declared.calls.Reply.TheVariants.{Yes}
use Rattle.node_arena.specs.MemoryMap.{block_place}
use Rattle.step_memory.specs.declared.steps.Seen.{Seen}
use Rattle.normal_traits.specs.World.{Listed, World}
use Rattle.normal_traits.specs.Steps.{Requested}
use Rattle.normal_traits.specs.Steps.Requested.{loaded, lost, won}
use Rattle.normal_traits.specs.Laws.{WrappedWell}
use Rattle.tree_help.specs.declared.states.Flag.{Flag}
use Rattle.tree_help.specs.declared.states.Help.{Help}
use Rattle.tree_help.specs.declared.states.Help.TheVariants as helps
use Rattle.tree_help.specs.declared.states.HelpInsert.{HelpInsert}
use Rattle.tree_help.specs.declared.states.HelpInsert.TheVariants as insert
use Rattle.tree_help.specs.declared.states.HelpDelete.{HelpDelete}
use Rattle.tree_help.specs.declared.states.HelpDelete.TheVariants as delete
use Rattle.tree_help.specs.declared.states.TheConstants.{MARKED}
use Rattle.tree_help.specs.Updates.{note_at, place_in, updated}
use Rattle.tree_help.specs.Helps.{flag_block, help_asked, help_fed, insert_asked, delete_asked}
use Rattle.ellen_tree_form.specs.Words.{child_at, child_field, update_at, is_rem}
use Rattle.ellen_tree_form.specs.Search.{wrapped_by, WrapsUp}
use Rattle.ellen_tree_form.specs.Shape.{Shape, Flagged, Removes, RemoveStands, Changed, IsMarked, IsGivenUp, noted, is_left}
use Rattle.ellen_tree_form.specs.Knowledge.{Follows, FollowsInsert, FollowsDelete, IsFlag, IsTried}
use Rattle.ellen_tree_form.specs.Form.{tree_form}
use Rattle.ellen_tree_form.proofs.Plain.{update_same, both_ops}
use Rattle.ellen_tree_form.proofs.Order.SwingWays.{field_small}
use Rattle.ellen_tree_form.proofs.Helps.Wraps.{own_block, checking_fed, unflag_fed}
use Rattle.ellen_tree_form.proofs.Helps.Swings.{removes, swing_fed}
use Rattle.ellen_tree_form.proofs.Helps.Links.{link_fed}
use Rattle.ellen_tree_form.proofs.Asks.{inserts, delete_asks}
use Rattle.ellen_tree_form.proofs.Steps.Turns.{delete_fair}
use Rattle.ellen_tree_form.proofs.Steps.Later.{requested_later}
use Rattle.ellen_tree_form.proofs.Steps.Spares.{requested_spares}
use Rattle.ellen_tree_form.proofs.Helps.FollowedStays.{delete_later}

-- places of nodes are below the limit to which words are cut
place_is : (node field : ℕ) → node < 2 ^ 17 → field < 32 → place_in (block_place node field) ≡ block_place node field
unfolding block_place
place_is node field small low = omega (arith, small, low)

module _ (world : World) (shape : Shape world) (list : Listed) (stop : ℕ) where
  abbrev pub IsWell : World → Help → Seen → Type 0
  IsWell after help seen = WrappedWell tree_form after list stop (help_fed help seen).0 (wrapped_by (help_fed help seen).1)

  note_is : (flag : Flag) (note : ℕ) → IsFlag world list flag → world.words (note_at (flag_block flag) note) ≡ noted world list note
  note_is flag note is = ap (λ b. world.words (note_at b note)) (own_block world list flag shape is)

  -- a note that is the place of a node's field
  noted_place : (flag : Flag) (note node field : ℕ) → IsFlag world list flag → noted world list note ≡ block_place node field → node < 2 ^ 17 → field < 32 → place_in (world.words (note_at (flag_block flag) note)) ≡ noted world list note
  noted_place flag note node field is place small low = ap place_in (note_is flag note is ∙ place) ∙ place_is node field small low ∙ sym place

  node_small : (flagged : Flagged world list) → flagged.node < 2 ^ 17
  node_small flagged = (shape.stored flagged.node (shape.flaggers list flagged).is).small

  gone_small : (flagged : Flagged world list) (rem : is_rem list.call.op ≡ true) → (removes world list shape flagged rem).gone < 2 ^ 17
  gone_small flagged rem = (shape.stored (removes world list shape flagged rem).gone (removes world list shape flagged rem).is).small

  pub insert_well : (it : HelpInsert) (after : World) (seen : Seen) → FollowsInsert it world list → Requested tree_form (insert_asked it) world after seen → IsWell after (helps.Insert it) seen
  insert_well (insert.ReadPlace flag) after seen f (loaded at') =
      let i = inserts world shape list f.0.flagged f.1 in
      (tt, ((f.0, f.1), noted_place flag 0 f.0.flagged.node (child_field i.left) f.0 i.place (node_small f.0.flagged) (field_small i.left)))
  insert_well (insert.ReadWord flag at) after seen f (loaded at') = (tt, (f.0, f.1, note_is flag 1 f.0.0))
  insert_well (insert.Link flag at from) after seen f r = (tt, link_fed world list flag at from after seen shape f r)
  insert_well (insert.Unflag flag) after seen f r = unflag_fed world list stop shape flag true after seen f r

  -- a mark that lost finds the node marked, or past the note
  lost_mark : (flagged : Flagged world list) (rem : is_rem list.call.op ≡ true) (at : ℕ) → at ≡ noted world list 0 → world.words at ≢ noted world list 1 → IsTried world list
  lost_mark flagged rem at place differs =
      let r = removes world list shape flagged rem in
      (r.gone, r.update, by_fate r r.fate)
    where
      by_fate : (r : Removes world list flagged.node flagged.from)
          → (RemoveStands world list flagged.node flagged.from r.left r.gone × (world.words (update_at r.gone) ≡ noted world list 1)) ⊎ ((RemoveStands world list flagged.node flagged.from r.left r.gone × IsMarked world list r.gone) ⊎ (Changed world list ⊎ IsGivenUp world list r.gone))
          → IsMarked world list r.gone ⊎ IsGivenUp world list r.gone
      by_fate r (inl waits) = absurd (differs (ap world.words (place ∙ r.update) ∙ waits.1))
      by_fate r (inr (inl marks)) = inl marks.1
      by_fate r (inr (inr (inl changed))) = elim (shape.made (record { list = list; reply = Yes }) changed) [
        | inl set ↦ absurd (both_ops list.call.op set.0 rem)
        | inr made ↦ inl (subst (IsMarked world list) (update_same made.2.0 r.gone (sym made.2.1 ∙ r.update)) made.2.2)
      ]
      by_fate r (inr (inr (inr given))) = inr given

  mark_well : (flag : Flag) (at from : ℕ) (after : World) (seen : Seen) → FollowsDelete (delete.Mark flag at from) world list → Requested tree_form (delete_asked (delete.Mark flag at from)) world after seen → IsWell after (helps.Delete (delete.Mark flag at from)) seen
  mark_well flag at from after seen f (lost at' from' to' differs) = (tt, (f.0, f.1, lost_mark f.0.0.flagged f.0.1 at f.1 (λ e. differs (e ∙ sym f.2))))
  mark_well flag at from after seen f (won at' from' to' stood raised) =
      let request = delete_asked (delete.Mark flag at from) in
      let r = removes world list shape f.0.0.flagged f.0.1 in
      let l = requested_later world _ _ request (delete_asks world shape list (delete.Mark flag at from) f) (won at' from' to' stood raised) in
      let s = requested_spares world _ _ request (delete_fair world shape list (delete.Mark flag at from) f) (won at' from' to' stood raised) in
      let g = delete_later world _ shape l s list (delete.Mark flag at from) f in (
        tt,
        (
          g.0,
          g.1,
          (
            r.gone,
            sym g.1 ∙ f.1 ∙ r.update,
            inl (
                ap (λ b. if b then updated from (flag_block flag) MARKED else world.words (update_at r.gone)) (eq-eqb (update_at r.gone) at (sym (f.1 ∙ r.update)))
                ∙ ap (λ b. updated from b MARKED) (own_block world list flag shape f.0.0) ∙ ap (λ w. updated w list.block MARKED) g.2
                ),
          ),
        ),
      )

  pub delete_well : (it : HelpDelete) (after : World) (seen : Seen) → FollowsDelete it world list → Requested tree_form (delete_asked it) world after seen → IsWell after (helps.Delete it) seen
  delete_well (delete.MarkPlace flag) after seen f (loaded at') =
      let r = removes world list shape f.0.flagged f.1 in
      (tt, ((f.0, f.1), noted_place flag 0 r.gone 21 f.0 r.update (gone_small f.0.flagged f.1) (omega arith)))
  delete_well (delete.MarkWord flag at) after seen f (loaded at') = (tt, (f.0, f.1, note_is flag 1 f.0.0))
  delete_well (delete.Mark flag at from) after seen f r = mark_well flag at from after seen f r
  delete_well (delete.Check flag at) after seen f r = checking_fed world list stop shape flag at after seen f r
  delete_well (delete.StayPlace flag) after seen f (loaded at') =
      let r = removes world list shape f.0.0.flagged f.0.1 in
      (tt, (f.0, noted_place flag 4 r.gone (child_field (not (is_left world.words list.call.op.key r.gone))) f.0.0 r.stays (gone_small f.0.0.flagged f.0.1) (field_small _), f.1))
  delete_well (delete.StayWord flag at) after seen f (loaded at') =
      let r = removes world list shape f.0.0.flagged f.0.1 in
      let same : r.gone ≡ f.2.0 = update_same r.gone f.2.0 (sym r.update ∙ f.2.1.update) in
      (tt, (f.0, (f.2.0, record { marked = f.2.1; child = ap (λ p. versioned_value (world.words p)) (f.1 ∙ r.stays) ∙ ap (λ g. versioned_value (world.words (child_at g (not (is_left world.words list.call.op.key g))))) same })))
  delete_well (delete.SwingPlace flag stays) after seen f (loaded at') =
      let r = removes world list shape f.0.0.flagged f.0.1 in
      (tt, (f.0, noted_place flag 2 f.0.0.flagged.node (child_field r.left) f.0.0 r.place (node_small f.0.0.flagged) (field_small r.left), f.1))
  delete_well (delete.SwingWord flag stays at) after seen f (loaded at') = (tt, (f.0, f.1, note_is flag 3 f.0.0, f.2))
  delete_well (delete.Swing flag stays at from) after seen f r = (tt, swing_fed world list flag stays at from after seen shape f r)
  delete_well (delete.Unflag flag made) after seen f r = unflag_fed world list stop shape flag made after seen f r

  pub wrap_fed : (help : Help) (after : World) (seen : Seen) → WrapsUp help → Follows help world list → Requested tree_form (help_asked help) world after seen → IsWell after help seen
  wrap_fed (helps.Insert it) after seen wraps f r = insert_well it after seen f r
  wrap_fed (helps.Delete it) after seen wraps f r = delete_well it after seen f r
  wrap_fed (helps.Mark it) after seen wraps f r = absurd wraps
