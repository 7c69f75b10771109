-- Each allowed step has one of the six effects, and so it keeps the shape.
use Rattle.std.proofs.Common.{◌≡◌, ℕ, ◌+◌, ◌*◌, ◌^◌, ◌<◌, Bool, true, false, [], ◌∷◌, refl, sym, ap, subst, ◌∙◌, inl, inr, arith}
use Rattle.std.specs.Prelude.{slice_get, Some}
use Rattle.std.proofs.lemmas.Bool.{true≢false, cases_eq}
use Rattle.word_fields.specs.Versioned.{cleared_word}
use Rattle.word_fields.proofs.ChangedWords.{changed_below}
use Rattle.lin_report.specs.declared.calls.Op.{Op}
use Rattle.step_memory.specs.declared.steps.Request.TheVariants.{Load}
use Rattle.step_memory.specs.declared.steps.Seen.{Seen}
use Rattle.normal_traits.specs.declared.lists.Entry.{Entry}
use Rattle.normal_traits.specs.World.{Listed, World, is_word, no_root}
use Rattle.normal_traits.specs.Steps.{IsExchanged, IsFresh, IsFilled, IsOffered, Requested, IsStep}
use Rattle.normal_traits.specs.Steps.Requested.{loaded}
use Rattle.normal_traits.specs.Steps.IsStep.{nothing, elsewhere, clears, searches, wraps, first, first_of_block, second}
use Rattle.tree_help.specs.declared.states.Help.{Help}
use Rattle.tree_help.specs.declared.states.Help.TheVariants as helps
use Rattle.tree_help.specs.declared.states.HelpInsert.{HelpInsert}
use Rattle.tree_help.specs.declared.states.HelpInsert.TheVariants as insert
use Rattle.tree_help.specs.declared.states.HelpDelete.{HelpDelete}
use Rattle.tree_help.specs.declared.states.HelpDelete.TheVariants as delete
use Rattle.tree_help.specs.declared.states.HelpMark.{HelpMark}
use Rattle.tree_help.specs.declared.states.HelpMark.TheVariants as mark
use Rattle.tree_help.specs.declared.states.TheConstants.{CLEAN}
use Rattle.tree_help.specs.Updates.{state_of}
use Rattle.tree_help.specs.Helps.{help_asked, insert_asked, delete_asked, mark_asked}
use Rattle.ellen_tree_form.specs.declared.states.TreeSearch.{TreeSearch}
use Rattle.ellen_tree_form.specs.declared.states.TreeSearch.TheVariants.{AtUpdate, AtKey, AtChild, AtLeaf, Again, AtValue, SetReady, RemReady, Helps}
use Rattle.ellen_tree_form.specs.Words.{update_at, is_update, is_set, is_rem}
use Rattle.ellen_tree_form.specs.Search.{Asks, asked, offered}
use Rattle.ellen_tree_form.specs.Shape.{Shape, IsFlagger, flag_state, flags_at}
use Rattle.ellen_tree_form.specs.Knowledge.{Knows, Follows, FollowsInsert, FollowsDelete, FollowsMark}
use Rattle.ellen_tree_form.specs.Form.{tree_form}
use Rattle.ellen_tree_form.proofs.Plain.{both_ops, offered_entries}
use Rattle.ellen_tree_form.proofs.Helps.Wraps.{with_here, with_other, state_below}
use Rattle.ellen_tree_form.proofs.Steps.Later.{Later, later}
use Rattle.ellen_tree_form.proofs.Steps.Spares.{Spares, spares}
use Rattle.ellen_tree_steps.specs.Effects.{Effect}
use Rattle.ellen_tree_steps.specs.Effects.Effect.{quiet, sets, links, marks, swings, ends}
use Rattle.ellen_tree_steps.proofs.Exchanges.{same_quiet, link_effect, swing_effect, mark_effect, end_effect}
use Rattle.ellen_tree_steps.proofs.Lists.Setting.{won_by, cleared_fits, flagger_insert, flagger_remove}
use Rattle.ellen_tree_steps.proofs.Shape.KeptQuiet.{shape_quiet}
use Rattle.ellen_tree_steps.proofs.Shape.KeptSet.{shape_set}
use Rattle.ellen_tree_steps.proofs.Shape.KeptLink.{shape_link}
use Rattle.ellen_tree_steps.proofs.Shape.KeptMark.{shape_mark}
use Rattle.ellen_tree_steps.proofs.Shape.KeptSwing.{shape_swing}
use Rattle.ellen_tree_steps.proofs.Shape.KeptEnd.{shape_end}
use Rattle.client_lemmas.proofs.Entries.{the_entry, no_second}

-- ---- requests

load_effect : (world : World) (at : ℕ) (after : World) (seen : Seen) → Requested tree_form (Load at) world after seen → Effect world after
load_effect world at after seen (loaded place) = quiet (same_quiet world)

module _ (world : World) (shape : Shape world) (list : Listed) where
  insert_effect : (it : HelpInsert) (after : World) (seen : Seen) → FollowsInsert it world list → Requested tree_form (insert_asked it) world after seen → Effect world after
  insert_effect (insert.ReadPlace flag) after seen f r = load_effect world _ after seen r
  insert_effect (insert.ReadWord flag at) after seen f r = load_effect world _ after seen r
  insert_effect (insert.Link flag at from) after seen f r = link_effect world shape list flag at from after seen f r
  insert_effect (insert.Unflag flag) after seen f r = end_effect world shape list flag after seen f.0 (inl f.1) r

  delete_effect : (it : HelpDelete) (after : World) (seen : Seen) → FollowsDelete it world list → Requested tree_form (delete_asked it) world after seen → Effect world after
  delete_effect (delete.MarkPlace flag) after seen f r = load_effect world _ after seen r
  delete_effect (delete.MarkWord flag at) after seen f r = load_effect world _ after seen r
  delete_effect (delete.Mark flag at from) after seen f r = mark_effect world shape list flag at from after seen f r
  delete_effect (delete.Check flag at) after seen f r = load_effect world at after seen r
  delete_effect (delete.StayPlace flag) after seen f r = load_effect world _ after seen r
  delete_effect (delete.StayWord flag at) after seen f r = load_effect world at after seen r
  delete_effect (delete.SwingPlace flag stays) after seen f r = load_effect world _ after seen r
  delete_effect (delete.SwingWord flag stays at) after seen f r = load_effect world _ after seen r
  delete_effect (delete.Swing flag stays at from) after seen f r = swing_effect world shape list flag stays at from after seen f r
  delete_effect (delete.Unflag flag true) after seen f r = end_effect world shape list flag after seen f.0 (inl f.1) r
  delete_effect (delete.Unflag flag false) after seen f r = end_effect world shape list flag after seen f.0 (inr f.1) r

  mark_help_effect : (it : HelpMark) (after : World) (seen : Seen) → FollowsMark it world list → Requested tree_form (mark_asked it) world after seen → Effect world after
  mark_help_effect (mark.FindPlace block) after seen f r = load_effect world _ after seen r
  mark_help_effect (mark.FindFlag block at) after seen f r = load_effect world at after seen r
  mark_help_effect (mark.Deletes it) after seen f r = delete_effect it after seen f r

  help_effect : (help : Help) (after : World) (seen : Seen) → Follows help world list → Requested tree_form (help_asked help) world after seen → Effect world after
  help_effect (helps.Insert it) after seen f r = insert_effect it after seen f r
  help_effect (helps.Delete it) after seen f r = delete_effect it after seen f r
  help_effect (helps.Mark it) after seen f r = mark_help_effect it after seen f r

search_effect : (world : World) (shape : Shape world) (search : TreeSearch) (op : Op) (since : ℕ) (after : World) (seen : Seen) → Asks search → Knows search op world since → Requested tree_form (asked search) world after seen → Effect world after
search_effect world shape (AtUpdate o above node) op since after seen asks knows r = load_effect world _ after seen r
search_effect world shape (AtKey o above node update) op since after seen asks knows r = load_effect world _ after seen r
search_effect world shape (AtChild o above node update key) op since after seen asks knows r = load_effect world _ after seen r
search_effect world shape (AtLeaf o above last) op since after seen asks knows r = load_effect world _ after seen r
search_effect world shape (Again o last is) op since after seen asks knows r = load_effect world _ after seen r
search_effect world shape (AtValue last key) op since after seen asks knows r = load_effect world _ after seen r
search_effect world shape (SetReady last key value) op since after seen asks knows r = absurd asks
search_effect world shape (RemReady above last) op since after seen asks knows r = absurd asks
search_effect world shape (Helps help) op since after seen asks knows r = help_effect world shape knows.learnt.0 help after seen knows.learnt.1 r

-- ---- the setting of a flag

module _ (world : World) (shape : Shape world) (list : Listed) (since : ℕ) (entry : Entry) (word : ℕ) (fresh : IsFresh world list) (some : 0 < list.block) (small : list.block < 2 ^ 17) (unused : world.used list.block ≡ false)
    (listed : slice_get list.entries 0 ≡ Some entry) (stood : world.words entry.target ≡ entry.from) (to : IsExchanged entry word) (l : Later world (won_by world list word entry)) (s : Spares world (won_by world list word entry)) where
  set_by : (node from : ℕ) → list.entries ≡ flags_at node from list ∷ [] → state_of from ≡ CLEAN
      → (world.words (update_at node) ≡ from → cleared_word word ≡ (flags_at node from list).to → Later world (won_by world list word (flags_at node from list)) → Spares world (won_by world list word (flags_at node from list)) → IsFlagger (won_by world list word (flags_at node from list)) list node from)
      → Effect world (won_by world list word entry)
  set_by node from entries clean flagger =
      let same : flags_at node from list ≡ entry = the_entry list.entries entry (flags_at node from list) listed entries in
      let l' = subst (λ (e : Entry). Later world (won_by world list word e)) (sym same) l in
      let s' = subst (λ (e : Entry). Spares world (won_by world list word e)) (sym same) s in
      let stood' : world.words (update_at node) ≡ from = subst (λ (e : Entry). world.words e.target ≡ e.from) (sym same) stood in
      let to' : IsExchanged (flags_at node from list) word = subst (λ (e : Entry). IsExchanged e word) (sym same) to in
      let value_small : 4 * list.block + flag_state list.call.op < 2 ^ 24 = omega (arith, small, state_below list small) in
      let is : IsFlagger (won_by world list word (flags_at node from list)) list node from = flagger stood' to'.to l' s' in
      subst (λ (e : Entry). Effect world (won_by world list word e)) same (sets (record {
        list = list;
        node = node;
        from = from;
        word = word;
        entries = entries;
        fresh = fresh;
        some = some;
        unused = unused;
        stood = stood';
        clean = clean;
        written = to'.to;
        raised = to'.raised;
        fits = cleared_fits word (subst (λ w. w < 2 ^ 64) (sym to'.to) (changed_below from (4 * list.block + flag_state list.call.op) value_small));
        words = λ at. refl;
        changes = refl;
        used = λ block. refl;
        journal = refl;
        is = is;
      }))

  set_effect : (search : TreeSearch) → IsOffered tree_form world list search since → IsFilled world list (offered search list.call.op list.block).stores → Effect world (won_by world list word entry)
  set_effect (SetReady last key value) o filled =
      let set : is_set list.call.op ≡ true = o.knows.learnt.1 in
      set_by last.node last.update (o.entries ∙ one set) o.knows.learnt.2.clean
      (λ stood' written l' s'. flagger_insert world shape list last.node last.update word l' s' o.knows.learnt.0.passed.is unused stood' written last key value since o.command o.knows refl refl filled some small)
    where
      one : is_set list.call.op ≡ true → (offered (SetReady last key value) list.call.op list.block).entries ≡ flags_at last.node last.update list ∷ []
      one set = rw set refl
  set_effect (RemReady above last) o filled =
      let rem : is_rem list.call.op ≡ true = o.knows.learnt.1 in
      set_by above.node above.update (o.entries ∙ one (unset (is_set list.call.op) refl rem) rem) o.knows.learnt.3.clean
      (λ stood' written l' s'. flagger_remove world shape list above.node above.update word l' s' o.knows.learnt.2.0.is unused stood' written above last since o.command o.knows refl refl filled some small)
    where
      unset : (b : Bool) → is_set list.call.op ≡ b → is_rem list.call.op ≡ true → is_set list.call.op ≡ false
      unset true e rem = absurd (both_ops list.call.op e rem)
      unset false e rem = e

      one : is_set list.call.op ≡ false → is_rem list.call.op ≡ true → (offered (RemReady above last) list.call.op list.block).entries ≡ flags_at above.node above.update list ∷ []
      one set rem = rw (set, rem) refl
  set_effect (AtUpdate o' above node) o filled = absurd o.ready
  set_effect (AtKey o' above node update) o filled = absurd o.ready
  set_effect (AtChild o' above node update key) o filled = absurd o.ready
  set_effect (AtLeaf o' above last) o filled = absurd o.ready
  set_effect (Again o' last is) o filled = absurd o.ready
  set_effect (AtValue last key) o filled = absurd o.ready
  set_effect (Helps help) o filled = absurd o.ready

-- ---- every step

pub effect_of : (world after : World) → Shape world → IsStep tree_form world after → Effect world after
effect_of world after shape nothing = quiet (same_quiet world)
effect_of world after shape (elsewhere place word outside) = quiet (record {
  words = λ at is. inl (with_other place word world.words at (λ e. true≢false (sym is ∙ ap (is_word no_root world) e ∙ outside)));
  changes = refl;
  used = λ block. refl;
  journal = refl;
})
effect_of world after shape (clears place inside versioned listable) = quiet (record {
  words = λ at is. elim (cases_eq at place) [
    | inl same ↦ inr (ap is_update same ∙ listable, with_here place (cleared_word (world.words place)) world.words at same ∙ ap (λ p. cleared_word (world.words p)) (sym same))
    | inr apart ↦ inl (with_other place (cleared_word (world.words place)) world.words at apart)
  ];
  changes = refl;
  used = λ block. refl;
  journal = refl;
})
effect_of world after shape (searches {seen = seen} search op since command asks knows requested) = search_effect world shape search op since after seen asks knows requested
effect_of world after shape (wraps {seen = seen} help list stop command fits follows requested) = help_effect world shape list help after seen follows requested
effect_of world after shape (first list search since entry word offered' fresh none needs listed stood to) = absurd (true≢false (sym (offered_entries world list search since offered').3 ∙ needs))
effect_of world after shape (first_of_block list search since entry word offered' fresh some unused filled listed stood to) =
    let step : IsStep tree_form world after = first_of_block list search since entry word offered' fresh some unused filled listed stood to in
    set_effect world shape list since entry word fresh some offered'.small unused listed stood to (later world after shape step) (spares world after shape step) search offered' filled
effect_of world after shape (second list search since entry word offered' took untook listed stood to) = absurd (no_second list.entries _ entry (offered_entries world list search since offered').2 listed)

kept_by : (world after : World) → Shape world → Later world after → Spares world after → Effect world after → Shape after
kept_by world after shape l s (quiet x) = shape_quiet world after shape l s x
kept_by world after shape l s (sets x) = shape_set world after shape l s x
kept_by world after shape l s (links x) = shape_link world after shape l s x
kept_by world after shape l s (marks x) = shape_mark world after shape l s x
kept_by world after shape l s (swings x) = shape_swing world after shape l s x
kept_by world after shape l s (ends x) = shape_end world after shape l s x

pub shape_kept : (world after : World) → Shape world → IsStep tree_form world after → Shape after
shape_kept world after shape step = kept_by world after shape (later world after shape step) (spares world after shape step) (effect_of world after shape step)
