-- The wrap-up of a list: how it begins, and how a removal that can't set its mark any more is given up.
use Rattle.std.proofs.Common.{◌≡◌, ◌≢◌, ℕ, zero, suc, ◌+◌, ◌*◌, ◌^◌, ◌<◌, Bool, true, false, ◌||◌, ◌&&◌, List, [], ◌∷◌, length, Option, refl, sym, ap, subst, ◌∙◌, inl, inr, ◌⊎◌, arith}
use Rattle.std.specs.Prelude.{◌==◌, if◌then◌else◌, None}
use Rattle.std.proofs.lemmas.Bool.{eqb-true, eq-eqb, ne_eqb, cases_eq}
use Rattle.word_fields.specs.Versioned.{versioned_value, versioned_version}
use Rattle.word_fields.proofs.ChangedWords.{value-changed}
use Rattle.lin_report.specs.declared.calls.Reply.TheVariants.{Yes, Done}
use Rattle.lin_report.specs.declared.calls.Outcome.TheVariants.{Plain}
use Rattle.step_memory.specs.declared.steps.Seen.{Seen}
use Rattle.normal_traits.specs.declared.form.Wrapped.TheVariants as wrapped
use Rattle.normal_traits.specs.declared.lists.Entry.{Entry}
use Rattle.normal_traits.specs.World.{Listed, Won, World, Among, Failed, Stopped}
use Rattle.normal_traits.specs.Steps.{IsOffered, Requested, with_word, with_change}
use Rattle.normal_traits.specs.Steps.Requested.{loaded, lost, won}
use Rattle.normal_traits.specs.Laws.{WrappedWell}
use Rattle.tree_help.specs.declared.states.TheConstants.{CLEAN, INSERTING, DELETING, MARKED}
use Rattle.tree_help.specs.Updates.{state_of, block_of, updated, note_at}
use Rattle.ellen_tree_form.specs.Words.{update_at, is_set, is_rem, may_list, is_child}
use Rattle.tree_help.specs.declared.states.Flag.{Flag}
use Rattle.tree_help.specs.Helps.{help_asked, help_fed, flag_block}
use Rattle.tree_help.specs.declared.states.Help.TheVariants as helps
use Rattle.tree_help.specs.declared.states.HelpInsert.TheVariants as insert
use Rattle.tree_help.specs.declared.states.HelpDelete.TheVariants as delete
use Rattle.ellen_tree_form.specs.declared.states.TreeSearch.{TreeSearch}
use Rattle.ellen_tree_form.specs.Search.{flag_of, begin_wrap_of, wrap_begun_of, wrapped_by, flags}
use Rattle.ellen_tree_form.specs.Shape.{Shape, Flagged, flags_at, flag_state, Changed, IsGone, IsMarked, IsGivenUp, noted, adds_beside}
use Rattle.ellen_tree_form.specs.Knowledge.{Dead, Follows, IsFlag, IsTried}
use Rattle.ellen_tree_form.specs.Form.{tree_form}
use Rattle.normal_traits.specs.World.{Change}
use Rattle.node_arena.specs.MemoryMap.{field_at}
use Rattle.node_arena.specs.declared.places.TheConstants.{FIRST_WORDS}
use Rattle.std.specs.Prelude.{nat_le}
use Rattle.ellen_tree_form.proofs.Helps.Journal.{took_of, flagged_of}
use Rattle.node_arena.proofs.PlacesApart.{field_at-block_place, same_field}
use Rattle.ellen_tree_form.proofs.Plain.{offered_entries, offered_used}
use Rattle.client_lemmas.proofs.Entries.{the_entry}

-- ---- the flag's word

module _ (list : Listed) (small : list.block < 2 ^ 17) where
  pub state_below : flag_state list.call.op < 4
  state_below = by_op (is_set list.call.op)
    where
      by_op : (b : Bool) → (if b then INSERTING else DELETING) < 4
      by_op true = omega arith
      by_op false = omega arith

  pub flag_value : (node from : ℕ) → versioned_value (flags_at node from list).to ≡ 4 * list.block + flag_state list.call.op
  flag_value node from = value-changed from (4 * list.block + flag_state list.call.op) (omega (arith, small, state_below))

  pub flag_state_is : (node from : ℕ) → state_of (flags_at node from list).to ≡ flag_state list.call.op
  flag_state_is node from = omega (arith, flag_value node from, state_below)

  pub flag_block_is : (node from : ℕ) → block_of (flags_at node from list).to ≡ list.block
  flag_block_is node from = omega (arith, flag_value node from, state_below)

-- of the flag that a list set
pub own_block : (world : World) (list : Listed) (flag : Flag) → Shape world → IsFlag world list flag → flag_block flag ≡ list.block
own_block world list flag shape is =
    ap (λ (f : Flag). block_of f.word) (is.own ∙ ap flag_of is.flagged.entries) ∙ flag_block_is list (shape.flaggers list is.flagged).small is.flagged.node is.flagged.from

-- ---- its beginning

begun_at : (world : World) (list : Listed) (node from stop : ℕ) → list.block < 2 ^ 17 → world.used node ≡ true → may_list list.call.op ≡ true → list.entries ≡ flags_at node from list ∷ [] → Stopped world list stop
    → (0 < stop → Flagged world list) → WrappedWell tree_form world list stop (begin_wrap_of list.call.op list.entries stop) (wrap_begun_of list.call.op list.entries stop)
begun_at world list node from stop small used may entries stopped took = by_stop (stop == 0) refl
  where
    lost_now : stop ≡ 0 → Dead list world
    lost_now none =
        let failed : Failed world list 0 = subst (Failed world list) none (stopped.failed (omega (arith, none, ap length entries))) in
        record {
          entry = flags_at node from list;
          entries = entries;
          fate = inl (
            subst (λ (e : Entry). versioned_version e.from < versioned_version (world.words e.target))
                (sym (the_entry list.entries failed.entry (flags_at node from list) failed.listed entries)) failed.passed,
            λ flagged. failed.lost (took_of world list flagged),
            (node, refl, used),
          );
        }

    state : state_of (flag_of list.entries).word ≡ flag_state list.call.op
    state = ap (λ (es : List Entry). state_of (flag_of es).word) entries ∙ flag_state_is list small node from

    -- its flag is one of its operation
    by_op : (s r : Bool) → is_set list.call.op ≡ s → is_rem list.call.op ≡ r → (s || r) ≡ true → Flagged world list → state_of (flag_of list.entries).word ≡ (if s then INSERTING else DELETING)
        → WrappedWell tree_form world list stop (if s then (helps.Insert (insert.ReadPlace (flag_of list.entries))) else (helps.Delete (delete.MarkPlace (flag_of list.entries))))
        (if (s && (state_of (flag_of list.entries).word == INSERTING)) || (r && (state_of (flag_of list.entries).word == DELETING)) then wrapped.Going else wrapped.Done (Plain Done))
    by_op true r es er some flagged is =
        subst (λ b. WrappedWell tree_form world list stop (helps.Insert (insert.ReadPlace (flag_of list.entries))) (if b || (r && (state_of (flag_of list.entries).word == DELETING)) then wrapped.Going else wrapped.Done (Plain Done)))
        (sym (eq-eqb (state_of (flag_of list.entries).word) INSERTING is)) (tt, ((record { flagged = flagged; own = refl }, es)))
    by_op false true es er some flagged is =
        subst (λ b. WrappedWell tree_form world list stop (helps.Delete (delete.MarkPlace (flag_of list.entries))) (if b then wrapped.Going else wrapped.Done (Plain Done)))
        (sym (eq-eqb (state_of (flag_of list.entries).word) DELETING is)) (tt, ((record { flagged = flagged; own = refl }, er)))
    by_op false false es er some flagged is = absurd cc

    by_stop : (b : Bool) → (stop == 0) ≡ b
        → WrappedWell tree_form world list stop (if is_set list.call.op then (helps.Insert (insert.ReadPlace (flag_of list.entries))) else (helps.Delete (delete.MarkPlace (flag_of list.entries))))
        (if may_list list.call.op && (stop == 0) then wrapped.Restart
        else (if flags list.call.op list.entries then wrapped.Going else wrapped.Done (Plain Done)))
    by_stop true none = rw (may, none) (lost_now (eqb-true stop 0 none))
    by_stop false some = rw (may, some) (by_op (is_set list.call.op) (is_rem list.call.op) refl refl may (took (positive stop some)) state)
      where
        positive : (n : ℕ) → (n == 0) ≡ false → 0 < n
        positive zero e = absurd cc
        positive (suc n) e = omega arith

pub wrap_begun : (world : World) (list : Listed) (search : TreeSearch) (since stop : ℕ) → Shape world → IsOffered tree_form world list search since → Stopped world list stop
    → WrappedWell tree_form world list stop (begin_wrap_of list.call.op list.entries stop) (wrap_begun_of list.call.op list.entries stop)
wrap_begun world list search since stop shape offered stopped =
    let first = offered_entries world list search since offered in
    begun_at world list first.0 first.1 stop offered.small (offered_used world list search since shape offered) first.3 first.2 stopped (λ some. flagged_of world list 0 shape (stopped.took 0 some))

-- ---- the mark is looked at, and the flag is taken away

module _ (world : World) (list : Listed) (stop : ℕ) (shape : Shape world) where
  after_check : (flag : Flag) (at : ℕ) → Follows (helps.Delete (delete.Check flag at)) world list → (seen : Seen) → seen.before ≡ world.words at
      → WrappedWell tree_form world list stop (help_fed (helps.Delete (delete.Check flag at)) seen).0 (wrapped_by (help_fed (helps.Delete (delete.Check flag at)) seen).1)
  after_check flag at follows seen saw = by_fate follows.2.2
    where
      tried : IsTried world list
      tried = follows.2

      own : flag_block flag ≡ list.block
      own = own_block world list flag shape follows.0.0

      here : world.words at ≡ world.words (update_at tried.0)
      here = ap world.words (follows.1 ∙ tried.1)

      small : list.block < 2 ^ 17
      small = (shape.flaggers list follows.0.0.flagged).small

      by_fate : IsMarked world list tried.0 ⊎ IsGivenUp world list tried.0 → WrappedWell tree_form world list stop (help_fed (helps.Delete (delete.Check flag at)) seen).0 (wrapped_by (help_fed (helps.Delete (delete.Check flag at)) seen).1)
      by_fate (inl marked) =
          let yes : (versioned_value seen.before == 4 * flag_block flag + MARKED) ≡ true =
          eq-eqb (versioned_value seen.before) (4 * flag_block flag + MARKED) (ap versioned_value (saw ∙ here ∙ marked) ∙ value-changed (noted world list 1) (4 * list.block + MARKED) (omega (arith, small)) ∙ ap (λ b. 4 * b + MARKED) (sym own)) in
          rw yes (tt, (follows.0, (tried.0, record { update = tried.1; marked = marked })))
      by_fate (inr given) =
          let no : (versioned_value seen.before == 4 * flag_block flag + MARKED) ≡ false =
          ne_eqb (versioned_value seen.before) (4 * flag_block flag + MARKED) (λ e. given.unmarked (ap versioned_value (sym (saw ∙ here)) ∙ e ∙ ap (λ b. 4 * b + MARKED) own)) in
          rw no (tt, (follows.0.0, (follows.0.1, (tried.0, tried.1, given))))

  -- a load leaves the world
  pub checking_fed : (flag : Flag) (at : ℕ) (after : World) (seen : Seen) → Follows (helps.Delete (delete.Check flag at)) world list → Requested tree_form (help_asked (helps.Delete (delete.Check flag at))) world after seen
      → WrappedWell tree_form after list stop (help_fed (helps.Delete (delete.Check flag at)) seen).0 (wrapped_by (help_fed (helps.Delete (delete.Check flag at)) seen).1)
  checking_fed flag at after seen follows (loaded at') = after_check flag at follows (record { before = world.words at; won = true }) refl

-- ---- the flag's end

pub with_here : (place word : ℕ) (words : ℕ → ℕ) (at : ℕ) → at ≡ place → with_word place word words at ≡ word
with_here place word words at same = ap (λ b. if b then word else words at) (eq-eqb at place same)

pub with_other : (place word : ℕ) (words : ℕ → ℕ) (at : ℕ) → at ≢ place → with_word place word words at ≡ words at
with_other place word words at differs = ap (λ b. if b then word else words at) (ne_eqb at place differs)

and_off : (b : Bool) → (b && (false || false)) ≡ false
and_off true = refl
and_off false = refl

pub no_child : (node : ℕ) → is_child (update_at node) ≡ false
no_child node =
    let field : field_at (update_at node) ≡ 21 = field_at-block_place node 21 (omega arith) in
    rw field (and_off (nat_le FIRST_WORDS (update_at node)))

-- an exchange of an update word beside the lists leaves the changes and the lists, and each note
module _ (world after : World) (list : Listed) (node from to : ℕ) (words : (at : ℕ) → after.words at ≡ with_word (update_at node) to world.words at)
    (changes : after.changes ≡ world.changes) (grows : (item : Won) → Among item world.journal → Among item after.journal) where
  pub flagged_still : Flagged world list → Flagged after list
  flagged_still flagged = record { node = flagged.node; from = flagged.from; entries = flagged.entries; won = grows _ flagged.won }

  pub changed_still : Changed world list → Changed after list
  changed_still changed = subst (λ (cs : List Change). Among (record { list = list; reply = Yes }) cs) (sym changes) changed

  noted_still : (note : ℕ) → note < 5 → noted after list note ≡ noted world list note
  noted_still note small = words (note_at list.block note) ∙ with_other (update_at node) to world.words (note_at list.block note) (λ e. absurd (omega (arith, small, same_field list.block (27 + note) node 21 (omega (arith, small)) (omega arith) e)))

  -- what was given up stays so where the word that is written isn't the list's mark
  pub gone_still : world.words (update_at node) ≡ from → versioned_version to ≡ versioned_version from + 1 → versioned_value to ≢ 4 * list.block + MARKED → IsGone world list → IsGone after list
  gone_still stood raised unmarked gone = (gone.0, (gone.1.0, noted_still 0 (omega arith) ∙ gone.1.1, given (cases_eq (update_at gone.1.0) (update_at node))))
    where
      given : (update_at gone.1.0 ≡ update_at node) ⊎ (update_at gone.1.0 ≢ update_at node) → IsGivenUp after list gone.1.0
      given (inl same) =
          let here : after.words (update_at gone.1.0) ≡ to = words (update_at gone.1.0) ∙ with_here (update_at node) to world.words (update_at gone.1.0) same in
          record {
            passed = omega (arith, gone.1.2.passed, ap versioned_version here, raised, ap versioned_version (sym stood), ap (λ at. versioned_version (world.words at)) same, ap versioned_version (noted_still 1 (omega arith)));
            unmarked = λ e. unmarked (ap versioned_value (sym here) ∙ e);
          }
      given (inr other) =
          let here : after.words (update_at gone.1.0) ≡ world.words (update_at gone.1.0) = words (update_at gone.1.0) ∙ with_other (update_at node) to world.words (update_at gone.1.0) other in
          record {
            passed = omega (arith, gone.1.2.passed, ap versioned_version here, ap versioned_version (noted_still 1 (omega arith)));
            unmarked = λ e. gone.1.2.unmarked (ap versioned_value (sym here) ∙ e);
          }

module _ (world : World) (list : Listed) (stop : ℕ) (shape : Shape world) (flag : Flag) where
  ended_well : (made : Bool) (after : World) (seen : Seen) → Follows (helps.Delete (delete.Unflag flag made)) after list → WrappedWell tree_form after list stop (help_fed (helps.Delete (delete.Unflag flag made)) seen).0 (wrapped_by (help_fed (helps.Delete (delete.Unflag flag made)) seen).1)
  ended_well true after seen follows = (record { reply = Yes; change = follows.1; told = refl }, tt)
  ended_well false after seen follows = record {
    entry = flags_at follows.0.flagged.node follows.0.flagged.from list;
    entries = follows.0.flagged.entries;
    fate = inr (follows.0.flagged, follows.1);
  }

  -- the word of the flag's end has the list's block, and isn't a mark
  not_mark : IsFlag world list flag → versioned_value (updated flag.word (flag_block flag) CLEAN) ≢ 4 * list.block + MARKED
  not_mark is e =
      let own : flag_block flag ≡ list.block = own_block world list flag shape is in
      let small : list.block < 2 ^ 17 = (shape.flaggers list is.flagged).small in
      omega (arith, e, own, small, value-changed flag.word (4 * flag_block flag + CLEAN) (omega (arith, own, small)))

  place_is : IsFlag world list flag → (node : ℕ) × (flag.place ≡ update_at node)
  place_is is = (is.flagged.node, ap (λ (f : Flag). f.place) (is.own ∙ ap flag_of is.flagged.entries))

  follows_still : (made : Bool) (after : World) (node : ℕ) → ((at : ℕ) → after.words at ≡ with_word (update_at node) (updated flag.word (flag_block flag) CLEAN) world.words at) → after.changes ≡ world.changes
      → ((item : Won) → Among item world.journal → Among item after.journal) → world.words (update_at node) ≡ flag.word → versioned_version (updated flag.word (flag_block flag) CLEAN) ≡ versioned_version flag.word + 1
      → Follows (helps.Delete (delete.Unflag flag made)) world list → Follows (helps.Delete (delete.Unflag flag made)) after list
  follows_still true after node words changes grows stood raised follows =
      (record { flagged = flagged_still world after list node flag.word (updated flag.word (flag_block flag) CLEAN) words changes grows follows.0.flagged; own = follows.0.own }, changed_still world after list node flag.word (updated flag.word (flag_block flag) CLEAN) words changes grows follows.1)
  follows_still false after node words changes grows stood raised follows = (
    record { flagged = flagged_still world after list node flag.word (updated flag.word (flag_block flag) CLEAN) words changes grows follows.0.flagged; own = follows.0.own },
    gone_still world after list node flag.word (updated flag.word (flag_block flag) CLEAN) words changes grows stood raised (not_mark follows.0) follows.1,
  )

  flag_in : (made : Bool) → Follows (helps.Delete (delete.Unflag flag made)) world list → IsFlag world list flag
  flag_in true follows = follows.0
  flag_in false follows = follows.0

  -- the last step of a wrap-up: done where the change was made, again where it was given up
  pub unflag_fed : (made : Bool) (after : World) (seen : Seen) → Follows (helps.Delete (delete.Unflag flag made)) world list → Requested tree_form (help_asked (helps.Delete (delete.Unflag flag made))) world after seen
      → WrappedWell tree_form after list stop (help_fed (helps.Delete (delete.Unflag flag made)) seen).0 (wrapped_by (help_fed (helps.Delete (delete.Unflag flag made)) seen).1)
  unflag_fed made after seen follows (lost at from to differs) = ended_well made world (record { before = world.words flag.place; won = false }) follows
  unflag_fed made after seen follows (won at from to stood raised) =
      let place = place_is (flag_in made follows) in
      let none : adds_beside world (record { target = flag.place; from = flag.word; to = updated flag.word (flag_block flag) CLEAN }) ≡ None = rw (place.1, no_child place.0) refl in
      ended_well made _ (record { before = flag.word; won = true })
      (follows_still made _ place.0 (λ at'. ap (λ p. with_word p (updated flag.word (flag_block flag) CLEAN) world.words at') place.1) (ap (λ (o : Option Listed). with_change tree_form.object o world.changes) none) (λ item among. inr among) (ap world.words (sym place.1) ∙ stood) raised follows)
