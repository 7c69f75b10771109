-- The exchange of an add keeps the shape of sorted lists.
use Rattle.std.proofs.Common.{◌≡◌, ◌≢◌, ℕ, ◌+◌, ◌*◌, ◌/◌, ◌%◌, ◌^◌, ◌<◌, Bool, true, false, eqb, ◌∷◌, refl, sym, ap, ◌∙◌, subst, inl, inr, ◌⊎◌, Some, arith}
use Rattle.std.specs.Prelude.{slice_get}
use Rattle.std.proofs.lemmas.Bool.{true≢false, cases_eq, cond-true, or_left, or_right, or_from, eq-eqb, ne_eqb}
use Rattle.lin_report.specs.declared.calls.Reply.{Reply}
use Rattle.lin_report.specs.declared.calls.Reply.TheVariants.{Yes}
use Rattle.lin_report.specs.declared.calls.TheConstants.{ADD}
use Rattle.lin_report.specs.Commands.{KEY_LIMIT}
use Rattle.lin_report.specs.Object.{object_of}
use Rattle.word_fields.specs.Versioned.{versioned_value, value_below}
use Rattle.word_fields.proofs.ChangedWords.{value-changed, value-cleared}
use Rattle.node_arena.specs.MemoryMap.{block_at, reference_to}
use Rattle.normal_traits.specs.declared.lists.Entry.{Entry}
use Rattle.normal_traits.specs.World.{Listed, Change, World}
use Rattle.normal_traits.specs.World.Maker.{By}
use Rattle.normal_traits.specs.Steps.{IsFresh, IsExchanged, with_word, change_of, using_block}
use Rattle.harris_list_form.specs.declared.states.Left.{Left}
use Rattle.harris_list_form.specs.declared.states.ListSearch.TheVariants.{AddReady}
use Rattle.harris_list_form.specs.Lists.{Lists, AreLists}
use Rattle.harris_list_form.specs.Search.{is_add, led, leading}
use Rattle.harris_list_form.specs.Nodes.{holds, is_node, next_at, key_at, rank_of, IsLink}
use Rattle.harris_list_form.specs.Path.{stands, IsPath, parity}
use Rattle.harris_list_form.specs.Shape.{LINKED, MARKED, first_cause, IsStored, MadeChange, AreSorted}
use Rattle.harris_list_form.specs.Knowledge.{Learnt}
use Rattle.harris_list_form.proofs.Held.Places.{same_next, start_not_next}
use Rattle.harris_list_form.proofs.Steps.Changes.{node_cases, node_own, key_own}
use Rattle.harris_list_form.proofs.Paths.NodeLinked.{path_linked}
use Rattle.harris_list_form.proofs.Held.Links.{positive}
use Rattle.harris_list_form.proofs.Held.Entries.{add_entry, adds_is}
use Rattle.harris_list_form.proofs.Held.Sets.{object_is, change_told}
use Rattle.harris_list_form.proofs.Steps.Marks.{stands_now, none_held, live_added}
use Rattle.harris_list_form.proofs.Steps.Journal.{new_cause, journal_grows}
use Rattle.harris_list_form.proofs.Steps.ShapeAtUnlinks.{key_not_link, stored_stays}
use Rattle.harris_list_form.proofs.Steps.Later.{Later}
use Rattle.normal_traits.proofs.Stays.{word_beside}
use Rattle.client_lemmas.proofs.Words.{same_place, value_small}
use Rattle.client_lemmas.proofs.Later.{item_of}
use Rattle.client_lemmas.proofs.Made.{made_more}

module _ (lists : Lists) (are : AreLists lists) where
  -- after the exchange of a list's first entry
  abbrev pub changed_world : World → Listed → Entry → ℕ → (ℕ → Bool) → World
  changed_world world list entry word used =
      record {
        words = with_word entry.target word world.words;
        changes = change_of (object_of lists.client) list world.changes ∷ world.changes;
        used = used;
        journal = item_of (By list 0) entry (first_cause list entry) ∷ world.journal;
      }

  module _ (world : World) (sorted : AreSorted lists world) (list : Listed) (left : Left) (cur since word : ℕ) (code : list.call.op.code ≡ ADD)
      (learnt : Learnt lists world list.call.op.key since (AddReady left cur)) (same : world.words left.place ≡ left.word) (change : IsExchanged (add_entry left list.block) word)
      (limit : list.call.op.key < KEY_LIMIT) (some_block : 0 < list.block) (small : list.block < 2 ^ 17) (unused : world.used list.block ≡ false)
      (stored_key : world.words (key_at list.block) ≡ list.call.op.key) (stored_next : world.words (next_at list.block) ≡ 2 * cur) where
    abbrev new : Change
    new = change_of (object_of lists.client) list world.changes

    abbrev start : ℕ
    start = lists.start_of list.call.op.key

    is : IsPath lists world.changes (λ place. led (world.words place)) sorted.path
    is = sorted.has_path.leading

    some : (block : ℕ) → is_node world.changes block ≡ true → 0 < block
    some = positive lists are world sorted

    add : is_add list.call.op ≡ true
    add = adds_is list.call.op code

    on : stands sorted.path left.place ≡ true
    on = stands_now lists world.changes world.words sorted.path sorted.has_path.living are some start left.place learnt.0.link (ap (λ w. versioned_value w % 2) same ∙ learnt.0.even)

    leads_cur : led (world.words left.place) ≡ cur
    leads_cur = ap led same ∙ learnt.3

    high : list.call.op.key + 1 < rank_of world.changes (led (world.words left.place))
    high = omega (arith, learnt.4, ap (rank_of world.changes) leads_cur)

    unknown : is_node world.changes list.block ≡ false
    unknown = by_test (is_node world.changes list.block) refl
      where
        by_test : (b : Bool) → is_node world.changes list.block ≡ b → is_node world.changes list.block ≡ false
        by_test true e = absurd (true≢false (sym (sorted.stored list.block e).used ∙ unused))
        by_test false e = e

    -- the set doesn't hold the key
    absent : holds world.changes list.call.op.key ≡ false
    absent =
        none_held lists world.changes world.words sorted.path sorted.has_path.living (λ place. led (world.words place)) is start left.place list.call.op.key learnt.0.link on refl learnt.0.below high

    told : new.reply ≡ Yes
    told = change_told (object_of lists.client) (object_is lists.client are.sets) list.call.op world.changes sorted.effective (inl (code, absent))

    value : versioned_value word ≡ 2 * reference_to list.block 1
    value = sym (value-cleared word) ∙ ap versioned_value change.to ∙ value-changed left.word (2 * reference_to list.block 1) (omega (arith, small))

    old_value : versioned_value (world.words (next_at list.block)) ≡ 2 * cur
    old_value = ap versioned_value stored_next ∙ value_small (2 * cur) (omega (arith, learnt.3, value_below left.word))

    not_left : next_at list.block ≢ left.place
    not_left e = by_link learnt.0.link
      where
        by_link : IsLink lists world.changes start left.place → ⊥
        by_link (inl at) = start_not_next lists are left.place list.block (subst (λ s. lists.is_start s ≡ true) (sym at.1) at.0) some_block (sym e)
        by_link (inr node) = true≢false (sym node.1.node ∙ ap (is_node world.changes) (sym (same_next list.block node.0 (e ∙ node.2))) ∙ unknown)

    parity_at : (place : ℕ) → (place ≡ left.place) ⊎ (place ≡ left.place → ⊥) → parity (with_word left.place word world.words) place ≡ parity world.words place
    parity_at place (inl here) =
        let before : parity world.words place ≡ 0 = ap (parity world.words) here ∙ ap (λ w. versioned_value w % 2) same ∙ learnt.0.even in
        let after : versioned_value (with_word left.place word world.words place) ≡ 2 * reference_to list.block 1 =
        ap (λ p. versioned_value (with_word left.place word world.words p)) here ∙ ap versioned_value (same_place left.place word world.words) ∙ value in
        omega (arith, before, after)
    parity_at place (inr other) = ap (λ w. versioned_value w % 2) (word_beside left.place word world.words place other)

    at_left : led (with_word left.place word world.words left.place) ≡ reference_to list.block 1
    at_left = omega (arith, ap versioned_value (same_place left.place word world.words), value)

    new_value : versioned_value (with_word left.place word world.words (next_at list.block)) ≡ 2 * cur
    new_value = ap versioned_value (word_beside left.place word world.words (next_at list.block) not_left) ∙ old_value

    at_new : led (with_word left.place word world.words (next_at list.block)) ≡ led (world.words left.place)
    at_new = omega (arith, new_value, leads_cur)

    cause_is : first_cause list (add_entry left list.block) ≡ record { block = list.block; kind = LINKED }
    cause_is =
        cond-true (is_add list.call.op) (record { block = led (leading left.word (reference_to list.block 1)) / 4; kind = LINKED }) (record { block = block_at left.place; kind = MARKED }) add
        ∙ ap (λ block. record { block = block; kind = LINKED }) to_block
      where
        to_block : led (leading left.word (reference_to list.block 1)) / 4 ≡ list.block
        to_block = omega (arith, value-changed left.word (2 * reference_to list.block 1) (omega (arith, small)))

    module _ (kept : Later lists are world (changed_world world list (add_entry left list.block) word (using_block list.block world.used))) where
      key_stays : (block : ℕ) → 0 < block → with_word left.place word world.words (key_at block) ≡ world.words (key_at block)
      key_stays block positive_block = word_beside left.place word world.words (key_at block) (key_not_link lists are world.changes start left.place block positive_block learnt.0.link)

      stored : (block : ℕ) → (list.block ≡ block) ⊎ (is_node world.changes block ≡ true) → IsStored (changed_world world list (add_entry left list.block) word (using_block list.block world.used)) block
      stored block (inl own) = subst (IsStored (changed_world world list (add_entry left list.block) word (using_block list.block world.used))) own here
        where
          here : IsStored (changed_world world list (add_entry left list.block) word (using_block list.block world.used)) list.block
          here =
              let key = key_own new world.changes add in
              record {
                some = some_block;
                small = small;
                used = or_left (eqb list.block list.block) (world.used list.block) (eq-eqb list.block list.block refl);
                limit = omega (arith, limit, key);
                keyed = key_stays list.block some_block ∙ stored_key ∙ sym key;
              }
      stored block (inr node) =
          stored_stays lists are world (changed_world world list (add_entry left list.block) word (using_block list.block world.used)) kept block node (sorted.stored block node) (key_stays block (some block node))

      known : MadeChange (changed_world world list (add_entry left list.block) word (using_block list.block world.used)) (item_of (By list 0) (add_entry left list.block) (first_cause list (add_entry left list.block))) list
      known =
          record {
            change = inl (ap (λ (reply : Reply). record { list = list; reply = reply }) (sym told));
            brought = inl (code, record { node = node_own new world.changes add; cause = cause_is });
          }

      not_new : (block : ℕ) → is_node world.changes block ≡ true → block ≢ list.block
      not_new block node e = true≢false (sym node ∙ ap (is_node world.changes) e ∙ unknown)

      pub add_keeps : IsFresh world list → slice_get list.entries 0 ≡ Some (add_entry left list.block)
          → AreSorted lists (changed_world world list (add_entry left list.block) word (using_block list.block world.used))
      add_keeps fresh listed =
          let after = changed_world world list (add_entry left list.block) word (using_block list.block world.used) in
          let own : using_block list.block world.used list.block ≡ true = or_left (eqb list.block list.block) (world.used list.block) (eq-eqb list.block list.block refl) in
          let off : (block : ℕ) → is_node world.changes block ≡ true → sorted.path block ≡ false → using_block list.block sorted.path block ≡ false =
          λ block node e. or_from (eqb block list.block) (sorted.path block) (ne_eqb block list.block (not_new block node)) e in
          record {
            first = or_right (eqb 0 list.block) (world.used 0) sorted.first;
            stored = λ block node. stored block (node_cases new world.changes block node);
            effective = (inl (code, absent), sorted.effective);
            made = made_more world after kept.used kept.journal sorted.made new refl fresh
                (record { entry = add_entry left list.block; cause = first_cause list (add_entry left list.block); listed = listed; won = inl refl }) own (λ block. unused);
            path = using_block list.block sorted.path;
            has_path = record {
              leading = path_linked lists are world.changes some (λ place. led (world.words place)) sorted.path is new add kept.extends unknown some_block left.place learnt.0.link on learnt.0.below high
                  (λ place. led (with_word left.place word world.words place)) at_left at_new (λ place other other'. ap led (word_beside left.place word world.words place other));
              living = live_added lists world.changes world.words sorted.path sorted.has_path.living new kept.extends (with_word left.place word world.words)
                  (λ place start'. parity_at place (cases_eq place left.place)) add (omega (arith, new_value)) (λ block node. parity_at (next_at block) (cases_eq (next_at block) left.place));
              journal = journal_grows lists are world after sorted kept sorted.path (using_block list.block sorted.path) off sorted.has_path.journal
                  (item_of (By list 0) (add_entry left list.block) (first_cause list (add_entry left list.block))) refl known
                  (λ cause c e. new_cause world sorted.path list.block LINKED cause (λ k. unknown) (λ k. absurd (omega (arith, k))) (λ k. absurd (omega (arith, k))) c (sym cause_is ∙ e));
            };
          }
