-- The exchange that marks a node keeps the shape of sorted lists.
use Rattle.std.proofs.Common.{◌≡◌, ◌≢◌, ℕ, ◌+◌, ◌*◌, ◌/◌, ◌%◌, ◌^◌, ◌<◌, Bool, true, false, ◌∷◌, refl, sym, ap, ◌∙◌, inl, inr, ◌⊎◌, Some, arith}
use Rattle.std.specs.Prelude.{slice_get}
use Rattle.std.proofs.lemmas.Bool.{cases_eq, cond-false}
use Rattle.lin_report.specs.declared.calls.Reply.{Reply}
use Rattle.lin_report.specs.declared.calls.Reply.TheVariants.{Yes}
use Rattle.lin_report.specs.declared.calls.TheConstants.{DEL}
use Rattle.lin_report.specs.Object.{object_of}
use Rattle.word_fields.specs.Versioned.{versioned_value, value_below}
use Rattle.word_fields.proofs.ChangedWords.{value-changed, value-cleared}
use Rattle.node_arena.specs.MemoryMap.{block_at, reference_to}
use Rattle.normal_traits.specs.World.{Listed, Change, World}
use Rattle.normal_traits.specs.World.Maker.{By}
use Rattle.normal_traits.specs.Steps.{IsFresh, IsExchanged, with_word, change_of}
use Rattle.harris_list_form.specs.declared.states.Left.{Left}
use Rattle.harris_list_form.specs.declared.states.ListSearch.TheVariants.{DelReady}
use Rattle.harris_list_form.specs.Lists.{Lists, AreLists}
use Rattle.harris_list_form.specs.Search.{is_add, led, marking, next_place}
use Rattle.harris_list_form.specs.Nodes.{holds, is_node, node_key, next_at, key_at, rank_of, IsOf}
use Rattle.harris_list_form.specs.Path.{IsPath, parity}
use Rattle.harris_list_form.specs.Shape.{LINKED, MARKED, first_cause, MadeChange, AreSorted}
use Rattle.harris_list_form.specs.Knowledge.{Learnt}
use Rattle.harris_list_form.proofs.Held.Places.{same_next, start_not_next, block_of_next, rank_named}
use Rattle.harris_list_form.proofs.Steps.Changes.{node_del, key_del}
use Rattle.harris_list_form.proofs.Paths.SameNodes.{SameNodes, path_same}
use Rattle.harris_list_form.proofs.Held.Links.{positive, node_of}
use Rattle.harris_list_form.proofs.Held.Entries.{mark_entry, dels_is}
use Rattle.harris_list_form.proofs.Held.Sets.{object_is, change_told}
use Rattle.harris_list_form.proofs.Steps.Marks.{live_marked}
use Rattle.harris_list_form.proofs.Steps.Journal.{new_cause, journal_grows}
use Rattle.harris_list_form.proofs.Steps.ShapeAtUnlinks.{key_not_link, stored_stays}
use Rattle.harris_list_form.proofs.Steps.NodeAdded.{changed_world}
use Rattle.harris_list_form.proofs.Steps.Later.{Later}
use Rattle.normal_traits.proofs.Stays.{word_beside}
use Rattle.client_lemmas.proofs.Words.{same_place}
use Rattle.client_lemmas.proofs.Later.{item_of}
use Rattle.client_lemmas.proofs.Made.{made_more}

module _ (lists : Lists) (are : AreLists lists) (world : World) (sorted : AreSorted lists world) (list : Listed) (left : Left) (cur next since word : ℕ) (used : ℕ → Bool) (code : list.call.op.code ≡ DEL)
    (learnt : Learnt lists world list.call.op.key since (DelReady left cur next)) (same : world.words (next_place cur) ≡ next) (change : IsExchanged (mark_entry cur next) word) where
  abbrev new : Change
  new = change_of (object_of lists.client) list world.changes

  abbrev start : ℕ
  start = lists.start_of list.call.op.key

  is : IsPath lists world.changes (λ place. led (world.words place)) sorted.path
  is = sorted.has_path.leading

  some : (block : ℕ) → is_node world.changes block ≡ true → 0 < block
  some = positive lists are world sorted

  del : is_add list.call.op ≡ false
  del = dels_is list.call.op code

  -- the node
  node : (block : ℕ) × IsOf lists world.changes start block × (cur ≡ reference_to block 1)
  node = node_of lists are world sorted start cur learnt.1.named learnt.5.some

  at_block : next_place cur ≡ next_at node.0
  at_block = ap next_place node.2

  next_now : world.words (next_at node.0) ≡ next
  next_now = ap world.words (sym at_block) ∙ same

  was_even : parity world.words (next_at node.0) ≡ 0
  was_even = ap (λ w. versioned_value w % 2) next_now ∙ learnt.5.even

  path_on : sorted.path node.0 ≡ true
  path_on = sorted.has_path.living.live node.0 node.1.node was_even

  key_is : node_key world.changes node.0 ≡ list.call.op.key
  key_is = omega (arith, learnt.4, ap (rank_of world.changes) node.2, rank_named world.changes node.0)

  -- the set holds the key
  present : holds world.changes list.call.op.key ≡ true
  present = ap (holds world.changes) (sym key_is) ∙ sorted.has_path.living.held node.0 node.1.node was_even

  told : new.reply ≡ Yes
  told = change_told (object_of lists.client) (object_is lists.client are.sets) list.call.op world.changes sorted.effective (inr (code, present))

  small : 2 * led next + 1 < 2 ^ 24
  small = omega (arith, value_below next)

  value : versioned_value word ≡ 2 * led next + 1
  value = sym (value-cleared word) ∙ ap versioned_value change.to ∙ value-changed next (2 * led next + 1) small

  written : versioned_value (with_word (next_place cur) word world.words (next_at node.0)) ≡ 2 * led next + 1
  written = ap (λ p. versioned_value (with_word (next_place cur) word world.words p)) (sym at_block) ∙ ap versioned_value (same_place (next_place cur) word world.words) ∙ value

  elsewhere : (place : ℕ) → place ≢ next_at node.0 → with_word (next_place cur) word world.words place ≡ world.words place
  elsewhere place other = word_beside (next_place cur) word world.words place (λ e. other (e ∙ at_block))

  -- each reference is as it was
  leads_at : (place : ℕ) → (place ≡ next_at node.0) ⊎ (place ≡ next_at node.0 → ⊥) → led (with_word (next_place cur) word world.words place) ≡ led (world.words place)
  leads_at place (inl here) =
      let before : led (world.words place) ≡ led next = ap (λ p. led (world.words p)) here ∙ ap led next_now in
      let after : versioned_value (with_word (next_place cur) word world.words place) ≡ 2 * led next + 1 = ap (λ p. versioned_value (with_word (next_place cur) word world.words p)) here ∙ written in
      omega (arith, before, after)
  leads_at place (inr other) = ap led (elsewhere place other)

  parity_beside : (place : ℕ) → place ≢ next_at node.0 → parity (with_word (next_place cur) word world.words) place ≡ parity world.words place
  parity_beside place other = ap (λ w. versioned_value w % 2) (elsewhere place other)

  nodes_same : SameNodes world.changes (change_of (object_of lists.client) list world.changes ∷ world.changes)
  nodes_same = record { nodes = node_del new world.changes del; keys = key_del new world.changes del }

  cause_is : first_cause list (mark_entry cur next) ≡ record { block = node.0; kind = MARKED }
  cause_is =
      cond-false (is_add list.call.op) (record { block = led (marking next) / 4; kind = LINKED }) (record { block = block_at (next_place cur); kind = MARKED }) del
      ∙ ap (λ b. record { block = b; kind = MARKED }) (ap block_at at_block ∙ block_of_next node.0)

  module _ (kept : Later lists are world (changed_world lists are world list (mark_entry cur next) word used)) where
    known : MadeChange (changed_world lists are world list (mark_entry cur next) word used) (item_of (By list 0) (mark_entry cur next) (first_cause list (mark_entry cur next))) list
    known =
        record {
          change = inl (ap (λ (reply : Reply). record { list = list; reply = reply }) (sym told));
          brought = inr (
            code,
            record {
              block = node.0;
              node = kept.extends.nodes node.0 node.1.node;
              marked = omega (arith, written);
              place = at_block;
              stays = written ∙ sym (value-changed next (2 * led next + 1) small);
              cause = cause_is;
            },
          );
        }

    key_stays : (b : ℕ) → 0 < b → with_word (next_place cur) word world.words (key_at b) ≡ world.words (key_at b)
    key_stays b positive_block = elsewhere (key_at b) (key_not_link lists are world.changes start (next_at node.0) b positive_block (inr (node.0, node.1, refl)))

    pub mark_keeps : IsFresh world list → slice_get list.entries 0 ≡ Some (mark_entry cur next) → used 0 ≡ true → used list.block ≡ true → (0 < list.block → world.used list.block ≡ false)
        → AreSorted lists (changed_world lists are world list (mark_entry cur next) word used)
    mark_keeps fresh listed first own unused =
        let after = changed_world lists are world list (mark_entry cur next) word used in
        record {
          first = first;
          stored = λ b is_one.
              let was = sym (node_del new world.changes del b) ∙ is_one in
              stored_stays lists are world after kept b was (sorted.stored b was) (key_stays b (some b was));
          effective = (inr (code, present), sorted.effective);
          made = made_more world after kept.used kept.journal sorted.made new refl fresh
              (record { entry = mark_entry cur next; cause = first_cause list (mark_entry cur next); listed = listed; won = inl refl }) own unused;
          path = sorted.path;
          has_path = record {
            leading = path_same world.changes (change_of (object_of lists.client) list world.changes ∷ world.changes) nodes_same lists (λ place. led (world.words place))
                (λ place. led (with_word (next_place cur) word world.words place)) sorted.path is (λ s place link. leads_at place (cases_eq place (next_at node.0)));
            living = live_marked lists world.changes world.words sorted.path sorted.has_path.living new kept.extends (with_word (next_place cur) word world.words)
                (λ place s. parity_beside place (start_not_next lists are place node.0 s (some node.0 node.1.node))) del (λ place. led (world.words place)) is node.0 path_on key_is
                (omega (arith, written)) (λ other is_one apart. parity_beside (next_at other) (λ e. apart (same_next other node.0 e)));
            journal = journal_grows lists are world after sorted kept sorted.path sorted.path (λ b is_one off. off) sorted.has_path.journal
                (item_of (By list 0) (mark_entry cur next) (first_cause list (mark_entry cur next))) refl known
                (λ cause c e. new_cause world sorted.path node.0 MARKED cause (λ k. absurd (omega (arith, k))) (λ k. was_even) (λ k. absurd (omega (arith, k))) c (sym cause_is ∙ e));
          };
        }
