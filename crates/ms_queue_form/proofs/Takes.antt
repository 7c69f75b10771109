-- The exchange of a take keeps the shape of the queue.
use Rattle.std.proofs.Common.{◌≡◌, ℕ, ◌+◌, ◌/◌, ◌<◌, Bool, true, false, ◌∷◌, refl, sym, ap, ◌∙◌, inl, Some, arith}
use Rattle.std.specs.Prelude.{slice_get}
use Rattle.std.proofs.lemmas.Bool.{true≢false, cond-false}
use Rattle.lin_report.specs.declared.calls.Reply.{Reply}
use Rattle.lin_report.specs.declared.calls.Reply.TheVariants.{Done, Value}
use Rattle.lin_report.specs.declared.calls.TheConstants.{TAKE}
use Rattle.lin_report.specs.Object.{queue_object}
use Rattle.word_fields.specs.Versioned.{versioned_value, versioned_version, value_below}
use Rattle.word_fields.proofs.ChangedWords.{value-changed, value-cleared, version-cleared}
use Rattle.node_arena.specs.declared.places.TheConstants.{HEAD, TAIL, NODE_VALUE, NODE_NEXT}
use Rattle.node_arena.proofs.PlacesApart.{block-reference_to}
use Rattle.normal_traits.specs.declared.lists.Entry.{Entry}
use Rattle.normal_traits.specs.World.{Listed, World}
use Rattle.normal_traits.specs.World.Maker.{By}
use Rattle.normal_traits.specs.Steps.{IsFresh, IsExchanged, with_word, change_of}
use Rattle.ms_queue_form.specs.Search.{is_put, moved_word}
use Rattle.ms_queue_form.specs.Chain.{puts, takes, node_block, put_value, node_at, next_of, value_of}
use Rattle.ms_queue_form.specs.Shape.{kind_of, cause_of, reached, reply_at, HasEnds, BroughtIn, IsQueue}
use Rattle.ms_queue_form.specs.Knowledge.{WasNext}
use Rattle.ms_queue_form.proofs.Changes.{puts-take, takes-take, block-take, value-take}
use Rattle.ms_queue_form.proofs.Chains.{SameChain, chain_stays, node_same}
use Rattle.ms_queue_form.proofs.History.{takes_is, holds_take, effective_take, reply_take}
use Rattle.ms_queue_form.proofs.Journal.{journal_grows}
use Rattle.ms_queue_form.proofs.Later.{Later}
use Rattle.normal_traits.proofs.Stays.{word_beside}
use Rattle.client_lemmas.proofs.Places.{behind_first}
use Rattle.client_lemmas.proofs.Later.{item_of}
use Rattle.client_lemmas.proofs.Made.{made_more}

-- the head is moved from this word to the node behind it, which another word names
abbrev pub take_entry : ℕ → ℕ → Entry
take_entry head next = record { target = HEAD; from = head; to = moved_word head next }

-- afterwards
abbrev pub taken : World → Listed → Entry → ℕ → (ℕ → Bool) → World
taken world list entry word used =
    record {
      words = with_word entry.target word world.words;
      changes = change_of queue_object list world.changes ∷ world.changes;
      used = used;
      journal = item_of (By list 0) entry (cause_of world (By list 0) entry) ∷ world.journal;
    }

module _ (world : World) (queue : IsQueue world) (list : Listed) (head next word : ℕ) (used : ℕ → Bool)
    (code : list.call.op.code ≡ TAKE) (same : world.words HEAD ≡ head) (change : IsExchanged (take_entry head next) word)
    (was : WasNext world head next) (ahead : versioned_version head < versioned_version (world.words TAIL)) where
  take : is_put list.call.op ≡ false
  take = takes_is list.call.op code

  at_head : versioned_version head ≡ takes world.changes
  at_head = ap versioned_version (sym same) ∙ queue.ends.taken

  some : takes world.changes < puts world.changes
  some = omega (arith, at_head, was.within)

  to_value : versioned_value (moved_word head next) ≡ versioned_value next
  to_value = value-changed head (versioned_value next) (value_below next)

  word_version : versioned_version word ≡ takes world.changes + 1
  word_version = omega (arith, ap versioned_version change.to, version-cleared word, change.raised, at_head)

  word_value : versioned_value word ≡ node_at world.changes (takes world.changes + 1)
  word_value = sym (value-cleared word) ∙ ap versioned_value change.to ∙ to_value ∙ was.names ∙ ap (λ k. node_at world.changes (k + 1)) at_head

  unchanged : SameChain world.changes (change_of queue_object list world.changes ∷ world.changes)
  unchanged =
      record {
        count = puts-take (change_of queue_object list world.changes) world.changes take;
        blocks = block-take (change_of queue_object list world.changes) world.changes take;
        values = value-take (change_of queue_object list world.changes) world.changes take;
      }

  ends_taken : HasEnds (taken world list (take_entry head next) word used)
  ends_taken =
      let more = takes-take (change_of queue_object list world.changes) world.changes take in
      let nodes = node_same world.changes (change_of queue_object list world.changes ∷ world.changes) unchanged in
      record {
        taken = word_version ∙ sym more;
        head = word_value ∙ sym (nodes (takes world.changes + 1)) ∙ ap (node_at (change_of queue_object list world.changes ∷ world.changes)) (sym more);
        tail = queue.ends.tail ∙ sym (nodes (versioned_version (world.words TAIL)));
        behind = omega (arith, more, at_head, ahead);
        within = omega (arith, queue.ends.within, unchanged.count);
      }

  reply_is : reply_at (change_of queue_object list world.changes ∷ world.changes) list (versioned_version head + 1) ≡ (change_of queue_object list world.changes).reply
  reply_is =
      cond-false (is_put list.call.op) Done (Value (put_value (change_of queue_object list world.changes ∷ world.changes) (versioned_version head + 1))) take
      ∙ ap Value (unchanged.values (versioned_version head + 1) ∙ ap (λ k. put_value world.changes (k + 1)) at_head)
      ∙ sym (reply_take (change_of queue_object list world.changes) world.changes queue.holds code some)

  kind_is : kind_of (By list 0) ≡ 1
  kind_is = cond-false (is_put list.call.op) 0 1 take

  known : BroughtIn (taken world list (take_entry head next) word used) (item_of (By list 0) (take_entry head next) (cause_of world (By list 0) (take_entry head next)))
  known =
      let nodes = node_same world.changes (change_of queue_object list world.changes ∷ world.changes) unchanged in
      let named : versioned_value (moved_word head next) ≡ node_at world.changes (versioned_version head + 1) = to_value ∙ was.names in
      let reach : reached (taken world list (take_entry head next) word used) (kind_of (By list 0)) ≡ takes world.changes + 1 =
      ap (reached (taken world list (take_entry head next) word used)) kind_is ∙ takes-take (change_of queue_object list world.changes) world.changes take in
      record {
        before = versioned_version head;
        within = omega (arith, reach, at_head);
        node = named ∙ sym (nodes (versioned_version head + 1));
        cause = ap (λ block. record { block = block; kind = kind_of (By list 0) })
            (ap (λ value. value / 4) named ∙ block-reference_to (node_block world.changes (versioned_version head + 1)) 1 (omega arith) ∙ sym (unchanged.blocks (versioned_version head + 1)));
        made = (
          refl,
          record {
            change = inl (ap (λ (reply : Reply). record { list = list; reply = reply }) reply_is);
            place = λ put. absurd (true≢false (sym put ∙ take));
          },
        );
      }

  -- the head names the next node, and the change is made
  pub take_keeps : Later world (taken world list (take_entry head next) word used) → IsFresh world list → slice_get list.entries 0 ≡ Some (take_entry head next)
      → used list.block ≡ true → (0 < list.block → world.used list.block ≡ false) → IsQueue (taken world list (take_entry head next) word used)
  unfolding known
  take_keeps kept fresh listed own unused =
      let after = taken world list (take_entry head next) word used in
      let chain = chain_stays world after queue.chain unchanged kept.used
      (λ k low. ap versioned_value (word_beside HEAD word world.words (next_of world.changes k) (behind_first (node_at world.changes k) NODE_NEXT HEAD (omega arith))))
      (λ k low. word_beside HEAD word world.words (value_of world.changes (k + 1)) (behind_first (node_at world.changes (k + 1)) NODE_VALUE HEAD (omega arith))) in
      record {
        chain = chain;
        ends = ends_taken;
        holds = holds_take (change_of queue_object list world.changes) world.changes queue.holds code some;
        effective = (effective_take (change_of queue_object list world.changes) world.changes queue.holds code some, queue.effective);
        made = made_more world after kept.used kept.journal queue.made (change_of queue_object list world.changes) refl fresh
            (record { entry = take_entry head next; cause = cause_of world (By list 0) (take_entry head next); listed = listed; won = inl refl }) own unused;
        journal = journal_grows world after kept (omega arith) queue.ends queue.journal chain _ refl known (at_head ∙ sym (ap (reached world) kind_is)) (omega (arith, was.within, unchanged.count));
      }
