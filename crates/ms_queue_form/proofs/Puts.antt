-- The exchange of a put keeps the shape of the queue.
use Rattle.std.proofs.Common.{◌≡◌, ◌≢◌, ℕ, ◌+◌, ◌/◌, ◌^◌, ◌<◌, ◌≤◌, Bool, true, false, List, ◌∷◌, refl, sym, ap, ◌∙◌, inl, inr, ◌⊎◌, Some, arith}
use Rattle.std.specs.Prelude.{slice_get}
use Rattle.std.proofs.lemmas.Bool.{true≢false, cond-true, cases_lt}
use Rattle.lin_report.specs.declared.calls.Reply.{Reply}
use Rattle.lin_report.specs.declared.calls.Reply.TheVariants.{Done, Value}
use Rattle.lin_report.specs.Object.{queue_object}
use Rattle.word_fields.specs.Versioned.{versioned_value, versioned_version, changed_word}
use Rattle.word_fields.proofs.ChangedWords.{value-changed, value-cleared}
use Rattle.node_arena.specs.declared.places.TheConstants.{HEAD, TAIL, NODE_VALUE, NODE_NEXT}
use Rattle.node_arena.specs.MemoryMap.{node_place, reference_to}
use Rattle.node_arena.proofs.PlacesApart.{block-reference_to}
use Rattle.normal_traits.specs.declared.lists.Entry.{Entry}
use Rattle.normal_traits.specs.World.{Listed, World, held_after}
use Rattle.normal_traits.specs.World.Maker.{By}
use Rattle.normal_traits.specs.Steps.{IsFresh, IsExchanged, with_word, change_of}
use Rattle.ms_queue_form.specs.Search.{is_put, next_place}
use Rattle.ms_queue_form.specs.Chain.{puts, takes, node_block, put_value, node_at, next_of, value_of}
use Rattle.ms_queue_form.specs.Shape.{kind_of, cause_of, reached, reply_at, IsChain, HasEnds, BroughtIn, IsQueue}
use Rattle.ms_queue_form.specs.Knowledge.{WasTail}
use Rattle.ms_queue_form.proofs.Changes.{Extends, extends_more, puts-put, takes-put, block-put, same_node_at, same_next_of}
use Rattle.ms_queue_form.proofs.Chains.{chain_grows}
use Rattle.ms_queue_form.proofs.History.{holds_put, effective_put, apply-put}
use Rattle.ms_queue_form.proofs.Journal.{journal_grows}
use Rattle.ms_queue_form.proofs.Later.{Later}
use Rattle.ms_queue_form.proofs.Takes.{taken}
use Rattle.normal_traits.proofs.Stays.{word_beside}
use Rattle.client_lemmas.proofs.Words.{same_place, value_small}
use Rattle.client_lemmas.proofs.Places.{behind_first, apart_nodes, apart_fields}
use Rattle.client_lemmas.proofs.Later.{item_of}
use Rattle.client_lemmas.proofs.Made.{made_more}

-- node 1 of the block is linked behind the tail's node
abbrev pub put_entry : ℕ → ℕ → ℕ → Entry
put_entry tail next block = record { target = next_place tail; from = next; to = changed_word next (reference_to block 1) }

module _ (world : World) (queue : IsQueue world) (list : Listed) (tail next word : ℕ) (used : ℕ → Bool)
    (put : is_put list.call.op ≡ true) (same : world.words (next_place tail) ≡ next) (change : IsExchanged (put_entry tail next list.block) word)
    (was : WasTail world tail) (null : versioned_value next ≡ 0) (small : list.block < 2 ^ 17) (unused : world.used list.block ≡ false) where
  extends : Extends world.changes (change_of queue_object list world.changes ∷ world.changes)
  extends = extends_more (change_of queue_object list world.changes) world.changes

  at_place : next_place tail ≡ next_of world.changes (versioned_version tail)
  at_place = ap (λ reference. node_place reference NODE_NEXT) was.names

  -- a next word that names no node is that of the last one
  is_last : (versioned_version tail < puts world.changes) ⊎ (puts world.changes ≤ versioned_version tail) → versioned_version tail ≡ puts world.changes
  is_last (inl before) =
      let named : versioned_value next ≡ node_at world.changes (versioned_version tail + 1) =
      ap versioned_value (sym same ∙ ap world.words at_place) ∙ queue.chain.linked (versioned_version tail) before in
      absurd (omega (arith, named, null))
  is_last (inr end) = omega (arith, was.within)

  last : versioned_version tail ≡ puts world.changes
  last = is_last (cases_lt (versioned_version tail) (puts world.changes))

  last_place : next_place tail ≡ next_of world.changes (puts world.changes)
  last_place = at_place ∙ ap (next_of world.changes) last

  to_value : versioned_value (changed_word next (reference_to list.block 1)) ≡ reference_to list.block 1
  to_value = value-changed next (reference_to list.block 1) (omega (arith, small))

  word_value : versioned_value word ≡ reference_to list.block 1
  word_value = sym (value-cleared word) ∙ ap versioned_value change.to ∙ to_value

  -- the exchange writes one word: no other next word, and no word of another kind
  other_next : (k : ℕ) → k < puts world.changes → next_of world.changes k ≢ next_place tail
  other_next k low e =
      apart_nodes (node_block world.changes k) (node_block world.changes (puts world.changes)) NODE_NEXT NODE_NEXT (omega arith) (omega arith)
      (queue.chain.apart k (puts world.changes) low (omega arith)) (e ∙ last_place)

  other_value : (block : ℕ) → node_place (reference_to block 1) NODE_VALUE ≢ next_place tail
  other_value block e =
      apart_fields block (node_block world.changes (puts world.changes)) NODE_VALUE NODE_NEXT (omega arith) (omega arith) (λ same. omega arith) (e ∙ last_place)

  fresh_block : (k : ℕ) → k ≤ puts world.changes → node_block world.changes k ≢ list.block
  fresh_block k low e = true≢false (sym (queue.chain.used k low) ∙ ap world.used e ∙ unused)

  own_next : node_place (reference_to list.block 1) NODE_NEXT ≢ next_place tail
  own_next e =
      apart_nodes (node_block world.changes (puts world.changes)) list.block NODE_NEXT NODE_NEXT (omega arith) (omega arith)
      (fresh_block (puts world.changes) (omega arith)) (sym (e ∙ last_place))

  end_place : (place : ℕ) → place < 32 → place ≢ next_place tail
  end_place place low e = behind_first (versioned_value tail) NODE_NEXT place low (sym e)

  new_block : node_block (change_of queue_object list world.changes ∷ world.changes) (puts world.changes + 1) ≡ list.block
  new_block = block-put (change_of queue_object list world.changes) world.changes put

  new_puts : puts (change_of queue_object list world.changes ∷ world.changes) ≡ puts world.changes + 1
  new_puts = puts-put (change_of queue_object list world.changes) world.changes put

  module _ (kept : Later world (taken world list (put_entry tail next list.block) word used)) (own : used list.block ≡ true)
      (value : world.words (node_place (reference_to list.block 1) NODE_VALUE) ≡ list.call.op.value)
      (end : world.words (node_place (reference_to list.block 1) NODE_NEXT) ≡ 0) where
    chain : IsChain (taken world list (put_entry tail next list.block) word used)
    chain =
        chain_grows world (taken world list (put_entry tail next list.block) word used) queue.chain extends (change_of queue_object list world.changes) refl put kept.used own unused
        (ap (λ place. versioned_value (with_word (next_place tail) word world.words place)) (sym last_place) ∙ ap versioned_value (same_place (next_place tail) word world.words) ∙ word_value)
        (ap versioned_value (word_beside (next_place tail) word world.words (node_place (reference_to list.block 1) NODE_NEXT) own_next ∙ end) ∙ value_small 0 (omega arith))
        (word_beside (next_place tail) word world.words (node_place (reference_to list.block 1) NODE_VALUE) (other_value list.block) ∙ value)
        (λ k low. word_beside (next_place tail) word world.words (next_of world.changes k) (other_next k low))
        (λ k low. word_beside (next_place tail) word world.words (value_of world.changes (k + 1)) (other_value (node_block world.changes (k + 1))))

    ends : HasEnds (taken world list (put_entry tail next list.block) word used)
    ends =
        let more = takes-put (change_of queue_object list world.changes) world.changes put in
        let head = word_beside (next_place tail) word world.words HEAD (end_place HEAD (omega arith)) in
        let rear = word_beside (next_place tail) word world.words TAIL (end_place TAIL (omega arith)) in
        let nodes = same_node_at world.changes (change_of queue_object list world.changes ∷ world.changes) extends in
        let old = queue.ends in
        record {
          taken = ap versioned_version head ∙ old.taken ∙ sym more;
          head = ap versioned_value head ∙ old.head ∙ sym (nodes (takes world.changes) (omega (arith, old.behind, old.within)))
              ∙ ap (node_at (change_of queue_object list world.changes ∷ world.changes)) (sym more);
          tail = ap versioned_value rear ∙ old.tail ∙ sym (nodes (versioned_version (world.words TAIL)) old.within)
              ∙ ap (λ w. node_at (change_of queue_object list world.changes ∷ world.changes) (versioned_version w)) (sym rear);
          behind = omega (arith, more, ap versioned_version rear, old.behind);
          within = omega (arith, new_puts, ap versioned_version rear, old.within);
        }

    kind_is : kind_of (By list 0) ≡ 0
    kind_is = cond-true (is_put list.call.op) 0 1 put

    reply_is : reply_at (change_of queue_object list world.changes ∷ world.changes) list (versioned_version tail + 1) ≡ (change_of queue_object list world.changes).reply
    reply_is =
        cond-true (is_put list.call.op) Done (Value (put_value (change_of queue_object list world.changes ∷ world.changes) (versioned_version tail + 1))) put
        ∙ sym (ap (λ (r : List ℕ × Reply). r.1) (apply-put list.call.op (held_after queue_object world.changes) put))

    known : BroughtIn (taken world list (put_entry tail next list.block) word used) (item_of (By list 0) (put_entry tail next list.block) (cause_of world (By list 0) (put_entry tail next list.block)))
    known =
        let block : list.block ≡ node_block (change_of queue_object list world.changes ∷ world.changes) (versioned_version tail + 1) =
        sym new_block ∙ ap (λ k. node_block (change_of queue_object list world.changes ∷ world.changes) (k + 1)) (sym last) in
        record {
          before = versioned_version tail;
          within = omega (arith, ap (reached (taken world list (put_entry tail next list.block) word used)) kind_is, new_puts, last);
          node = to_value ∙ ap (λ b. reference_to b 1) block;
          cause = ap (λ b. record { block = b; kind = kind_of (By list 0) })
              (ap (λ v. v / 4) to_value ∙ block-reference_to list.block 1 (omega arith) ∙ block);
          made = (
            refl,
            record {
              change = inl (ap (λ (reply : Reply). record { list = list; reply = reply }) reply_is);
              place = λ is. at_place ∙ sym (same_next_of world.changes (change_of queue_object list world.changes ∷ world.changes) extends (versioned_version tail) was.within);
            },
          );
        }

    -- the chain is longer by the block's node, and the change is made
    pub put_keeps : IsFresh world list → slice_get list.entries 0 ≡ Some (put_entry tail next list.block) → IsQueue (taken world list (put_entry tail next list.block) word used)
    unfolding known
    put_keeps fresh listed =
        record {
          chain = chain;
          ends = ends;
          holds = holds_put (change_of queue_object list world.changes) world.changes queue.holds put;
          effective = (effective_put (change_of queue_object list world.changes) world.changes queue.holds put, queue.effective);
          made = made_more world (taken world list (put_entry tail next list.block) word used) kept.used kept.journal queue.made (change_of queue_object list world.changes) refl fresh
              (record { entry = put_entry tail next list.block; cause = cause_of world (By list 0) (put_entry tail next list.block); listed = listed; won = inl refl }) own (λ some. unused);
          journal = journal_grows world (taken world list (put_entry tail next list.block) word used) kept (omega (arith, ap versioned_version (word_beside (next_place tail) word world.words TAIL (end_place TAIL (omega arith))))) queue.ends queue.journal chain _ refl known
              (last ∙ sym (ap (reached world) kind_is)) (omega (arith, new_puts, last));
        }
