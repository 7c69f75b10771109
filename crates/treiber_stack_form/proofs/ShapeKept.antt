-- What every allowed step keeps: the words of nodes, what a search has learnt, and the shape of the stack.
use Rattle.std.proofs.Common.{◌≡◌, ◌≢◌, ℕ, ◌+◌, ◌-◌, ◌*◌, ◌/◌, ◌^◌, ◌<◌, ◌≤◌, Bool, true, false, eqb, All, slice_get, List, [], ◌∷◌, length, Some, refl, sym, ap, ◌∙◌, subst, inl, inr, arith}
use Rattle.std.proofs.lemmas.Bool.{true≢false, cond-true, or_left, eq-eqb, eqb-true}
use Rattle.lin_report.specs.declared.calls.Op.{Op}
use Rattle.lin_report.specs.declared.calls.Reply.{Reply}
use Rattle.lin_report.specs.declared.calls.Reply.TheVariants.{Done, Value}
use Rattle.lin_report.specs.declared.calls.Outcome.{Outcome}
use Rattle.lin_report.specs.declared.calls.Outcome.TheVariants.{Plain, ValueOf}
use Rattle.word_fields.specs.Versioned.{versioned_value, value_below, cleared_word}
use Rattle.word_fields.proofs.ChangedWords.{value-changed, value-cleared}
use Rattle.node_arena.specs.declared.places.TheConstants.{NODE_VALUE, NODE_NEXT}
use Rattle.node_arena.specs.MemoryMap.{reference_to, node_place, node_named, block_at}
use Rattle.node_arena.proofs.PlacesApart.{block-reference_to, node_field_below, block_at-node_place}
use Rattle.normal_traits.specs.declared.lists.Entry.{Entry}
use Rattle.normal_traits.specs.World.{Listed, Cause, Won, Change, World, Among, is_word, held_after, StandsFor}
use Rattle.normal_traits.specs.World.Maker.{By}
use Rattle.normal_traits.specs.Steps.{IsStep, IsOffered, IsFresh, IsExchanged, put_word, with_word, change_of, exchanged, using_block}
use Rattle.normal_traits.specs.Steps.IsStep.{nothing, elsewhere, clears, searches, wraps, first, first_of_block, second}
use Rattle.normal_traits.proofs.Stays.{word_beside}
use Rattle.client_lemmas.proofs.Later as any_step
use Rattle.client_lemmas.proofs.Words.{same_place, value_small, beside_word, all_put, rises_seen}
use Rattle.client_lemmas.proofs.Entries.{the_entry, no_second}
use Rattle.client_lemmas.proofs.Requests.{went}
use Rattle.client_lemmas.proofs.Places.{behind_notes, behind_first, block_of_place}
use Rattle.client_lemmas.proofs.Growing.{each_more, pairs_more}
use Rattle.client_lemmas.proofs.Made.{made_stay, made_more}
use Rattle.treiber_stack_form.specs.declared.states.TheConstants.{TOP}
use Rattle.treiber_stack_form.specs.declared.states.StackSearch.{StackSearch}
use Rattle.treiber_stack_form.specs.declared.states.StackSearch.TheVariants.{PutReady, TakeReady, TakeNext}
use Rattle.treiber_stack_form.specs.Object.{is_put, stack_apply, stack_object}
use Rattle.treiber_stack_form.specs.Steps.{asked, top_entry, put_offer, offered}
use Rattle.treiber_stack_form.specs.Meanings.{is_top, cause_of, first_node, IsNode, AreLinked, IsKnown, IsStack, WasTop, WasNode, Learnt, Knows}
use Rattle.treiber_stack_form.specs.Meanings.AreLinked.{ends, leads}
use Rattle.treiber_stack_form.specs.Form.{stack_form}

-- ---- the changes and the top

-- changes grow in front
pub record Extends (old new : List Change) : Type 0 where
  pub longer : length old ≤ length new
  pub among : (change : Change) → Among change old → Among change new

-- the top rises, and no more is said of it
abbrev pub Anyhow : ℕ → ℕ → Type 0
Anyhow word after = Unit {0}

abbrev pub Later : World → World → Type 0
Later world after = any_step.Later stack_form Extends Anyhow world after

pub later : (world after : World) → IsStack world → IsStep stack_form world after → Later world after
later =
    any_step.later stack_form Extends Anyhow (record {
      same = λ changes. record { longer = omega arith; among = λ change a. a };
      beside = λ world entry stack. record { longer = omega arith; among = λ change a. a };
      first = λ world list stack new. record { longer = omega arith; among = λ change a. inr a };
      second = λ world list stack. record { longer = omega arith; among = λ change a. inr a };
      stays = λ word. tt;
      clears = λ word. tt;
      asks = λ world search op since asking knows. tt;
      wraps = λ world wrap list stop going follows. absurd follows;
      lists = λ world list search since j entry word low offer listed change. tt;
    })

-- ---- the words of nodes

-- the one entry of a ready search's list is at the top
one_top : (world : World) (list : Listed) (search : StackSearch) (since : ℕ) → IsOffered stack_form world list search since → (top reference : ℕ) × (list.entries ≡ top_entry top reference ∷ [])
one_top world list (PutReady top) since offer = (_, _, offer.entries)
one_top world list (TakeReady top next) since offer = (_, _, offer.entries)
one_top world list _ since offer = absurd offer.ready

at_top : (world : World) (list : Listed) (search : StackSearch) (since : ℕ) (entry : Entry) → IsOffered stack_form world list search since → slice_get list.entries 0 ≡ Some entry → entry.target ≡ TOP
at_top world list search since entry offer listed = ap (λ (e : Entry). e.target) (sym (the_entry list.entries entry _ listed (one_top world list search since offer).2))

-- a field of a node in a used block is the stack's word
pub node_is_word : (world : World) (reference field : ℕ) → field < 5 → world.used (block_at (node_place reference field)) ≡ true → is_word is_top world (node_place reference field) ≡ true
unfolding node_place
node_is_word world reference field small used =
    behind_notes is_top world (reference / 4) (12 + 5 * (node_named reference - 1) + field) (omega (arith, node_field_below reference field small))
    (ap world.used (sym (block_at-node_place reference field small)) ∙ used) (omega arith)

-- so its word stays, for it is never exchanged
abbrev pub NodesStay : World → World → Type 0
NodesStay world after = (reference field : ℕ) → field < 5 → world.used (block_at (node_place reference field)) ≡ true → after.words (node_place reference field) ≡ world.words (node_place reference field)

pub nodes_stay : (world after : World) → IsStep stack_form world after → NodesStay world after
nodes_stay world _ nothing reference field small used = refl
nodes_stay world _ (elsewhere at word none) reference field small used = beside_word is_top world at word none _ (node_is_word world reference field small used)
nodes_stay world _ (clears at here versioned listable) reference field small used = word_beside at _ world.words _ (λ same. behind_first reference field TOP (omega arith) (same ∙ eqb-true at TOP versioned))
nodes_stay world after (searches {seen = seen} search op since command asks knows requested) reference field small used =
    ap (λ (w : World). w.words (node_place reference field)) (went stack_form (asked search) world after seen requested).0
nodes_stay world after (wraps wrap list stop command going follows requested) reference field small used = absurd follows
nodes_stay world _ (first list search since entry word offer fresh none needs listed same change) reference field small used =
    word_beside entry.target word world.words _ (λ at. behind_first reference field TOP (omega arith) (at ∙ at_top world list search since entry offer listed))
nodes_stay world _ (first_of_block list search since entry word offer fresh block unused filled listed same change) reference field small used =
    word_beside entry.target word world.words _ (λ at. behind_first reference field TOP (omega arith) (at ∙ at_top world list search since entry offer listed))
nodes_stay world _ (second list search since entry word offer took unmade listed same change) reference field small used =
    absurd (no_second list.entries _ entry (one_top world list search since offer).2 listed)

module _ (world after : World) (kept : Later world after) (stay : NodesStay world after) where
  -- ---- nodes and won exchanges

  node_kept : (block value : ℕ) (behind : List ℕ) → IsNode world block value behind → IsNode after block value behind
  node_kept block value behind node =
      record {
        used = kept.used block node.used;
        valued = stay (reference_to block 1) NODE_VALUE (omega arith) (ap world.used (block_of_place block NODE_VALUE (omega arith)) ∙ node.used) ∙ node.valued;
        linked = ap versioned_value (stay (reference_to block 1) NODE_NEXT (omega arith) (ap world.used (block_of_place block NODE_NEXT (omega arith)) ∙ node.used)) ∙ node.linked;
        once = node.once;
      }

  linked_kept : (blocks values : List ℕ) → AreLinked world blocks values → AreLinked after blocks values
  linked_kept _ _ ends = ends
  linked_kept _ _ (leads block value blocks values node linked) = leads block value blocks values (node_kept block value blocks node) (linked_kept blocks values linked)

  stands_kept : (outcome : Outcome) (reply : Reply) → StandsFor world outcome reply → StandsFor after outcome reply
  stands_kept (Plain told) reply stands = stands
  stands_kept (ValueOf reference) reply stands = (kept.used _ stands.0, ap Value (stay reference NODE_VALUE (omega arith) stands.0) ∙ stands.1)

  -- the blocks that the top leads to may be others, where no node that was taken comes in
  known_kept : (blocks others : List ℕ) (won : Won) → (won.cause.kind ≡ 1 → ¬ Among won.cause.block others) → IsKnown world blocks won → IsKnown after others won
  known_kept blocks others won gone known =
      record {
        used = kept.used won.cause.block known.used;
        kind = known.kind;
        gone = gone;
        list = known.list;
        maker = known.maker;
        made = record { reply = known.made.reply; change = kept.extends.among _ known.made.change; told = stands_kept _ known.made.reply known.made.told };
      }

  -- ---- searches

  top_kept : (top : ℕ) → WasTop world top → WasTop after top
  top_kept top was = record { seen = λ clear. rises_seen (world.words TOP) (after.words TOP) top (kept.rises TOP refl refl) clear (was.seen clear); clear = was.clear }

  named_kept : (top : ℕ) → WasNode world top → WasNode after top
  named_kept top was = record { was_top = top_kept top was.was_top; some = was.some; used = kept.used _ was.used }

  learnt_kept : (search : StackSearch) → Learnt search world → Learnt search after
  learnt_kept (PutReady top) learnt = top_kept top learnt
  learnt_kept (TakeNext top) learnt = named_kept top learnt
  learnt_kept (TakeReady top next) learnt = (named_kept top learnt.0, stay (versioned_value top) NODE_NEXT (omega arith) learnt.0.used ∙ learnt.1)
  learnt_kept _ learnt = tt

  pub knows_later : (search : StackSearch) (op : Op) (since : ℕ) → Knows search op world since → Knows search op after since
  knows_later search op since knows =
      record { serves = knows.serves; began = omega (arith, knows.began, kept.extends.longer); learnt = learnt_kept search knows.learnt }

-- ---- a step that wins nothing

-- it leaves what the top names
still : (world : World) (place word : ℕ) → IsStack world → Later world (put_word place word world) → NodesStay world (put_word place word world)
    → versioned_value (with_word place word world.words TOP) ≡ versioned_value (world.words TOP) → IsStack (put_word place word world)
still world place word stack kept stay same =
    record {
      blocks = stack.blocks;
      top = same ∙ stack.top;
      linked = linked_kept world (put_word place word world) kept stay stack.blocks (held_after stack_object world.changes) stack.linked;
      zero = stack.zero;
      effective = stack.effective;
      made = made_stay world (put_word place word world) kept.used kept.journal refl stack.made;
      known = λ won a. known_kept world (put_word place word world) kept stay stack.blocks stack.blocks won (stack.known won a).gone (stack.known won a);
      causes_differ = stack.causes_differ;
    }

-- ---- the entry of a list

-- after its exchange, with these used blocks
abbrev taken : World → Listed → Entry → ℕ → (ℕ → Bool) → World
taken world list entry word used = record (exchanged stack_form (By list 0) (Some list) entry word world) { used = used }

-- the blocks that the top leads to are used
blocks_used : (world : World) (blocks values : List ℕ) (block : ℕ) → AreLinked world blocks values → Among block blocks → world.used block ≡ true
blocks_used world _ _ block (leads other value blocks values node linked) (inl same) = ap world.used same ∙ node.used
blocks_used world _ _ block (leads other value blocks values node linked) (inr among) = blocks_used world blocks values block linked among
blocks_used world _ _ block ends among = absurd among

module _ (world : World) (stack : IsStack world) (list : Listed) (word : ℕ) (used : ℕ → Bool) (fresh : IsFresh world list)
    (own : used list.block ≡ true) (unused : 0 < list.block → world.used list.block ≡ false) where
  abbrev held : List ℕ
  held = held_after stack_object world.changes

  -- the exchange of an entry keeps the shape
  abbrev Keeps : Entry → Type 0
  Keeps entry =
      slice_get list.entries 0 ≡ Some entry → world.words entry.target ≡ entry.from → IsExchanged entry word
      → Later world (taken world list entry word used) → NodesStay world (taken world list entry word used) → IsStack (taken world list entry word used)

  -- where the top then leads to these blocks, with what is held then
  won_keeps : (top reference : ℕ) (blocks values : List ℕ) → reference < 2 ^ 24 → reference ≡ first_node blocks → (stack_apply list.call.op held).0 ≡ values → values ≢ held
      → AreLinked (taken world list (top_entry top reference) word used) blocks values
      → IsKnown (taken world list (top_entry top reference) word used) blocks (any_step.item_of (By list 0) (top_entry top reference) (cause_of world (By list 0) (top_entry top reference)))
      → ((won : Won) → Among won world.journal → (won.cause.kind ≡ 1 → ¬ Among won.cause.block blocks) × (won.cause ≢ cause_of world (By list 0) (top_entry top reference))) → Keeps (top_entry top reference)
  won_keeps top reference blocks values small names applied more linked known others listed same change kept stay =
      let after = taken world list (top_entry top reference) word used in
      record {
        blocks = blocks;
        top = ap versioned_value (same_place TOP word world.words) ∙ sym (value-cleared word) ∙ ap versioned_value change.to ∙ value-changed top reference small ∙ names;
        linked = subst (AreLinked after blocks) (sym applied) linked;
        zero = kept.used 0 stack.zero;
        effective = (λ e. more (sym applied ∙ e), stack.effective);
        made = made_more world after kept.used kept.journal stack.made (change_of stack_object list world.changes) refl fresh
            (record { entry = top_entry top reference; cause = cause_of world (By list 0) (top_entry top reference); listed = listed; won = inl refl }) own unused;
        known = each_more (IsKnown after blocks) _ world.journal _ refl known (λ won a. known_kept world after kept stay stack.blocks blocks won (others won a).0 (stack.known won a));
        causes_differ = pairs_more (λ (a b : Won). a.cause ≢ b.cause) _ world.journal _ refl (λ won a e. (others won a).1 (sym e)) stack.causes_differ;
      }

  -- the node of a put is a new one, and leads to the node that was the top's
  put_keeps : (top : ℕ) → is_put list.call.op ≡ true → list.block < 2 ^ 17 → world.used list.block ≡ false → All (λ (store : ℕ × ℕ). world.words store.0 ≡ store.1) (put_offer top list.call.op.value list.block).stores
      → Keeps (top_entry top (reference_to list.block 1))
  put_keeps top put small new stored listed same change kept stay =
      won_keeps top (reference_to list.block 1) (list.block ∷ stack.blocks) (list.call.op.value ∷ held) (omega (arith, small)) refl (rw put refl) (λ e. omega (arith, ap (λ (vs : List ℕ). length vs) e))
      (leads list.block list.call.op.value stack.blocks held node (linked_kept world _ kept stay stack.blocks held stack.linked))
      (record {
        used = rw put own;
        kind = rw put (omega arith);
        gone = rw put (λ e. absurd (omega (arith, e)));
        list = list;
        maker = refl;
        made = record { reply = Done; change = rw put (inl refl); told = rw put refl };
      })
      (λ won a. (λ took. elim [ inl e ↦ is_new won.cause.block (stack.known won a).used e | inr among ↦ (stack.known won a).gone took among ], rw put (λ e. is_new won.cause.block (stack.known won a).used (ap (λ (c : Cause). c.block) e)))) listed same change kept stay
    where
      is_new : (block : ℕ) → world.used block ≡ true → block ≢ list.block
      is_new block is e = true≢false (sym is ∙ ap world.used e ∙ new)

      node : IsNode (taken world list (top_entry top (reference_to list.block 1)) word used) list.block list.call.op.value stack.blocks
      node =
          record {
            used = own;
            valued = word_beside TOP word world.words _ (behind_first (reference_to list.block 1) NODE_VALUE TOP (omega arith)) ∙ stored 0 (0, 0) (omega arith);
            linked = ap versioned_value (word_beside TOP word world.words _ (behind_first (reference_to list.block 1) NODE_NEXT TOP (omega arith)) ∙ stored 1 (0, 0) (omega arith))
                ∙ value_small (versioned_value top) (value_below top) ∙ ap versioned_value (sym same) ∙ stack.top;
            once = λ among. is_new list.block (blocks_used world stack.blocks held list.block stack.linked among) refl;
          }

  -- a take leads past the first node, which tells its value for ever
  take_keeps : (top next : ℕ) → is_put list.call.op ≡ false → Learnt (TakeReady top next) world → Keeps (top_entry top (versioned_value next))
  take_keeps top next take learnt listed same change kept stay = by_nodes stack.blocks held refl refl stack.linked
    where
      by_nodes : (blocks values : List ℕ) → stack.blocks ≡ blocks → held ≡ values → AreLinked world blocks values → IsStack (taken world list (top_entry top (versioned_value next)) word used)
      by_nodes _ _ is_blocks is_held ends = absurd (learnt.0.some (ap versioned_value (sym same) ∙ stack.top ∙ ap (λ (bs : List ℕ). first_node bs) is_blocks))
      by_nodes _ _ is_blocks is_held (leads block value blocks values node linked) =
          let named : versioned_value top ≡ reference_to block 1 = ap versioned_value (sym same) ∙ stack.top ∙ ap (λ (bs : List ℕ). first_node bs) is_blocks in
          let at : versioned_value top / 4 ≡ block = ap (λ v. v / 4) named ∙ block-reference_to block 1 (omega arith) in
          won_keeps top (versioned_value next) blocks values (value_below next) (ap versioned_value (sym learnt.1) ∙ ap (λ r. versioned_value (world.words (node_place r NODE_NEXT))) named ∙ node.linked)
          (rw (take, is_held) refl) (λ e. omega (arith, ap (λ (vs : List ℕ). length vs) (e ∙ is_held))) (linked_kept world _ kept stay blocks values linked)
          (record {
            used = rw (take, at) (kept.used block node.used);
            kind = rw take (omega arith);
            gone = rw (take, at) (λ e. node.once);
            list = list;
            maker = refl;
            made = record {
              reply = Value value;
              change = rw (take, is_held) (inl refl);
              told = rw (take, named) (stands_kept world _ kept stay (ValueOf (reference_to block 1)) (Value value) (ap world.used (block_of_place block NODE_VALUE (omega arith)) ∙ node.used, ap Value node.valued));
            };
          })
          (λ won a. (λ took among. (stack.known won a).gone took (rw is_blocks (inr among)), rw (take, at) (λ e. (stack.known won a).gone (ap (λ (c : Cause). c.kind) e) (rw is_blocks (inl (ap (λ (c : Cause). c.block) e)))))) listed same change kept stay

  -- a put has a new block that is filled
  entry_keeps : (search : StackSearch) (since : ℕ) (entry : Entry) → IsOffered stack_form world list search since
      → (is_put list.call.op ≡ true → (world.used list.block ≡ false) × All (λ (store : ℕ × ℕ). world.words store.0 ≡ store.1) (offered search list.call.op list.block).stores) → Keeps entry
  entry_keeps (PutReady top) since entry offer filled listed =
      let put = offer.knows.serves in
      let stored = subst (λ b. All (λ (store : ℕ × ℕ). world.words store.0 ≡ store.1) (put_offer top list.call.op.value b).stores) (cond-true (is_put list.call.op) list.block 0 put) (filled put).1 in
      subst Keeps (the_entry list.entries entry (top_entry top (reference_to list.block 1)) listed (rw put at offer.entries)) (put_keeps top put offer.small (filled put).0 stored) listed
  entry_keeps (TakeReady top next) since entry offer filled listed =
      subst Keeps (the_entry list.entries entry (top_entry top (versioned_value next)) listed offer.entries) (take_keeps top next offer.knows.serves offer.knows.learnt) listed
  entry_keeps _ since entry offer filled listed = absurd offer.ready

-- ---- each step

keeps : (world after : World) → IsStack world → Later world after → NodesStay world after → IsStep stack_form world after → IsStack after
keeps world _ stack kept stay nothing = stack
keeps world _ stack kept stay (elsewhere place word none) = still world place word stack kept stay (ap versioned_value (beside_word is_top world place word none TOP refl))
keeps world _ stack kept stay (clears place some versioned listable) =
    still world place (cleared_word (world.words place)) stack kept stay
    (all_put (λ word after. versioned_value after ≡ versioned_value word) (λ word. refl) world.words place (cleared_word (world.words place)) (value-cleared (world.words place)) TOP)
keeps world after stack kept stay (searches {seen = seen} search op since command asks knows requested) = subst IsStack (sym (went stack_form (asked search) world after seen requested).0) stack
keeps world after stack kept stay (wraps wrap list stop command going follows requested) = absurd follows
keeps world _ stack kept stay (first list search since entry word offer fresh none needs listed same change) =
    entry_keeps world stack list word world.used fresh (ap world.used none ∙ stack.zero) (λ some. absurd (omega (arith, some, none))) search since entry offer (λ put. absurd (true≢false (sym put ∙ needs))) listed same change kept stay
keeps world _ stack kept stay (first_of_block list search since entry word offer fresh some unused filled listed same change) =
    entry_keeps world stack list word (using_block list.block world.used) fresh (or_left (eqb list.block list.block) (world.used list.block) (eq-eqb list.block list.block refl)) (λ some. unused)
    search since entry offer (λ put. (unused, filled.stored)) listed same change kept stay
keeps world _ stack kept stay (second list search since entry word offer took unmade listed same change) = absurd (no_second list.entries _ entry (one_top world list search since offer).2 listed)

pub shape_keeps : (world after : World) → IsStack world → IsStep stack_form world after → IsStack after
shape_keeps world after stack step = keeps world after stack (later world after stack step) (nodes_stay world after step) step
