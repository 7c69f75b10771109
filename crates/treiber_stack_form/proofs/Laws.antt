-- The laws of the stack: what its steps amount to.
use Rattle.std.proofs.Common.{◌≡◌, ◌≢◌, ℕ, ◌+◌, ◌^◌, ◌<◌, ◌≤◌, true, false, if◌then◌else◌, eqb, List, [], ◌∷◌, ◌++◌, All, AllPairs, slice_get, length, Option, Some, None, refl, ap, ◌∙◌, subst, inl, arith}
use Rattle.std.proofs.lemmas.Bool.{eqb-true, eqb-false, ne_eqb, cond_both}
use Rattle.std.proofs.lemmas.Bool.Decides.{nat_tests}
use Rattle.std.proofs.lemmas.List.Elements.{All-nil, All-cons}
use Rattle.lin_report.specs.declared.calls.Op.{Op}
use Rattle.lin_report.specs.declared.calls.Outcome.TheVariants.{Plain, ValueOf}
use Rattle.lin_report.specs.declared.calls.Reply.TheVariants.{Done, Empty}
use Rattle.lin_report.specs.Object.{IsCommandOf}
use Rattle.step_memory.specs.declared.steps.Seen.{Seen}
use Rattle.word_fields.specs.Versioned.{versioned_value, is_modified, value_below}
use Rattle.node_arena.specs.declared.places.TheConstants.{NODE_VALUE, NODE_NEXT}
use Rattle.node_arena.specs.MemoryMap.{node_place, reference_to, block_at}
use Rattle.node_arena.proofs.PlacesApart.{node_place-reference_to, block_place_behind}
use Rattle.normal_traits.specs.declared.form.Found.{Found}
use Rattle.normal_traits.specs.declared.form.Found.TheVariants.{Going, Ready, Contended}
use Rattle.normal_traits.specs.declared.form.Wrapped.TheVariants as wrapped
use Rattle.normal_traits.specs.declared.lists.Entry.{Entry}
use Rattle.normal_traits.specs.World.{Listed, Won, Change, World, held_after, first_changes, RightSince, Took, Stopped, Observes, ChangedBy}
use Rattle.normal_traits.specs.Steps.{IsOffered}
use Rattle.normal_traits.specs.Laws.{AsksWell, FoundFits, MayContend, IsGoodStore, IsGoodOffer, Laws, opening_world, IsFixed, FitsRecord, WrappedFits, WrappedWell}
use Rattle.normal_traits.specs.AtOnce.{ChangesAtOnce}
use Rattle.client_lemmas.proofs.Words.{clear_from, value_small}
use Rattle.client_lemmas.proofs.Growing.{first_all, all_among, pairs_none}
use Rattle.client_lemmas.proofs.Places.{behind_first, apart_fields, block_of_place}
use Rattle.client_lemmas.proofs.Offers.{one_entry, two_apart}
use Rattle.client_lemmas.proofs.Requests.{from_load, went}
use Rattle.client_lemmas.proofs.Outcomes.{FedWell, either}
use Rattle.client_lemmas.proofs.Made.{none_made}
use Rattle.client_lemmas.proofs.Entries.{none_beside}
use Rattle.client_lemmas.proofs.Lost.{stopped_lost, lost_first, lost_later, lost_unchanged}
use Rattle.treiber_stack_form.specs.declared.states.TheConstants.{TOP}
use Rattle.treiber_stack_form.specs.declared.states.StackSearch.{StackSearch}
use Rattle.treiber_stack_form.specs.declared.states.StackSearch.TheVariants.{PutTop, PutReady, TakeTop, TakeNext, TakeReady}
use Rattle.treiber_stack_form.specs.declared.states.StackWrap.TheVariants.{Over}
use Rattle.treiber_stack_form.specs.Object.{is_put, stack_object}
use Rattle.treiber_stack_form.specs.Steps.{asked, asked_place, fed, met_by_take, Asks, IsReady, top_entry, offered, told, told_by, wrap_begun}
use Rattle.treiber_stack_form.specs.Meanings.{first_node, AreLinked, AreEffective, IsStack, WasTop, Learnt, Knows}
use Rattle.treiber_stack_form.specs.Meanings.AreLinked.{ends, leads}
use Rattle.treiber_stack_form.specs.Form.{stack_form}
use Rattle.treiber_stack_form.proofs.ShapeKept.{node_is_word, Extends, Anyhow, later, nodes_stay, knows_later, shape_keeps}

-- ---- a step of a search

asks_well : (world : World) (search : StackSearch) → Asks search → Learnt search world → AsksWell stack_form world (asked search)
asks_well world PutTop asks learnt = refl
asks_well world TakeTop asks learnt = refl
asks_well world (TakeNext top) asks learnt = node_is_word world (versioned_value top) NODE_NEXT (omega arith) learnt.used
asks_well world _ asks learnt = absurd asks

-- a search that has loaded the top gives up for a set bit
bit_met : (world : World) (op : Op) (since : ℕ) (search next : StackSearch) (found : Found) → Knows search op world since → (WasTop world (world.words TOP) → FedWell stack_form world op since (next, found))
    → FedWell stack_form world op since (if is_modified (world.words TOP) then (search, Contended) else (next, found))
bit_met world op since search next found knows clear =
    cond_both (is_modified (world.words TOP)) _ (next, found) (FedWell stack_form world op since) (λ set. (knows, tt))
    (λ is. clear (record { seen = λ bit. inl refl; clear = clear_from (world.words TOP) is }))

-- a take of an empty stack tells what holds now
empty_met : (world : World) (op : Op) (since : ℕ) → is_put op ≡ false → since ≤ length world.changes → held_after stack_object world.changes ≡ [] → RightSince stack_object world op since (Plain Empty)
empty_met world op since take began none =
    let held : held_after stack_object (first_changes (length world.changes) world.changes) ≡ [] = ap (λ (changes : List Change). held_after stack_object changes) (first_all world.changes) ∙ none in
    record { count = length world.changes; not_before = began; made = omega arith; observes = rw (held, take) refl; told = rw (held, take) refl }

-- a take: the top names none and nothing is held, or it names a node
take_met : (world : World) (op : Op) (since : ℕ) → IsStack world → Knows TakeTop op world since → FedWell stack_form world op since (met_by_take (world.words TOP))
take_met world op since stack knows = by_nodes stack.blocks (held_after stack_object world.changes) stack.top refl stack.linked
  where
    by_nodes : (blocks values : List ℕ) → versioned_value (world.words TOP) ≡ first_node blocks → held_after stack_object world.changes ≡ values → AreLinked world blocks values
        → FedWell stack_form world op since (met_by_take (world.words TOP))
    by_nodes _ _ null none ends = rw null (knows, (empty_met world op since knows.serves knows.began none, tt))
    by_nodes _ _ names is_held (leads block value blocks values node linked) =
        let some : versioned_value (world.words TOP) ≢ 0 = λ e. omega (arith, names, e) in
        let used = ap (λ r. world.used (block_at (node_place r NODE_NEXT))) names ∙ ap world.used (block_of_place block NODE_NEXT (omega arith)) ∙ node.used in
        rw (ne_eqb (versioned_value (world.words TOP)) 0 some)
        (bit_met world op since TakeTop (TakeNext (world.words TOP)) Going knows
        (λ was. (record { serves = knows.serves; began = knows.began; learnt = record { was_top = was; some = some; used = used } }, tt)))

fed_well : (world : World) (search : StackSearch) (op : Op) (since : ℕ) → IsStack world → Asks search → Knows search op world since
    → FedWell stack_form world op since (fed search (record { before = world.words (asked_place search); won = true }))
fed_well world PutTop op since stack asks knows =
    bit_met world op since PutTop (PutReady (world.words TOP)) Ready knows (λ was. (record { serves = knows.serves; began = knows.began; learnt = was }, tt))
fed_well world TakeTop op since stack asks knows = take_met world op since stack knows
fed_well world (TakeNext top) op since stack asks knows = (record { serves = knows.serves; began = knows.began; learnt = (knows.learnt, refl) }, tt)
fed_well world _ op since stack asks knows = absurd asks

-- what it answers of itself is Empty
found_fits : (search : StackSearch) (seen : Seen) → FoundFits (fed search seen).1
found_fits PutTop seen = grind (arith, nat_tests)
found_fits TakeTop seen = grind (arith, nat_tests)
found_fits _ seen = tt

contends : (search : StackSearch) (seen : Seen) → (fed search seen).1 ≡ Contended → MayContend stack_form search seen
contends PutTop seen e = inl (seen.before, refl, grind (arith, nat_tests))
contends TakeTop seen e = inl (seen.before, refl, grind (arith, nat_tests))
contends _ seen e = absurd cc

-- ---- the list

-- a field of a node is no versioned word
plain_store : (block field word : ℕ) → field < 5 → word < 2 ^ 64 → IsGoodStore stack_form block (node_place (reference_to block 1) field, word)
plain_store block field word low small =
    record {
      field = 12 + field;
      behind = omega arith;
      within = omega (arith, low);
      place = node_place-reference_to block 1 field (omega arith) (omega arith);
      word = small;
      versioned = λ is. absurd (behind_first (reference_to block 1) field TOP (omega arith) (eqb-true (node_place (reference_to block 1) field) TOP is));
    }

offer_of_top : (world : World) (top reference block : ℕ) (stores : List (ℕ × ℕ)) → WasTop world top → reference < 2 ^ 24 → All (IsGoodStore stack_form block) stores → AllPairs (λ (a b : ℕ × ℕ). a.0 ≢ b.0) stores → length stores ≤ 20
    → IsGoodOffer stack_form world block (record { entries = top_entry top reference ∷ []; stores = stores })
offer_of_top world top reference block stores was small =
    one_entry stack_form world block (top_entry top reference) stores
    (record { word = refl; versioned = refl; listable = refl; clear = was.clear; seen = was.seen; changed = (reference, small, refl) })

offers : (world : World) (search : StackSearch) (op : Op) (since block : ℕ) → IsCommandOf stack_object op → Knows search op world since → IsReady search → block < 2 ^ 17 → IsGoodOffer stack_form world block (offered search op block)
offers world (PutReady top) op since block command knows ready small =
    let value = plain_store block NODE_VALUE op.value (omega arith) (omega (arith, command.value)) in
    let next = plain_store block NODE_NEXT (versioned_value top) (omega arith) (omega (arith, value_below top)) in
    rw knows.serves (offer_of_top world top (reference_to block 1) block _ knows.learnt (omega (arith, small))
    (All-cons (IsGoodStore stack_form block) _ ((node_place (reference_to block 1) NODE_NEXT, versioned_value top) ∷ []) value (All-cons (IsGoodStore stack_form block) _ [] next (All-nil (IsGoodStore stack_form block))))
    (two_apart _ _ (apart_fields block block NODE_VALUE NODE_NEXT (omega arith) (omega arith) (λ e. omega (arith, e)))) (omega arith))
offers world (TakeReady top next) op since block command knows ready small =
    offer_of_top world top (versioned_value next) block [] knows.learnt.0.was_top (value_below next) (All-nil (IsGoodStore stack_form block)) (pairs_none (λ (a b : ℕ × ℕ). a.0 ≢ b.0)) (omega arith)
offers world _ op since block command knows ready small = absurd ready

-- only a put's list uses the block
same_entries : (search : StackSearch) (op : Op) (block other : ℕ) → is_put op ≡ false → (offered search op block).entries ≡ (offered search op other).entries
same_entries (PutReady top) op block other take = rw take refl
same_entries _ op block other take = refl

-- ---- a list that stopped

fixed : (op : Op) (top : ℕ) → IsFixed stack_form (told op top)
fixed op top = either (IsFixed stack_form) (is_put op) (Plain Done) (ValueOf (versioned_value top)) tt (ne_eqb (node_place (versioned_value top) NODE_VALUE) TOP (behind_first (versioned_value top) NODE_VALUE TOP (omega arith)))

begun_well : (world : World) (list : Listed) (search : StackSearch) (since stop : ℕ) → IsStack world → IsOffered stack_form world list search since → Stopped world list stop
    → WrappedWell stack_form world list stop Over (wrap_begun list.call.op list.entries stop)
begun_well world list search since stop stack offer stopped =
    cond_both (eqb stop 0) _ _ (WrappedWell stack_form world list stop Over)
    (λ none. stopped_lost stack_form world list search since offer (offers world search list.call.op since list.block offer.command offer.knows offer.ready offer.small) stop (eqb-true stop 0 none) stopped)
    (λ some. took_well (stopped.took 0 (omega (arith, eqb-false stop 0 some))))
  where
    -- the entry took effect
    took_well : (t : Took world list 0) → WrappedWell stack_form world list stop Over (wrapped.Done (told_by list.call.op (slice_get list.entries 0)))
    took_well t =
        let known = stack.known _ t.won in
        let same : known.list ≡ list = cc in
        rw t.listed (subst (λ (l : Listed). ChangedBy world l (told l.call.op t.entry.from)) same known.made, fixed list.call.op t.entry.from)

told_fits : (op : Op) (entry : Option Entry) → FitsRecord (told_by op entry)
told_fits op None = omega arith
told_fits op (Some entry) = either FitsRecord (is_put op) _ _ (omega arith) tt

-- ---- the shape

effective_behind : (newer older : List Change) (change : Change) → AreEffective (newer ++ change ∷ older) → ¬ Observes stack_object change.list.call.op (held_after stack_object older)
effective_behind [] older change effective = effective.0
effective_behind (newest ∷ newer) older change effective = effective_behind newer older change effective.1

opens : IsStack (opening_world stack_form)
opens =
    record {
      blocks = [];
      top = value_small 0 (omega arith);
      linked = ends;
      zero = refl;
      effective = tt;
      made = none_made (opening_world stack_form) refl;
      known = λ won a. absurd a;
      causes_differ = pairs_none (λ (a b : Won). a.cause ≢ b.cause);
    }

-- ---- all laws

pub laws : Laws stack_form
laws =
    record {
      of_world = record {
        effective = λ world newer older change stack split. effective_behind newer older change (subst AreEffective split stack.effective);
        one_change_a_list = λ world stack. stack.made.lists_differ;
        one_change_a_block = λ world stack. stack.made.blocks_differ;
        causes_differ = λ world stack. stack.causes_differ;
        causes_bounded = λ world stack.
            all_among (λ (won : Won). (world.used won.cause.block ≡ true) × (won.cause.kind < 8)) world.journal (λ won a. ((stack.known won a).used, omega (arith, (stack.known won a).kind)));
        begins_asking = λ op command. either Asks (is_put op) PutTop TakeTop tt tt;
        begins_knowing = λ world op command stack.
            cond_both (is_put op) PutTop TakeTop (λ search. Knows search op world (length world.changes)) (λ put. record { serves = put; began = omega arith; learnt = tt }) (λ take. record { serves = take; began = omega arith; learnt = tt });
        notes_plain = λ block field some low. ne_eqb _ TOP (λ e. omega (arith, block_place_behind block field, e));
        search_asks_well = λ world search op since command stack asks knows. asks_well world search asks knows.learnt;
        contends = λ search seen asks found. contends search seen found;
        lists = λ world search op since command knows ready. (refl, grind (arith, nat_tests, command.command));
        offers = λ world search op since block command stack knows ready small. offers world search op since block command knows ready small;
        same_entries = same_entries;
        wrap_asks_well = λ world wrap list stop stack going follows. absurd follows;
        wrap_begun = begun_well;
        dead_unchanged = λ world list change stack dead among. lost_unchanged stack_form world list change stack.made dead among;
        dead_first = λ world list search since entry stack dead offer fresh listed. lost_first stack_form world list entry dead listed;
        beside = λ world list entry stack adds. absurd (none_beside list adds);
        begun_fits = λ world list search since stop stack offer stopped. either WrappedFits (eqb stop 0) _ _ tt (told_fits list.call.op (slice_get list.entries 0));
      };
      opens = opens;
      shape_kept = shape_keeps;
      knows_kept = λ world after search op since command stack knows step. knows_later world after (later world after stack step) (nodes_stay world after step) search op since knows;
      follows_kept = λ world after wrap list stop stack follows step. follows;
      dead_kept = λ world after list stack dead step. lost_later stack_form Extends Anyhow world after list (later world after stack step) dead;
      search_fed = λ world after seen search op since command stack asks knows requested.
          from_load world after seen (asked_place search) (λ a s. FedWell stack_form a op since (fed search s)) (went stack_form (asked search) world after seen requested) (fed_well world search op since stack asks knows);
      wrap_fed = λ world after seen wrap list stop command stack going follows requested. absurd follows;
      answers_fit = λ world after seen search op since command stack asks knows requested. found_fits search seen;
      wraps_fit = λ world after seen wrap list stop command stack going follows requested. absurd follows;
    }

pub stack_changes_at_once : ChangesAtOnce stack_form
stack_changes_at_once list = refl
