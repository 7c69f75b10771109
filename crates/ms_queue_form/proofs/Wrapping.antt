-- The laws of the queue's wrap-up: what it may say at once, and what comes of moving the tail.
use Rattle.std.proofs.Common.{◌≡◌, ℕ, ◌+◌, ◌<◌, ◌≤◌, Bool, true, false, cond, eqb, refl, sym, ap, ◌∙◌, subst, inl, inr, ◌⊎◌, Some, arith}
use Rattle.std.specs.Prelude.{slice_get}
use Rattle.std.proofs.lemmas.Bool.{false≢true, eqb-true, cond-true, cond-false, cases_order, cases_eq, eq-eqb, ne_eqb}
use Rattle.lin_report.specs.declared.calls.Reply.{Reply}
use Rattle.lin_report.specs.declared.calls.Reply.TheVariants.{Done, Value}
use Rattle.lin_report.specs.declared.calls.Outcome.TheVariants.{ValueOf}
use Rattle.step_memory.specs.declared.steps.Seen.{Seen}
use Rattle.word_fields.specs.Versioned.{versioned_value, versioned_version, value_below}
use Rattle.node_arena.specs.declared.places.TheConstants.{TAIL, NODE_VALUE, NODE_NEXT}
use Rattle.node_arena.specs.MemoryMap.{node_place, block_at}
use Rattle.normal_traits.specs.declared.form.Wrapped.{Wrapped}
use Rattle.normal_traits.specs.declared.form.Wrapped.TheVariants as wrapped
use Rattle.normal_traits.specs.World.{Listed, World, Won, Among, Took, Stopped}
use Rattle.normal_traits.specs.World.Maker.{By}
use Rattle.normal_traits.specs.Steps.{IsOffered}
use Rattle.normal_traits.specs.Laws.{AsksWell}
use Rattle.ms_queue_form.specs.declared.states.QueueSearch.{QueueSearch}
use Rattle.ms_queue_form.specs.declared.states.QueueWrap.{QueueWrap}
use Rattle.ms_queue_form.specs.declared.states.QueueWrap.TheVariants.{Over, Tail, Swing}
use Rattle.ms_queue_form.specs.Search.{is_put, next_place}
use Rattle.ms_queue_form.specs.Wrap.{done, after_entry, wrap_begun, wrap_asked, wrap_fed, Wraps}
use Rattle.ms_queue_form.specs.Chain.{puts, node_block, put_value, node_at, next_of, value_of, is_versioned}
use Rattle.ms_queue_form.specs.Shape.{kind_of, reply_at, MadeChange, IsQueue}
use Rattle.ms_queue_form.specs.Knowledge.{WasLinked, Follows}
use Rattle.ms_queue_form.specs.Form.{queue_form}
use Rattle.ms_queue_form.proofs.Places.{value_not_versioned}
use Rattle.ms_queue_form.proofs.Journal.{reached_within}
use Rattle.ms_queue_form.proofs.LearntStays.{next_place_is}
use Rattle.ms_queue_form.proofs.ShapeKept.{one_alone}
use Rattle.ms_queue_form.proofs.Later.{Later}
use Rattle.ms_queue_form.proofs.Searching.{tail_loaded}
use Rattle.ms_queue_form.proofs.Offers.{offers}
use Rattle.client_lemmas.proofs.Places.{apart_nodes, block_of_place}
use Rattle.client_lemmas.proofs.Requests.{Went}
use Rattle.client_lemmas.proofs.Lost.{stopped_lost}
use Rattle.client_lemmas.proofs.Outcomes.{WellWrapped}

-- ---- what it asks for

pub wrap_asks_well : (world : World) (wrap : QueueWrap) (list : Listed) (stop : ℕ) → Wraps wrap → Follows wrap list stop world → AsksWell queue_form world (wrap_asked wrap)
wrap_asks_well world Over list stop going follows = absurd going
wrap_asks_well world (Tail target to) list stop going follows = refl
wrap_asks_well world (Swing tail to) list stop going follows = (refl, refl, λ listable. absurd (false≢true listable), (versioned_value to, value_below to, refl))

-- ---- a put that moves the tail

put_done : (world : World) (list : Listed) (stop : ℕ) → Among (record { list = list; reply = Done }) world.changes → WellWrapped queue_form world list stop done
put_done world list stop change = (record { reply = Done; change = change; told = refl }, tt)

-- two places of next words of the chain are one for one node alone
same_next : (world : World) → IsQueue world → (i k : ℕ) → i ≤ puts world.changes → k ≤ puts world.changes → next_of world.changes i ≡ next_of world.changes k → i ≡ k
same_next world queue i k low low' same = by_order (cases_order i k)
  where
    by_order : (i ≡ k) ⊎ ((i < k) ⊎ (k < i)) → i ≡ k
    by_order (inl one) = one
    by_order (inr (inl before)) =
        absurd (apart_nodes (node_block world.changes i) (node_block world.changes k) NODE_NEXT NODE_NEXT (omega arith) (omega arith) (queue.chain.apart i k before low') same)
    by_order (inr (inr after)) =
        absurd (apart_nodes (node_block world.changes k) (node_block world.changes i) NODE_NEXT NODE_NEXT (omega arith) (omega arith) (queue.chain.apart k i after low) (sym same))

tail_met : (world : World) → IsQueue world → (list : Listed) (stop target to : ℕ) → Among (record { list = list; reply = Done }) world.changes → WasLinked world target to
    → WellWrapped queue_form world list stop (cond (eqb (next_place (world.words TAIL)) target) (Swing (world.words TAIL) to, wrapped.Going) done)
tail_met world queue list stop target to change was = by_place (eqb (next_place (world.words TAIL)) target) refl
  where
    by_place : (at : Bool) → eqb (next_place (world.words TAIL)) target ≡ at → WellWrapped queue_form world list stop (cond at (Swing (world.words TAIL) to, wrapped.Going) done)
    by_place true e =
        let tail = tail_loaded world queue in
        let same = sym (next_place_is world (world.words TAIL) tail) ∙ eqb-true (next_place (world.words TAIL)) target e ∙ was.place in
        let k : versioned_version (world.words TAIL) ≡ was.k = same_next world queue (versioned_version (world.words TAIL)) was.k queue.ends.within (omega (arith, was.within)) same in (
          tt,
          record {
            change = change;
            learnt = (tail, record { names = was.names ∙ ap (λ n. node_at world.changes (n + 1)) (sym k); within = omega (arith, k, was.within) });
          },
        )
    by_place false e = put_done world list stop change

pub wrap_met : (world after : World) (seen : Seen) (wrap : QueueWrap) (list : Listed) (stop : ℕ) → IsQueue world → Later world after → Wraps wrap → Follows wrap list stop world → Went queue_form (wrap_asked wrap) world after seen
    → WellWrapped queue_form after list stop (wrap_fed wrap seen)
wrap_met world after seen Over list stop queue kept going follows w = absurd going
wrap_met world after seen (Tail target to) list stop queue kept going follows w =
    subst (λ (a : World). WellWrapped queue_form a list stop (wrap_fed (Tail target to) seen)) (sym w.0)
    (subst (λ (s : Seen). WellWrapped queue_form world list stop (wrap_fed (Tail target to) s)) (sym w.1) (tail_met world queue list stop target to follows.change follows.learnt))
wrap_met world after seen (Swing tail to) list stop queue kept going follows w = put_done after list stop (kept.extends.among _ follows.change)

-- ---- a list that stopped

-- a list that took effect made its change
listed_of : (world : World) → IsQueue world → (list : Listed) → (t : Took world list 0)
    → (before : ℕ) × (before + 1 ≤ puts world.changes) × (versioned_value t.entry.to ≡ node_at world.changes (before + 1))
    × MadeChange world (record { place = t.entry.target; before = t.entry.from; after = t.entry.to; maker = By list 0; cause = t.cause }) list before
listed_of world queue list t =
    let item : Won = record { place = t.entry.target; before = t.entry.from; after = t.entry.to; maker = By list 0; cause = t.cause } in
    let known = queue.journal.known item t.won in
    (known.before, omega (arith, known.within, reached_within world queue.ends (kind_of item.maker)), known.node, known.made.1)

-- the entry took effect
succeeded : (world : World) → IsQueue world → (list : Listed) (stop : ℕ) (t : Took world list 0) → WellWrapped queue_form world list stop (after_entry list.call.op (Some t.entry))
succeeded world queue list stop t = by_op (is_put list.call.op) refl
  where
    by_op : (put : Bool) → is_put list.call.op ≡ put → WellWrapped queue_form world list stop (cond put (Tail t.entry.target t.entry.to, wrapped.Going) (Over, wrapped.Done (ValueOf (versioned_value t.entry.to))))
    by_op true e =
        let known = listed_of world queue list t in
        let reply : reply_at world.changes list (known.0 + 1) ≡ Done = cond-true (is_put list.call.op) Done (Value (put_value world.changes (known.0 + 1))) e in (
          tt,
          record {
            change = subst (λ (r : Reply). Among (record { list = list; reply = r }) world.changes) reply known.3.change;
            learnt = record { k = known.0; within = omega (arith, known.1); place = known.3.place e; names = known.2 };
          },
        )
    by_op false e =
        let known = listed_of world queue list t in
        let reply : reply_at world.changes list (known.0 + 1) ≡ Value (put_value world.changes (known.0 + 1)) = cond-false (is_put list.call.op) Done (Value (put_value world.changes (known.0 + 1))) e in
        let block = node_block world.changes (known.0 + 1) in
        let at : node_place (versioned_value t.entry.to) NODE_VALUE ≡ value_of world.changes (known.0 + 1) = ap (λ reference. node_place reference NODE_VALUE) known.2 in (
          record {
            reply = Value (put_value world.changes (known.0 + 1));
            change = subst (λ (r : Reply). Among (record { list = list; reply = r }) world.changes) reply known.3.change;
            told = (
              ap (λ place. world.used (block_at place)) at ∙ ap world.used (block_of_place block NODE_VALUE (omega arith)) ∙ queue.chain.used (known.0 + 1) known.1,
              ap Value (ap world.words at ∙ queue.chain.valued known.0 (omega (arith, known.1))),
            );
          },
          ap is_versioned at ∙ value_not_versioned block,
        )

pub begun_well : (world : World) (list : Listed) (searched : QueueSearch) (since stop : ℕ) → IsQueue world → IsOffered queue_form world list searched since → Stopped world list stop
    → WellWrapped queue_form world list stop (wrap_begun list.call.op list.entries stop)
begun_well world list searched since stop queue offer stopped = by_stop (cases_eq stop 0) (cases_eq stop 1)
  where
    at_first : QueueWrap × Wrapped
    at_first = after_entry list.call.op (slice_get list.entries 0)

    by_stop : (stop ≡ 0) ⊎ (stop ≡ 0 → ⊥) → (stop ≡ 1) ⊎ (stop ≡ 1 → ⊥) → WellWrapped queue_form world list stop (wrap_begun list.call.op list.entries stop)
    by_stop (inl none) second =
        subst (WellWrapped queue_form world list stop) (sym (cond-true (eqb stop 0) (Over, wrapped.Restart) (cond (eqb stop 1) at_first done) (eq-eqb stop 0 none)))
        (stopped_lost queue_form world list searched since offer (offers world searched list.call.op since list.block offer.command queue offer.knows.serves offer.knows.learnt offer.ready offer.small) stop none stopped)
    by_stop (inr some) (inl one) =
        let t : Took world list 0 = stopped.took 0 (omega (arith, one)) in
        subst (WellWrapped queue_form world list stop)
        (sym (cond-false (eqb stop 0) (Over, wrapped.Restart) (cond (eqb stop 1) at_first done) (ne_eqb stop 0 some)
        ∙ cond-true (eqb stop 1) at_first done (eq-eqb stop 1 one) ∙ ap (after_entry list.call.op) t.listed))
        (succeeded world queue list stop t)
    by_stop (inr some) (inr more) =
        let t : Took world list 1 = stopped.took 1 (omega (arith, some, more)) in
        absurd (one_alone world list searched since t.entry offer t.listed)
