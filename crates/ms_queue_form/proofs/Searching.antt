-- The laws of the queue's search: what it asks for, what it learns from a step, and why it gives up.
use Rattle.std.proofs.Common.{◌≡◌, ◌≢◌, ℕ, ◌+◌, ◌<◌, ◌≤◌, Bool, true, false, cond, eqb, ◌||◌, ◌&&◌, List, [], length, refl, sym, ap, ◌∙◌, inl, inr, ◌⊎◌, arith}
use Rattle.std.proofs.lemmas.Bool.{true≢false, false≢true, eqb-true, eqb-false, cases_lt}
use Rattle.lin_report.specs.declared.calls.Op.{Op}
use Rattle.lin_report.specs.declared.calls.Reply.{Reply}
use Rattle.lin_report.specs.declared.calls.Reply.TheVariants.{Value, Empty}
use Rattle.lin_report.specs.declared.calls.Outcome.TheVariants.{Plain, ValueOf}
use Rattle.lin_report.specs.declared.calls.TheConstants.{PUT, TAKE, PEEK}
use Rattle.lin_report.specs.Commands.{takes_nothing}
use Rattle.lin_report.specs.Object.{IsCommandOf, queue_object, queue_apply, value_or_empty}
use Rattle.step_memory.specs.declared.steps.Seen.{Seen}
use Rattle.word_fields.specs.Versioned.{versioned_value, versioned_bit, versioned_version, is_modified, value_below}
use Rattle.node_arena.specs.declared.places.TheConstants.{HEAD, TAIL, NODE_VALUE}
use Rattle.node_arena.specs.MemoryMap.{node_place, block_at}
use Rattle.normal_traits.specs.declared.form.Found.TheVariants.{Going, Ready, Answer, Contended}
use Rattle.normal_traits.specs.World.{World, held_after, first_changes, RightSince}
use Rattle.normal_traits.specs.Laws.{AsksWell, IsFixed}
use Rattle.ms_queue_form.specs.declared.states.QueueSearch.{QueueSearch}
use Rattle.ms_queue_form.specs.declared.states.QueueSearch.TheVariants.{PutTail, PutNext, PutHelp, PutReady, TakeHead, TakeTail, TakeNext, TakeHelp, TakeReady, PeekHead, PeekNext}
use Rattle.ms_queue_form.specs.Search.{is_put, is_peek, begun, asked, fed, met_by_put, met_by_take, told_by_peek, Asks, next_place}
use Rattle.ms_queue_form.specs.Chain.{puts, node_block, node_at, next_of, value_of, is_versioned}
use Rattle.ms_queue_form.specs.Shape.{IsQueue}
use Rattle.ms_queue_form.specs.Knowledge.{WasTail, WasHead, WasNext, WasPeeked, Learnt, Knows}
use Rattle.ms_queue_form.specs.Form.{queue_form}
use Rattle.ms_queue_form.proofs.History.{apply-take, apply-peek, take_empty}
use Rattle.ms_queue_form.proofs.LearntStays.{next_place_is, next_place_word, first_now}
use Rattle.ms_queue_form.proofs.Later.{Later}
use Rattle.ms_queue_form.proofs.Places.{value_not_versioned}
use Rattle.client_lemmas.proofs.Words.{clear_from}
use Rattle.client_lemmas.proofs.Growing.{first_all}
use Rattle.client_lemmas.proofs.Places.{block_of_place}
use Rattle.client_lemmas.proofs.Requests.{Went, from_load}
use Rattle.client_lemmas.proofs.Outcomes.{FedWell}

-- ---- the beginning

pub begins_asking : (op : Op) → Asks (begun op)
begins_asking op = by_tests (is_put op) (is_peek op)
  where
    by_tests : (put peek : Bool) → Asks (cond put PutTail (cond peek PeekHead TakeHead))
    by_tests true peek = tt
    by_tests false true = tt
    by_tests false false = tt

-- a command of the queue that neither puts nor peeks takes
takes_else : (put take peek key rest : Bool) → put ≡ false → peek ≡ false → ((put && key) || ((take || peek) && rest)) ≡ true → take ≡ true
takes_else true take peek key rest other nor e = absurd (true≢false other)
takes_else false true peek key rest other nor e = refl
takes_else false false true key rest other nor e = absurd (true≢false nor)
takes_else false false false key rest other nor e = absurd (false≢true e)

pub begins_knowing : (world : World) (op : Op) → IsCommandOf queue_object op → Knows (begun op) op world (length world.changes)
begins_knowing world op command = by_tests (is_put op) (is_peek op) refl refl
  where
    by_tests : (put peek : Bool) → is_put op ≡ put → is_peek op ≡ peek → Knows (cond put PutTail (cond peek PeekHead TakeHead)) op world (length world.changes)
    by_tests true peek e f = record { serves = eqb-true op.code PUT e; began = omega arith; learnt = tt }
    by_tests false true e f = record { serves = eqb-true op.code PEEK f; began = omega arith; learnt = tt }
    by_tests false false e f =
        record { serves = eqb-true op.code TAKE (takes_else (is_put op) (eqb op.code TAKE) (is_peek op) (eqb op.key 0) (takes_nothing op) e f command.command); began = omega arith; learnt = tt }

-- ---- what it asks for

pub asks_well : (world : World) (searched : QueueSearch) (since : ℕ) → IsQueue world → Asks searched → Learnt searched world since → AsksWell queue_form world (asked searched)
asks_well world PutTail since queue asks l = refl
asks_well world (PutNext tail) since queue asks l = next_place_word world tail queue l
asks_well world (PutHelp tail next) since queue asks l = (refl, refl, λ listable. absurd (false≢true listable), (versioned_value next, value_below next, refl))
asks_well world (PutReady tail next) since queue asks l = absurd asks
asks_well world TakeHead since queue asks l = refl
asks_well world (TakeTail head) since queue asks l = refl
asks_well world (TakeNext head tail) since queue asks l = next_place_word world head queue l.0.was_tail
asks_well world (TakeHelp tail next) since queue asks l = (refl, refl, λ listable. absurd (false≢true listable), (versioned_value next, value_below next, refl))
asks_well world (TakeReady head next) since queue asks l = absurd asks
asks_well world PeekHead since queue asks l = refl
asks_well world (PeekNext head) since queue asks l = next_place_word world head queue l.was_tail

-- ---- what it learns from a load

module _ (world : World) (queue : IsQueue world) where
  pub tail_loaded : WasTail world (world.words TAIL)
  tail_loaded = record { names = queue.ends.tail; passed = omega arith; within = queue.ends.within }

  head_named : WasTail world (world.words HEAD)
  head_named =
      record {
        names = queue.ends.head ∙ ap (node_at world.changes) (sym queue.ends.taken);
        passed = omega (arith, queue.ends.taken, queue.ends.behind);
        within = omega (arith, queue.ends.taken, queue.ends.behind, queue.ends.within);
      }

  head_loaded : versioned_bit (world.words HEAD) ≡ 0 → WasHead world (world.words HEAD)
  head_loaded clear = record { was_tail = head_named; seen = λ is. inl refl; clear = clear; passed = omega arith }

  -- a peek has loaded the head: if a node is behind its node, that one's value is the first now
  head_peeked : (since : ℕ) → since ≤ length world.changes → WasPeeked world (world.words HEAD) since
  head_peeked since began =
      record {
        was_tail = head_named;
        passed = omega arith;
        first = λ some. first_now world since (versioned_version (world.words HEAD)) queue began (sym queue.ends.taken) some;
      }

  -- a next word names the next node, but at the last one none
  next_loaded : (word : ℕ) → WasTail world word → versioned_value (world.words (next_place word)) ≢ 0 → WasNext world word (world.words (next_place word))
  next_loaded word was some = by_place (cases_lt (versioned_version word) (puts world.changes))
    where
      by_place : (versioned_version word < puts world.changes) ⊎ (puts world.changes ≤ versioned_version word) → WasNext world word (world.words (next_place word))
      by_place (inl before) =
          record { names = ap (λ place. versioned_value (world.words place)) (next_place_is world word was) ∙ queue.chain.linked (versioned_version word) before; within = before }
      by_place (inr end) =
          let last : versioned_version word ≡ puts world.changes = omega (arith, was.within) in
          absurd (some (ap (λ place. versioned_value (world.words place)) (next_place_is world word was ∙ ap (next_of world.changes) last) ∙ queue.chain.last))

  last_loaded : (word : ℕ) → WasTail world word → versioned_value (world.words (next_place word)) ≡ 0 → versioned_version word ≡ puts world.changes
  last_loaded word was null = by_place (cases_lt (versioned_version word) (puts world.changes))
    where
      by_place : (versioned_version word < puts world.changes) ⊎ (puts world.changes ≤ versioned_version word) → versioned_version word ≡ puts world.changes
      by_place (inl before) =
          let named = ap (λ place. versioned_value (world.words place)) (next_place_is world word was) ∙ queue.chain.linked (versioned_version word) before in
          absurd (omega (arith, named, null))
      by_place (inr end) = omega (arith, was.within)

  -- the queue is empty where the head's node is the last
  empty_loaded : (head since : ℕ) (op : Op) → queue_apply op [] ≡ ([], Empty) → since ≤ length world.changes → WasTail world head → versioned_version head ≤ versioned_version (world.words HEAD) → versioned_value (world.words (next_place head)) ≡ 0
      → RightSince queue_object world op since (Plain Empty)
  empty_loaded head since op applied began was passed null =
      let last = last_loaded head was null in
      let none : held_after queue_object world.changes ≡ [] =
      take_empty (held_after queue_object world.changes) (omega (arith, queue.holds.count, last, passed, queue.ends.taken)) in
      let held : held_after queue_object (first_changes (length world.changes) world.changes) ≡ [] = ap (held_after queue_object) (first_all world.changes) ∙ none in
      record {
        count = length world.changes;
        not_before = omega arith;
        made = omega arith;
        observes = ap (λ (values : List ℕ). (queue_apply op values).0) held ∙ ap (λ (r : List ℕ × Reply). r.0) applied ∙ sym held;
        told = sym (ap (λ (values : List ℕ). (queue_apply op values).1) held ∙ ap (λ (r : List ℕ × Reply). r.1) applied);
      }

  -- the node behind the head's has the value that was the first one
  value_loaded : (head since : ℕ) (op : Op) → op.code ≡ PEEK → WasPeeked world head since → versioned_value (world.words (next_place head)) ≢ 0
      → RightSince queue_object world op since (ValueOf (versioned_value (world.words (next_place head)))) × IsFixed queue_form (ValueOf (versioned_value (world.words (next_place head))))
  value_loaded head since op serves was some =
      let next = next_loaded head was.was_tail some in
      let first = was.first next.within in
      let held = held_after queue_object (first_changes first.count world.changes) in
      let k = versioned_version head in
      let block = node_block world.changes (k + 1) in
      let at : node_place (versioned_value (world.words (next_place head))) NODE_VALUE ≡ value_of world.changes (k + 1) = ap (λ reference. node_place reference NODE_VALUE) next.names in
      let applied = apply-peek op held serves in (
        record {
          count = first.count;
          not_before = first.not_before;
          made = first.made;
          observes = ap (λ (r : List ℕ × Reply). r.0) applied;
          told = (
            ap (λ place. world.used (block_at place)) at ∙ ap world.used (block_of_place block NODE_VALUE (omega arith)) ∙ queue.chain.used (k + 1) (omega (arith, next.within)),
            ap Value (ap world.words at ∙ queue.chain.valued k next.within) ∙ ap value_or_empty (sym first.first) ∙ sym (ap (λ (r : List ℕ × Reply). r.1) applied),
          );
        },
        ap is_versioned at ∙ value_not_versioned block,
      )

-- ---- a step

put_met : (world : World) → IsQueue world → (op : Op) (since tail : ℕ) → op.code ≡ PUT → since ≤ length world.changes → WasTail world tail → FedWell queue_form world op since (met_by_put tail (world.words (next_place tail)))
put_met world queue op since tail serves began was = by_null (eqb (versioned_value (world.words (next_place tail))) 0) refl
  where
    next : ℕ
    next = world.words (next_place tail)

    by_bit : versioned_value (world.words (next_place tail)) ≡ 0 → (set : Bool) → is_modified (world.words (next_place tail)) ≡ set
        → FedWell queue_form world op since (cond set (PutNext tail, Contended) (PutReady tail (world.words (next_place tail)), Ready))
    by_bit null true e = (record { serves = serves; began = began; learnt = was }, tt)
    by_bit null false e = (record { serves = serves; began = began; learnt = (was, λ clear. inl refl, null, clear_from (world.words (next_place tail)) e) }, tt)

    by_null : (null : Bool) → eqb (versioned_value (world.words (next_place tail))) 0 ≡ null
        → FedWell queue_form world op since (cond null (cond (is_modified (world.words (next_place tail))) (PutNext tail, Contended) (PutReady tail (world.words (next_place tail)), Ready)) (PutHelp tail (world.words (next_place tail)), Going))
    by_null true e = by_bit (eqb-true (versioned_value (world.words (next_place tail))) 0 e) (is_modified (world.words (next_place tail))) refl
    by_null false e =
        (record { serves = serves; began = began; learnt = (was, next_loaded world queue tail was (eqb-false (versioned_value (world.words (next_place tail))) 0 e)) }, tt)

-- two words that name one node of the chain were exchanged there as often
same_version : (world : World) → IsQueue world → (tail head : ℕ) → WasTail world tail → WasTail world head → versioned_value tail ≡ versioned_value head → versioned_version head ≤ versioned_version tail → versioned_version head ≡ versioned_version tail
same_version world queue tail head was was' same order = by_order (cases_lt (versioned_version head) (versioned_version tail))
  where
    by_order : (versioned_version head < versioned_version tail) ⊎ (versioned_version tail ≤ versioned_version head) → versioned_version head ≡ versioned_version tail
    by_order (inl before) =
        let nodes = sym was'.names ∙ sym same ∙ was.names in
        absurd (queue.chain.apart (versioned_version head) (versioned_version tail) before was.within (omega (arith, nodes)))
    by_order (inr after) = omega arith

take_met : (world : World) → IsQueue world → (op : Op) (since head tail : ℕ) → op.code ≡ TAKE → since ≤ length world.changes → WasHead world head → WasTail world tail → versioned_version head ≤ versioned_version tail
    → FedWell queue_form world op since (met_by_take head tail (world.words (next_place head)))
take_met world queue op since head tail serves began was was_tail order = by_null (eqb (versioned_value (world.words (next_place head))) 0) refl
  where
    by_node : versioned_value (world.words (next_place head)) ≢ 0 → (same : Bool) → eqb (versioned_value tail) (versioned_value head) ≡ same
        → FedWell queue_form world op since (cond same (TakeHelp tail (world.words (next_place head)), Going) (TakeReady head (world.words (next_place head)), Ready))
    by_node some true e =
        let next = next_loaded world queue head was.was_tail some in
        let version = same_version world queue tail head was_tail was.was_tail (eqb-true (versioned_value tail) (versioned_value head) e) order in (
          record {
            serves = serves;
            began = began;
            learnt = (was_tail, record { names = next.names ∙ ap (λ k. node_at world.changes (k + 1)) version; within = omega (arith, version, next.within) });
          },
          tt,
        )
    by_node some false e =
        let next = next_loaded world queue head was.was_tail some in
        let differ : versioned_version head ≢ versioned_version tail =
        λ same. eqb-false (versioned_value tail) (versioned_value head) e (was_tail.names ∙ ap (node_at world.changes) (sym same) ∙ sym was.was_tail.names) in
        (record { serves = serves; began = began; learnt = (was, next, omega (arith, differ, order, was_tail.passed)) }, tt)

    by_null : (null : Bool) → eqb (versioned_value (world.words (next_place head))) 0 ≡ null
        → FedWell queue_form world op since (cond null (TakeNext head tail, Answer (Plain Empty)) (cond (eqb (versioned_value tail) (versioned_value head)) (TakeHelp tail (world.words (next_place head)), Going) (TakeReady head (world.words (next_place head)), Ready)))
    by_null true e =
        (record { serves = serves; began = began; learnt = (was, was_tail, order) }, (empty_loaded world queue head since op (apply-take op [] serves) began was.was_tail was.passed (eqb-true (versioned_value (world.words (next_place head))) 0 e), tt))
    by_null false e = by_node (eqb-false (versioned_value (world.words (next_place head))) 0 e) (eqb (versioned_value tail) (versioned_value head)) refl

head_met : (world : World) → IsQueue world → (op : Op) (since : ℕ) → op.code ≡ TAKE → since ≤ length world.changes → FedWell queue_form world op since (cond (is_modified (world.words HEAD)) (TakeHead, Contended) (TakeTail (world.words HEAD), Going))
head_met world queue op since serves began = by_bit (is_modified (world.words HEAD)) refl
  where
    by_bit : (set : Bool) → is_modified (world.words HEAD) ≡ set → FedWell queue_form world op since (cond set (TakeHead, Contended) (TakeTail (world.words HEAD), Going))
    by_bit true e = (record { serves = serves; began = began; learnt = tt }, tt)
    by_bit false e = (record { serves = serves; began = began; learnt = head_loaded world queue (clear_from (world.words HEAD) e) }, tt)

-- a peek has loaded the next word of the head's node
peek_met : (world : World) → IsQueue world → (op : Op) (since head : ℕ) → op.code ≡ PEEK → since ≤ length world.changes → WasPeeked world head since
    → FedWell queue_form world op since (PeekNext head, Answer (told_by_peek (world.words (next_place head))))
peek_met world queue op since head serves began was = by_null (eqb (versioned_value (world.words (next_place head))) 0) refl
  where
    by_null : (null : Bool) → eqb (versioned_value (world.words (next_place head))) 0 ≡ null
        → FedWell queue_form world op since (PeekNext head, Answer (cond null (Plain Empty) (ValueOf (versioned_value (world.words (next_place head))))))
    by_null true e =
        let null = eqb-true (versioned_value (world.words (next_place head))) 0 e in
        (record { serves = serves; began = began; learnt = was }, (empty_loaded world queue head since op (apply-peek op [] serves) began was.was_tail was.passed null, tt))
    by_null false e =
        (record { serves = serves; began = began; learnt = was }, value_loaded world queue head since op serves was (eqb-false (versioned_value (world.words (next_place head))) 0 e))

-- a help that was won begins anew, and one that was lost gives up
help_met : (world after : World) (seen : Seen) (op : Op) (since tail next : ℕ) (helping anew : QueueSearch) → Asks anew → (Knows anew op after since) → Knows helping op after since
    → FedWell queue_form after op since (cond seen.won (anew, Going) (helping, Contended))
help_met world after seen op since tail next helping anew asks fresh knows = by_won seen.won
  where
    by_won : (won : Bool) → FedWell queue_form after op since (cond won (anew, Going) (helping, Contended))
    by_won true = (fresh, asks)
    by_won false = (knows, tt)

pub fed_well : (world after : World) (seen : Seen) (searched : QueueSearch) (op : Op) (since : ℕ) → IsQueue world → Later world after → Asks searched → Knows searched op world since → Knows searched op after since
    → Went queue_form (asked searched) world after seen → FedWell queue_form after op since (fed searched seen)
fed_well world after seen PutTail op since queue kept asks knows still w =
    from_load world after seen TAIL (λ a s. FedWell queue_form a op since (fed PutTail s)) w (record { serves = knows.serves; began = knows.began; learnt = tail_loaded world queue }, tt)
fed_well world after seen (PutNext tail) op since queue kept asks knows still w =
    from_load world after seen (next_place tail) (λ a s. FedWell queue_form a op since (fed (PutNext tail) s)) w (put_met world queue op since tail knows.serves knows.began knows.learnt)
fed_well world after seen (PutHelp tail next) op since queue kept asks knows still w =
    help_met world after seen op since tail next (PutHelp tail next) PutTail tt (record { serves = knows.serves; began = still.began; learnt = tt }) still
fed_well world after seen (PutReady tail next) op since queue kept asks knows still w = absurd asks
fed_well world after seen TakeHead op since queue kept asks knows still w =
    from_load world after seen HEAD (λ a s. FedWell queue_form a op since (fed TakeHead s)) w (head_met world queue op since knows.serves knows.began)
fed_well world after seen (TakeTail head) op since queue kept asks knows still w =
    let tail = tail_loaded world queue in
    from_load world after seen TAIL (λ a s. FedWell queue_form a op since (fed (TakeTail head) s)) w
    (record { serves = knows.serves; began = knows.began; learnt = (knows.learnt, tail, knows.learnt.was_tail.passed) }, tt)
fed_well world after seen (TakeNext head tail) op since queue kept asks knows still w =
    from_load world after seen (next_place head) (λ a s. FedWell queue_form a op since (fed (TakeNext head tail) s)) w
    (take_met world queue op since head tail knows.serves knows.began knows.learnt.0 knows.learnt.1 knows.learnt.2)
fed_well world after seen (TakeHelp tail next) op since queue kept asks knows still w =
    help_met world after seen op since tail next (TakeHelp tail next) TakeHead tt (record { serves = knows.serves; began = still.began; learnt = tt }) still
fed_well world after seen (TakeReady head next) op since queue kept asks knows still w = absurd asks
fed_well world after seen PeekHead op since queue kept asks knows still w =
    from_load world after seen HEAD (λ a s. FedWell queue_form a op since (fed PeekHead s)) w
    (record { serves = knows.serves; began = knows.began; learnt = head_peeked world queue since knows.began }, tt)
fed_well world after seen (PeekNext head) op since queue kept asks knows still w =
    from_load world after seen (next_place head) (λ a s. FedWell queue_form a op since (fed (PeekNext head) s)) w
    (peek_met world queue op since head knows.serves knows.began knows.learnt)
