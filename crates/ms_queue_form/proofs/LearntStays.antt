-- What was learnt stays true, whatever anyone does.
use Rattle.std.proofs.Common.{◌≡◌, ℕ, ◌+◌, ◌<◌, ◌≤◌, true, List, length, Some, refl, sym, ap, ◌∙◌, inl, inr, ◌⊎◌, arith}
use Rattle.std.specs.Prelude.{slice_get}
use Rattle.std.proofs.lemmas.Bool.{cases_lt}
use Rattle.lin_report.specs.declared.calls.Op.{Op}
use Rattle.lin_report.specs.Object.{queue_object}
use Rattle.word_fields.specs.Versioned.{versioned_version}
use Rattle.node_arena.specs.declared.places.TheConstants.{HEAD, TAIL, NODE_NEXT}
use Rattle.node_arena.specs.MemoryMap.{node_place}
use Rattle.normal_traits.specs.World.{Listed, Change, World, held_after, StandsOrPassed, is_word}
use Rattle.ms_queue_form.specs.declared.states.QueueSearch.{QueueSearch}
use Rattle.ms_queue_form.specs.declared.states.QueueSearch.TheVariants.{PutTail, PutNext, PutHelp, PutReady, TakeHead, TakeTail, TakeNext, TakeHelp, TakeReady, PeekHead, PeekNext}
use Rattle.ms_queue_form.specs.declared.states.QueueWrap.{QueueWrap}
use Rattle.ms_queue_form.specs.declared.states.QueueWrap.TheVariants.{Over, Tail, Swing}
use Rattle.ms_queue_form.specs.Search.{next_place}
use Rattle.ms_queue_form.specs.Chain.{puts, takes, node_block, put_value, next_of, is_versioned, is_root}
use Rattle.ms_queue_form.specs.Shape.{IsQueue}
use Rattle.ms_queue_form.specs.Knowledge.{WasTail, WasHead, WasNext, WasFirst, WasPeeked, Learnt, Knows, WasLinked, LearntWrap, Follows}
use Rattle.ms_queue_form.proofs.Places.{next_versioned}
use Rattle.ms_queue_form.proofs.Changes.{same_node_at, same_next_of}
use Rattle.ms_queue_form.proofs.History.{first_held}
use Rattle.ms_queue_form.proofs.Later.{Later}
use Rattle.client_lemmas.proofs.Growing.{first_all}
use Rattle.client_lemmas.proofs.Words.{rises_version, rises_seen}
use Rattle.client_lemmas.proofs.Places.{node_word}

-- ---- the place of a next word

pub next_place_is : (world : World) (tail : ℕ) → WasTail world tail → next_place tail ≡ next_of world.changes (versioned_version tail)
next_place_is world tail was = ap (λ reference. node_place reference NODE_NEXT) was.names

pub next_place_word : (world : World) (tail : ℕ) → IsQueue world → WasTail world tail → is_word is_root world (next_place tail) ≡ true
next_place_word world tail queue was =
    ap (is_word is_root world) (next_place_is world tail was)
    ∙ node_word is_root world (node_block world.changes (versioned_version tail)) NODE_NEXT (omega arith) (queue.chain.used (versioned_version tail) was.within)

pub next_place_versioned : (world : World) (tail : ℕ) → WasTail world tail → is_versioned (next_place tail) ≡ true
next_place_versioned world tail was = ap is_versioned (next_place_is world tail was) ∙ next_versioned (node_block world.changes (versioned_version tail))

-- ---- the first value

-- the value of the node behind the head's is the first one now
pub first_now : (world : World) (since k : ℕ) → IsQueue world → since ≤ length world.changes → takes world.changes ≡ k → k < puts world.changes → WasFirst world.changes since (put_value world.changes (k + 1))
first_now world since k queue began at some =
    record {
      count = length world.changes;
      not_before = began;
      made = omega arith;
      first = ap (λ (changes : List Change). slice_get (held_after queue_object changes) 0) (first_all world.changes)
          ∙ first_held world.changes queue.holds (omega (arith, at, some)) ∙ ap (λ n. Some (put_value world.changes (n + 1))) at;
    }

-- ---- what was learnt

module _ (world after : World) (queue : IsQueue world) (kept : Later world after) where
  version_grows : (place : ℕ) → is_word is_root world place ≡ true → is_versioned place ≡ true → versioned_version (world.words place) ≤ versioned_version (after.words place)
  version_grows place some versioned = rises_version (world.words place) (after.words place) (kept.rises place some versioned)

  tail_grows : versioned_version (world.words TAIL) ≤ versioned_version (after.words TAIL)
  tail_grows = version_grows TAIL refl refl

  seen_kept : (place word : ℕ) → is_word is_root world place ≡ true → is_versioned place ≡ true → StandsOrPassed world place word → StandsOrPassed after place word
  seen_kept place word some versioned seen = λ clear. rises_seen (world.words place) (after.words place) word (kept.rises place some versioned) clear (seen clear)

  tail_kept : (tail : ℕ) → WasTail world tail → WasTail after tail
  tail_kept tail was =
      record {
        names = was.names ∙ sym (same_node_at world.changes after.changes kept.extends (versioned_version tail) was.within);
        passed = omega (arith, was.passed, tail_grows);
        within = omega (arith, was.within, kept.extends.puts_grow);
      }

  head_kept : (head : ℕ) → WasHead world head → WasHead after head
  head_kept head was =
      record {
        was_tail = tail_kept head was.was_tail;
        seen = seen_kept HEAD head refl refl was.seen;
        clear = was.clear;
        passed = omega (arith, was.passed, version_grows HEAD refl refl);
      }

  next_kept : (word next : ℕ) → WasNext world word next → WasNext after word next
  next_kept word next was =
      record {
        names = was.names ∙ sym (same_node_at world.changes after.changes kept.extends (versioned_version word + 1) (omega (arith, was.within)));
        within = omega (arith, was.within, kept.extends.puts_grow);
      }

  module _ (still : IsQueue after) where
    -- the node behind the head's was there before, or was just linked behind the last node, and so is the first now
    first_kept : (head since : ℕ) → since ≤ length world.changes → WasPeeked world head since → versioned_version head < puts after.changes → WasFirst after.changes since (put_value after.changes (versioned_version head + 1))
    first_kept head since began was some = by_place (cases_lt (versioned_version head) (puts world.changes))
      where
        by_change : puts world.changes ≤ versioned_version head → takes world.changes ≡ versioned_version head → (takes after.changes ≡ takes world.changes) ⊎ (puts after.changes ≡ puts world.changes)
            → takes after.changes ≡ versioned_version head
        by_change last at (inl same) = same ∙ at
        by_change last at (inr same) = absurd (omega (arith, same, last, some))

        by_place : (versioned_version head < puts world.changes) ⊎ (puts world.changes ≤ versioned_version head) → WasFirst after.changes since (put_value after.changes (versioned_version head + 1))
        by_place (inl before) =
            let first = was.first before in
            record {
              count = first.count;
              not_before = first.not_before;
              made = omega (arith, first.made, kept.extends.longer);
              first = ap (λ (changes : List Change). slice_get (held_after queue_object changes) 0) (kept.extends.first first.count first.made)
                  ∙ first.first ∙ ap Some (sym (kept.extends.values (versioned_version head + 1) (omega (arith, before))));
            }
        by_place (inr last) =
            let at : takes world.changes ≡ versioned_version head = omega (arith, last, was.passed, queue.ends.taken, queue.ends.behind, queue.ends.within) in
            first_now after since (versioned_version head) still (omega (arith, began, kept.extends.longer)) (by_change last at kept.extends.one) some

    peeked_kept : (head since : ℕ) → since ≤ length world.changes → WasPeeked world head since → WasPeeked after head since
    peeked_kept head since began was =
        record {
          was_tail = tail_kept head was.was_tail;
          passed = omega (arith, was.passed, version_grows HEAD refl refl);
          first = first_kept head since began was;
        }

    learnt_kept : (searched : QueueSearch) (since : ℕ) → since ≤ length world.changes → Learnt searched world since → Learnt searched after since
    learnt_kept PutTail since began l = tt
    learnt_kept (PutNext tail) since began l = tail_kept tail l
    learnt_kept (PutHelp tail next) since began l = (tail_kept tail l.0, next_kept tail next l.1)
    learnt_kept (PutReady tail next) since began l = (tail_kept tail l.0, seen_kept (next_place tail) next (next_place_word world tail queue l.0) (next_place_versioned world tail l.0) l.1, l.2, l.3)
    learnt_kept TakeHead since began l = tt
    learnt_kept (TakeTail head) since began l = head_kept head l
    learnt_kept (TakeNext head tail) since began l = (head_kept head l.0, tail_kept tail l.1, l.2)
    learnt_kept (TakeHelp tail next) since began l = (tail_kept tail l.0, next_kept tail next l.1)
    learnt_kept (TakeReady head next) since began l = (head_kept head l.0, next_kept head next l.1, omega (arith, l.2, tail_grows))
    learnt_kept PeekHead since began l = tt
    learnt_kept (PeekNext head) since began l = peeked_kept head since began l

    pub knows_later : (searched : QueueSearch) (op : Op) (since : ℕ) → Knows searched op world since → Knows searched op after since
    knows_later searched op since knows =
        record { serves = knows.serves; began = omega (arith, knows.began, kept.extends.longer); learnt = learnt_kept searched since knows.began knows.learnt }

  linked_kept : (target to : ℕ) → WasLinked world target to → WasLinked after target to
  linked_kept target to was =
      record {
        k = was.k;
        within = omega (arith, was.within, kept.extends.puts_grow);
        place = was.place ∙ sym (same_next_of world.changes after.changes kept.extends was.k (omega (arith, was.within)));
        names = was.names ∙ sym (same_node_at world.changes after.changes kept.extends (was.k + 1) (omega (arith, was.within)));
      }

  wrap_kept : (wrap : QueueWrap) → LearntWrap wrap world → LearntWrap wrap after
  wrap_kept Over l = l
  wrap_kept (Tail target to) l = linked_kept target to l
  wrap_kept (Swing tail to) l = (tail_kept tail l.0, next_kept tail to l.1)

  pub follows_later : (wrap : QueueWrap) (list : Listed) (stop : ℕ) → Follows wrap list stop world → Follows wrap list stop after
  follows_later wrap list stop follows = record { change = kept.extends.among _ follows.change; learnt = wrap_kept wrap follows.learnt }
