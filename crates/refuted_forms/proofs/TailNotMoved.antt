-- What the laws would say of the queue in which a put hasn't moved the tail.
use Rattle.std.proofs.Common.{◌≡◌, ℕ, zero, suc, ◌<◌, Bool, true, false, refl, None, inl, ap, subst, arith}
use Rattle.std.proofs.lemmas.Bool.{true≢false}
use Rattle.lin_report.specs.declared.calls.Op.{Op}
use Rattle.lin_report.specs.declared.calls.Reply.{Reply}
use Rattle.lin_report.specs.declared.calls.Reply.TheVariants.{Empty}
use Rattle.lin_report.specs.declared.calls.Outcome.TheVariants.{Plain}
use Rattle.lin_report.specs.declared.calls.TheConstants.{TAKE}
use Rattle.lin_report.specs.Object.{IsCommandOf}
use Rattle.word_fields.specs.Versioned.{versioned_value, versioned_bit, versioned_version, versioned_word, changed_word}
use Rattle.node_arena.specs.declared.places.TheConstants.{TAIL}
use Rattle.node_arena.specs.MemoryMap.{block_place, node_place, node_named}
use Rattle.node_arena.specs.Opening.{opening_word, dummy_word}
use Rattle.normal_traits.specs.World.{Won, World, Took, Stopped, RightSince, held_after, first_changes}
use Rattle.normal_traits.specs.World.Maker.{By, Beside}
use Rattle.normal_traits.specs.Steps.{IsStep, exchanged}
use Rattle.normal_traits.specs.Steps.IsStep.{searches}
use Rattle.normal_traits.specs.Steps.Requested.{loaded, won}
use Rattle.normal_traits.specs.Laws.{Laws, IsFixed}
use Rattle.ms_queue_form.specs.declared.states.QueueSearch.TheVariants.{TakeTail, PutHelp}
use Rattle.ms_queue_form.specs.declared.states.QueueSearch.{QueueSearch}
use Rattle.ms_queue_form.specs.Search.{moved_word}
use Rattle.ms_queue_form.specs.Knowledge.{Knows}
use Rattle.ms_queue_form.specs.Form.{queue_form}
use Rattle.refuted_forms.specs.QueueForms.{found_at_the_tail, restarts, cause_of_the_node, queue_without_a_look, queue_that_restarts, queue_of_one_cause}
use Rattle.refuted_forms.proofs.QueueWorlds.{the_put, the_command, the_list, the_search, the_entry, linked, linked_shape, knows_linked, offered_in}

-- the causes are those of the queue
abbrev put_world : World
put_world = linked queue_form.cause_of

-- ---- a take that begins now

abbrev the_take : Op
the_take = record { code = TAKE; key = 0; value = 0 }

take_command : IsCommandOf queue_form.object the_take
take_command = record { command = refl; value = omega arith }

knows_head : Knows (TakeTail dummy_word) the_take put_world 1
unfolding versioned_value versioned_bit versioned_version versioned_word changed_word block_place node_place node_named opening_word
knows_head = record {
  serves = refl;
  began = omega arith;
  learnt = record {
    was_tail = record { names = refl; passed = omega arith; within = omega arith };
    seen = λ clear. inl refl;
    clear = refl;
    passed = omega arith;
  };
}

abbrev says_empty : Reply → Bool
says_empty Empty = true
says_empty reply = false

-- it would be told that the queue was empty, since the put
never_empty : ¬ RightSince queue_form.object put_world the_take 1 (Plain Empty)
never_empty right = true≢false (ap says_empty (subst told one right.told))
  where
    told : ℕ → Type 0
    told count = Empty ≡ (queue_form.object.apply the_take (held_after queue_form.object (first_changes count put_world.changes))).1

    one : right.count ≡ 1
    one = omega (arith, right.not_before, right.made)

pub no_laws_without_a_look : ¬ Laws queue_without_a_look
unfolding versioned_value versioned_word changed_word block_place node_place node_named opening_word
no_laws_without_a_look laws =
    let shape = linked_shape found_at_the_tail queue_form.wrap_begun_of queue_form.cause_of laws in
    let told : RightSince queue_form.object put_world the_take 1 (Plain Empty) × IsFixed queue_form (Plain Empty) = (laws.search_fed put_world put_world (record { before = put_world.words TAIL; won = true }) (TakeTail dummy_word) the_take 1 take_command shape tt knows_head (loaded TAIL)).1 in
    never_empty told.0

-- ---- the wrap-up of the put

took : Took put_world the_list 0
took = record { entry = the_entry; cause = queue_form.cause_of put_world (By the_list 0) the_entry; listed = refl; won = inl refl }

stopped : Stopped put_world the_list 1
stopped = record { within = omega arith; took = by_entry; failed = λ low. absurd (omega arith) }
  where
    by_entry : (j : ℕ) → j < 1 → Took put_world the_list j
    by_entry zero low = took
    by_entry (suc j) low = absurd (omega arith)

pub no_laws_with_a_restart : ¬ Laws queue_that_restarts
no_laws_with_a_restart laws =
    let shape = linked_shape queue_form.found_of restarts queue_form.cause_of laws in
    let dead : queue_form.dead the_list put_world = laws.of_world.wrap_begun put_world the_list the_search 0 1 shape (offered_in queue_form.found_of restarts queue_form.cause_of put_world (knows_linked queue_form.cause_of)) stopped in
    dead.lost took

-- ---- a put that comes by moves the tail

abbrev next_put : QueueSearch
next_put = PutHelp dummy_word the_entry.to

abbrev moved : ℕ
moved = moved_word dummy_word the_entry.to

-- the world in which the tail isn't moved yet, and then is
abbrev still_world : World
still_world = linked cause_of_the_node

abbrev moved_world : World
moved_world = exchanged queue_of_one_cause Beside None (record { target = TAIL; from = dummy_word; to = moved }) moved still_world

knows_next : Knows next_put the_put still_world 1
unfolding versioned_value versioned_bit versioned_version versioned_word changed_word block_place node_place node_named opening_word
knows_next = record {
  serves = refl;
  began = omega arith;
  learnt = (record { names = refl; passed = omega arith; within = omega arith }, record { names = refl; within = omega arith });
}

moves : IsStep queue_of_one_cause still_world moved_world
unfolding versioned_value versioned_version versioned_word changed_word block_place node_place node_named opening_word
moves = searches next_put the_put 1 the_command tt knows_next (won TAIL dummy_word moved refl refl)

pub no_laws_with_one_cause : ¬ Laws queue_of_one_cause
unfolding versioned_value versioned_version versioned_word changed_word opening_word
no_laws_with_one_cause laws =
    let shape = linked_shape queue_form.found_of queue_form.wrap_begun_of cause_of_the_node laws in
    let after = laws.shape_kept still_world moved_world shape moves in
    let differ = laws.of_world.causes_differ moved_world after 0 1 some_win (omega arith) (omega arith) in
    differ refl
  where
    -- to look up with
    some_win : Won
    some_win = record { place = 0; before = 0; after = 0; maker = Beside; cause = record { block = 0; kind = 0 } }
