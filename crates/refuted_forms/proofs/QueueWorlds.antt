-- A queue in which a put has linked its node and hasn't moved the tail.
use Rattle.std.proofs.Common.{◌≡◌, ℕ, false, List, [], ◌∷◌, Some, refl, inl, inr, arith}
use Rattle.std.proofs.lemmas.List.Elements.{All-nil, All-cons}
use Rattle.lin_report.specs.declared.calls.Op.{Op}
use Rattle.lin_report.specs.declared.calls.TheConstants.{PUT}
use Rattle.lin_report.specs.Object.{IsCommandOf}
use Rattle.step_memory.specs.declared.steps.Seen.{Seen}
use Rattle.word_fields.specs.Versioned.{versioned_value, versioned_bit, versioned_version, versioned_word, changed_word, cleared_word}
use Rattle.word_fields.specs.Announced.{op_word, value_word}
use Rattle.word_fields.specs.Owners.{owner_word}
use Rattle.node_arena.specs.declared.places.TheConstants.{OWNER_FIELD, OP_FIELD, VALUE_FIELD, NODE_VALUE, NODE_NEXT}
use Rattle.node_arena.specs.MemoryMap.{block_place, node_place, node_named, block_at, field_at, reference_to}
use Rattle.node_arena.specs.Opening.{opening_word, dummy_word}
use Rattle.normal_traits.specs.declared.form.Found.{Found}
use Rattle.normal_traits.specs.declared.form.Wrapped.{Wrapped}
use Rattle.normal_traits.specs.declared.lists.Entry.{Entry}
use Rattle.normal_traits.specs.World.{Listed, Maker, Cause, World, is_word}
use Rattle.normal_traits.specs.World.Maker.{By}
use Rattle.normal_traits.specs.NormalForm.{NormalForm}
use Rattle.normal_traits.specs.Steps.{IsStep, IsOffered, IsFilled, IsExchanged, exchanged, put_word, using_block}
use Rattle.normal_traits.specs.Steps.IsStep.{elsewhere, first_of_block}
use Rattle.normal_traits.specs.Laws.{Laws, opening_world}
use Rattle.ms_queue_form.specs.declared.states.QueueSearch.{QueueSearch}
use Rattle.ms_queue_form.specs.declared.states.QueueSearch.TheVariants.{PutReady}
use Rattle.ms_queue_form.specs.declared.states.QueueWrap.{QueueWrap}
use Rattle.ms_queue_form.specs.Search.{offered, next_place}
use Rattle.ms_queue_form.specs.Shape.{IsQueue}
use Rattle.ms_queue_form.specs.Knowledge.{Knows}
use Rattle.ms_queue_form.specs.Form.{queue_form}
use Rattle.ms_queue_form.specs.Chain.{is_root}

-- ---- put 7 of seat 0

abbrev pub the_put : Op
the_put = record { code = PUT; key = 0; value = 7 }

-- it has found the dummy node to be the last one
abbrev pub the_search : QueueSearch
the_search = PutReady dummy_word 0

abbrev pub the_entry : Entry
the_entry = record { target = next_place dummy_word; from = 0; to = changed_word 0 (reference_to 1 1) }

abbrev pub the_list : Listed
the_list = record { identity = 1; call = record { seat = 0; number = 1; op = the_put }; block = 1; entries = the_entry ∷ [] }

-- ---- the words of its block, and its exchange

abbrev pub owned : World
owned = put_word (block_place 1 OWNER_FIELD) (owner_word 0 1) (opening_world queue_form)

abbrev pub coded : World
coded = put_word (block_place 1 OP_FIELD) (op_word PUT 1 0) owned

abbrev pub noted : World
noted = put_word (block_place 1 VALUE_FIELD) (value_word 1 7) coded

abbrev pub valued : World
valued = put_word (node_place (reference_to 1 1) NODE_VALUE) 7 noted

abbrev pub filled : World
filled = put_word (node_place (reference_to 1 1) NODE_NEXT) 0 valued

-- whatever the cause of an exchange is said to be
abbrev pub linked : (World → Maker → Entry → Cause) → World
linked cause =
    let after = exchanged (record queue_form { cause_of = cause }) (By the_list 0) (Some the_list) the_entry the_entry.to filled in
    record { words = after.words; changes = after.changes; used = using_block 1 after.used; journal = after.journal }

pub the_command : IsCommandOf queue_form.object the_put
the_command = record { command = refl; value = omega arith }

-- the dummy node was seen at the tail, before and after
pub knows_filled : Knows the_search the_put filled 0
unfolding versioned_value versioned_bit versioned_version versioned_word block_place node_place node_named opening_word
knows_filled = record {
  serves = refl;
  began = omega arith;
  learnt = (record { names = refl; passed = omega arith; within = omega arith }, λ clear. inl refl, refl, refl);
}

pub knows_linked : (cause : World → Maker → Entry → Cause) → Knows the_search the_put (linked cause) 0
unfolding versioned_value versioned_bit versioned_version versioned_word changed_word block_place node_place node_named opening_word
knows_linked cause = record {
  serves = refl;
  began = omega arith;
  learnt = (record { names = refl; passed = omega arith; within = omega arith }, λ clear. inr (omega arith), refl, refl);
}

abbrev IsStored : ℕ × ℕ → Type 0
IsStored store = filled.words store.0 ≡ store.1

pub is_filled : IsFilled filled the_list ((offered the_search the_put 1).stores)
unfolding block_place node_place node_named
is_filled = record {
  owner = refl;
  op = refl;
  value = refl;
  stored = All-cons IsStored (node_place 5 NODE_VALUE, 7) ((node_place 5 NODE_NEXT, 0) ∷ []) refl (All-cons IsStored (node_place 5 NODE_NEXT, 0) [] refl (All-nil IsStored));
}

pub is_exchanged : IsExchanged the_entry the_entry.to
unfolding versioned_value versioned_version versioned_word changed_word cleared_word
is_exchanged = record { to = refl; raised = refl }

-- whatever the search finds, the wrap-up says and the causes are, the laws give the shape of these worlds
module _ (found : QueueSearch → Seen → Found) (begun : Op → List Entry → ℕ → Wrapped) (cause : World → Maker → Entry → Cause) where
  abbrev pub form : NormalForm QueueSearch QueueWrap
  form = record queue_form { found_of = found; wrap_begun_of = begun; cause_of = cause }

  pub offered_in : (world : World) → Knows the_search the_put world 0 → IsOffered form world the_list the_search 0
  offered_in world knows = record { command = the_command; knows = knows; ready = tt; small = omega arith; entries = refl }

  pub elsewhere_kept : Laws form → (world : World) (place word : ℕ) → is_word is_root world place ≡ false → IsQueue world → IsQueue (put_word place word world)
  elsewhere_kept laws world place word outside queue = laws.shape_kept world (put_word place word world) queue (elsewhere place word outside)

  pub filled_shape : Laws form → IsQueue filled
  unfolding block_place node_place node_named block_at field_at
  filled_shape laws =
      let one = elsewhere_kept laws (opening_world queue_form) (block_place 1 OWNER_FIELD) (owner_word 0 1) refl laws.opens in
      let two = elsewhere_kept laws owned (block_place 1 OP_FIELD) (op_word PUT 1 0) refl one in
      let three = elsewhere_kept laws coded (block_place 1 VALUE_FIELD) (value_word 1 7) refl two in
      let four = elsewhere_kept laws noted (node_place (reference_to 1 1) NODE_VALUE) 7 refl three in
      elsewhere_kept laws valued (node_place (reference_to 1 1) NODE_NEXT) 0 refl four

  pub links : IsStep form filled (linked cause)
  unfolding block_place node_place node_named opening_word versioned_value versioned_word
  links =
      first_of_block the_list the_search 0 the_entry the_entry.to (offered_in filled knows_filled) (λ other j same took. took.won) (omega arith) refl is_filled refl refl is_exchanged

  pub linked_shape : Laws form → IsQueue (linked cause)
  linked_shape laws = laws.shape_kept filled (linked cause) (filled_shape laws) links
