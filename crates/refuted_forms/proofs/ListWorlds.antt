-- A list into which an add has linked a node.
use Rattle.std.proofs.Common.{◌≡◌, ℕ, false, [], ◌∷◌, Some, refl, inl, arith}
use Rattle.std.proofs.lemmas.List.Elements.{All-nil, All-cons}
use Rattle.lin_report.specs.declared.calls.Op.{Op}
use Rattle.lin_report.specs.declared.calls.TheConstants.{ADD}
use Rattle.step_memory.specs.declared.steps.Seen.{Seen}
use Rattle.word_fields.specs.Versioned.{versioned_value, versioned_bit}
use Rattle.word_fields.specs.Announced.{op_word, value_word}
use Rattle.word_fields.specs.Owners.{owner_word}
use Rattle.node_arena.specs.declared.places.TheConstants.{OWNER_FIELD, OP_FIELD, VALUE_FIELD}
use Rattle.node_arena.specs.MemoryMap.{block_place, node_place, node_named, block_at, field_at, reference_to}
use Rattle.node_arena.specs.Opening.{opening_word}
use Rattle.normal_traits.specs.declared.form.Found.{Found}
use Rattle.normal_traits.specs.declared.lists.Entry.{Entry}
use Rattle.normal_traits.specs.World.{Listed, World, is_word, no_root}
use Rattle.normal_traits.specs.World.Maker.{By}
use Rattle.normal_traits.specs.Steps.{IsStep, IsOffered, IsFilled, IsExchanged, exchanged, put_word, using_block}
use Rattle.normal_traits.specs.Steps.IsStep.{elsewhere, first_of_block}
use Rattle.normal_traits.specs.Laws.{Laws, opening_world}
use Rattle.harris_list_form.specs.declared.states.TheConstants.{LIST_START}
use Rattle.harris_list_form.specs.declared.states.Left.{Left}
use Rattle.harris_list_form.specs.declared.states.ListSearch.{ListSearch}
use Rattle.harris_list_form.specs.declared.states.ListSearch.TheVariants.{AddReady}
use Rattle.harris_list_form.specs.Lists.{the_list}
use Rattle.harris_list_form.specs.Search.{leading, key_place, next_place, offered}
use Rattle.harris_list_form.specs.Shape.{AreSorted}
use Rattle.harris_list_form.specs.Knowledge.{Knows}
use Rattle.harris_list_form.specs.Form.{list_form}
use Rattle.refuted_forms.specs.ListForms.{list_with}

-- ---- add 5 of seat 0

abbrev pub the_add : Op
the_add = record { code = ADD; key = 5; value = 0 }

abbrev pub at_start : ℕ → Left
at_start word = record { place = LIST_START; word = word }

-- it has found the list to be empty
abbrev pub the_search : ListSearch
the_search = AddReady (at_start 0) 0

abbrev pub the_entry : Entry
the_entry = record { target = LIST_START; from = 0; to = leading 0 (reference_to 1 1) }

abbrev pub the_adding : Listed
the_adding = record { identity = 1; call = record { seat = 0; number = 1; op = the_add }; block = 1; entries = the_entry ∷ [] }

-- ---- the words of its block, and its exchange

abbrev pub owned : World
owned = put_word (block_place 1 OWNER_FIELD) (owner_word 0 1) (opening_world (list_form the_list))

abbrev pub coded : World
coded = put_word (block_place 1 OP_FIELD) (op_word ADD 1 5) owned

abbrev pub noted : World
noted = put_word (block_place 1 VALUE_FIELD) (value_word 1 0) coded

abbrev pub keyed : World
keyed = put_word (key_place (reference_to 1 1)) 5 noted

abbrev pub filled : World
filled = put_word (next_place (reference_to 1 1)) 0 keyed

-- the word leads to the node, its bit set or not
abbrev pub linked : ℕ → World
linked word =
    let after = exchanged (list_form the_list) (By the_adding 0) (Some the_adding) the_entry word filled in
    record { words = after.words; changes = after.changes; used = using_block 1 after.used; journal = after.journal }

abbrev IsStored : ℕ × ℕ → Type 0
IsStored store = filled.words store.0 ≡ store.1

is_filled : IsFilled filled the_adding ((offered the_search the_add 1).stores)
unfolding block_place node_place node_named
is_filled = record {
  owner = refl;
  op = refl;
  value = refl;
  stored = All-cons IsStored (key_place 5, 5) ((next_place 5, 0) ∷ []) refl (All-cons IsStored (next_place 5, 0) [] refl (All-nil IsStored));
}

knows_filled : Knows the_list the_search the_add filled 0
unfolding versioned_value versioned_bit block_place node_place node_named opening_word
knows_filled = record {
  serves = refl;
  began = omega arith;
  learnt = (
    record { link = inl (refl, refl); below = omega arith; even = refl; seen = λ clear. inl refl },
    record { named = inl refl; behind = omega arith },
    refl,
    refl,
    omega arith,
  );
}

-- whatever the searches find and become, the laws give the shape of these worlds
module _ (met : ListSearch → Seen → ListSearch × Found) where
  offered_in : IsOffered (list_with met) filled the_adding the_search 0
  offered_in = record { command = record { command = refl; value = omega arith }; knows = knows_filled; ready = omega arith; small = omega arith; entries = refl }

  elsewhere_kept : Laws (list_with met) → (world : World) (place word : ℕ) → is_word no_root world place ≡ false → AreSorted the_list world → AreSorted the_list (put_word place word world)
  elsewhere_kept laws world place word outside sorted = laws.shape_kept world (put_word place word world) sorted (elsewhere place word outside)

  filled_shape : Laws (list_with met) → AreSorted the_list filled
  unfolding block_place node_place node_named block_at field_at
  filled_shape laws =
      let one = elsewhere_kept laws (opening_world (list_form the_list)) (block_place 1 OWNER_FIELD) (owner_word 0 1) refl laws.opens in
      let two = elsewhere_kept laws owned (block_place 1 OP_FIELD) (op_word ADD 1 5) refl one in
      let three = elsewhere_kept laws coded (block_place 1 VALUE_FIELD) (value_word 1 0) refl two in
      let four = elsewhere_kept laws noted (key_place (reference_to 1 1)) 5 refl three in
      elsewhere_kept laws keyed (next_place (reference_to 1 1)) 0 refl four

  links : (word : ℕ) → IsExchanged the_entry word → IsStep (list_with met) filled (linked word)
  unfolding block_place node_place node_named opening_word
  links word is = first_of_block the_adding the_search 0 the_entry word offered_in (λ other j same took. took.won) (omega arith) refl is_filled refl refl is

  pub linked_shape : Laws (list_with met) → (word : ℕ) → IsExchanged the_entry word → AreSorted the_list (linked word)
  linked_shape laws word is = laws.shape_kept filled (linked word) (filled_shape laws) (links word is)
