-- What the laws would say of a list whose one node has a set bit before it, or is marked.
use Rattle.std.proofs.Common.{◌≡◌, ℕ, true, false, Some, refl, inl, inr, ap, arith}
use Rattle.lin_report.specs.declared.calls.Op.{Op}
use Rattle.lin_report.specs.declared.calls.TheConstants.{ADD, DEL}
use Rattle.lin_report.specs.Object.{IsCommandOf, list_object}
use Rattle.step_memory.specs.declared.steps.Seen.{Seen}
use Rattle.word_fields.specs.Versioned.{versioned_value, versioned_bit, versioned_version, versioned_word, changed_word, cleared_word, marked_word}
use Rattle.node_arena.specs.MemoryMap.{block_place, node_place, node_named}
use Rattle.normal_traits.specs.declared.lists.Entry.{Entry}
use Rattle.normal_traits.specs.World.{World, Listed, Maker, Won, Among}
use Rattle.normal_traits.specs.World.Maker.{By, Beside}
use Rattle.normal_traits.specs.Steps.{IsStep, IsFresh, IsOffered, IsExchanged, exchanged}
use Rattle.normal_traits.specs.Steps.IsStep.{first}
use Rattle.normal_traits.specs.Steps.Requested.{loaded}
use Rattle.normal_traits.specs.Laws.{Laws}
use Rattle.harris_list_form.specs.declared.states.TheConstants.{LIST_START}
use Rattle.harris_list_form.specs.declared.states.ListSearch.TheVariants.{Start, Next, Key, AddReady, DelReady}
use Rattle.harris_list_form.specs.declared.states.ListSearch.{ListSearch}
use Rattle.harris_list_form.specs.Lists.{the_list}
use Rattle.harris_list_form.specs.Shape.{AreSorted}
use Rattle.harris_list_form.specs.Knowledge.{Knows}
use Rattle.harris_list_form.specs.Form.{list_form}
use Rattle.harris_list_form.specs.Search.{key_place, next_place, marking, offered, sought_of}
use Rattle.refuted_forms.specs.ListForms.{fed_at_a_set_bit, list_from_a_set_bit, fed_past_a_mark, list_past_a_mark}
use Rattle.refuted_forms.proofs.ListWorlds.{at_start, the_entry, linked, linked_shape}

-- ---- a lower key is added while the bit before the node is set

abbrev lower : Op
lower = record { code = ADD; key = 3; value = 0 }

lower_command : IsCommandOf list_object lower
lower_command = record { command = refl; value = omega arith }

abbrev set_word : ℕ
set_word = marked_word the_entry.to

abbrev set_world : World
set_world = linked set_word

is_set : IsExchanged the_entry set_word
unfolding versioned_value versioned_bit versioned_version versioned_word changed_word cleared_word marked_word
is_set = record { to = refl; raised = refl }

abbrev seen_at : ℕ → World → Seen
seen_at place world = record { before = world.words place; won = true }

pub no_laws_from_a_set_bit : ¬ Laws list_from_a_set_bit
unfolding versioned_value versioned_bit versioned_version versioned_word changed_word marked_word block_place node_place node_named
no_laws_from_a_set_bit laws =
    let shape = linked_shape fed_at_a_set_bit laws set_word is_set in
    let sought = sought_of lower in
    let begun = laws.of_world.begins_knowing set_world lower lower_command shape in
    let started = (laws.search_fed set_world set_world (seen_at LIST_START set_world) (Start sought LIST_START) lower 1 lower_command shape tt begun (loaded LIST_START)).0 in
    let nexted = (laws.search_fed set_world set_world (seen_at (next_place 5) set_world) (Next sought (at_start set_word) false 5) lower 1 lower_command shape (omega arith) started (loaded (next_place 5))).0 in
    let ready : Knows the_list (AddReady (at_start set_word) 5) lower set_world 1 = (laws.search_fed set_world set_world (seen_at (key_place 5) set_world) (Key sought (at_start set_word) false 5 0) lower 1 lower_command shape (omega arith) nexted (loaded (key_place 5))).0 in
    let clear : 1 ≡ 0 = ready.learnt.2 in
    omega (arith, clear)

-- ---- a del marks the node, and an add comes by

abbrev plain_word : ℕ
plain_word = the_entry.to

abbrev plain_world : World
plain_world = linked plain_word

is_plain : IsExchanged the_entry plain_word
unfolding versioned_value versioned_version versioned_word changed_word cleared_word
is_plain = record { to = refl; raised = refl }

-- the add is of a key behind the node
abbrev higher : Op
higher = record { code = ADD; key = 7; value = 0 }

higher_command : IsCommandOf list_object higher
higher_command = record { command = refl; value = omega arith }

abbrev the_del : Op
the_del = record { code = DEL; key = 5; value = 0 }

del_command : IsCommandOf list_object the_del
del_command = record { command = refl; value = omega arith }

abbrev del_search : ListSearch
del_search = DelReady (at_start plain_word) 5 0

abbrev mark : Entry
mark = record { target = next_place 5; from = 0; to = marking 0 }

abbrev deleting : Listed
deleting = record { identity = 2; call = record { seat = 1; number = 1; op = the_del }; block = 0; entries = (offered del_search the_del 0).entries }

abbrev marked_world : World
marked_world = exchanged (list_form the_list) (By deleting 0) (Some deleting) mark mark.to plain_world

is_mark : IsExchanged mark mark.to
unfolding versioned_value versioned_version versioned_word changed_word cleared_word
is_mark = record { to = refl; raised = refl }

abbrev identity_of : Maker → ℕ
identity_of (By list j) = list.identity
identity_of Beside = 0

-- the add's list alone has won
fresh : IsFresh plain_world deleting
fresh other j same took = by_won (record { place = took.entry.target; before = took.entry.from; after = took.entry.to; maker = By other j; cause = took.cause }) same took.won
  where
    by_won : (won : Won) → identity_of won.maker ≡ 2 → ¬ Among won plain_world.journal
    by_won won two (inl e) = omega (arith, two, ap (λ (w : Won). identity_of w.maker) e)
    by_won won two (inr none) = none

module _ (laws : Laws list_past_a_mark) where
  plain_shape : AreSorted the_list plain_world
  plain_shape = linked_shape fed_past_a_mark laws plain_word is_plain

  del_knows : Knows the_list del_search the_del plain_world 1
  unfolding versioned_value versioned_bit versioned_version versioned_word changed_word block_place node_place node_named
  del_knows =
      let sought = sought_of the_del in
      let begun = laws.of_world.begins_knowing plain_world the_del del_command plain_shape in
      let started = (laws.search_fed plain_world plain_world (seen_at LIST_START plain_world) (Start sought LIST_START) the_del 1 del_command plain_shape tt begun (loaded LIST_START)).0 in
      let nexted = (laws.search_fed plain_world plain_world (seen_at (next_place 5) plain_world) (Next sought (at_start plain_word) false 5) the_del 1 del_command plain_shape (omega arith) started (loaded (next_place 5))).0 in
      (laws.search_fed plain_world plain_world (seen_at (key_place 5) plain_world) (Key sought (at_start plain_word) false 5 0) the_del 1 del_command plain_shape (omega arith) nexted (loaded (key_place 5))).0

  marks : IsStep list_past_a_mark plain_world marked_world
  unfolding block_place node_place node_named
  marks =
      let offer : IsOffered list_past_a_mark plain_world deleting del_search 1 = record { command = del_command; knows = del_knows; ready = omega arith; small = omega arith; entries = refl } in
      first deleting del_search 1 mark mark.to offer fresh refl refl refl refl is_mark

  marked_shape : AreSorted the_list marked_world
  marked_shape = laws.shape_kept plain_world marked_world plain_shape marks

  -- the search of the add takes the marked node for one whose key the set holds
  pub no_laws_past_a_mark : ⊥
  unfolding versioned_value versioned_bit versioned_version versioned_word changed_word block_place node_place node_named
  no_laws_past_a_mark =
      let sought = sought_of higher in
      let begun = laws.of_world.begins_knowing marked_world higher higher_command marked_shape in
      let started = (laws.search_fed marked_world marked_world (seen_at LIST_START marked_world) (Start sought LIST_START) higher 2 higher_command marked_shape tt begun (loaded LIST_START)).0 in
      let met : Knows the_list (Key sought (at_start plain_word) false 5 (marking 0)) higher marked_world 2 = (laws.search_fed marked_world marked_world (seen_at (next_place 5) marked_world) (Next sought (at_start plain_word) false 5) higher 2 higher_command marked_shape (omega arith) started (loaded (next_place 5))).0 in
      let even : 1 ≡ 0 = met.learnt.3.even in
      omega (arith, even)
