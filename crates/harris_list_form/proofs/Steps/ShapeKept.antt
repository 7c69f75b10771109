-- Every allowed step keeps the shape of sorted lists.
use Rattle.std.proofs.Common.{◌≡◌, ℕ, ◌+◌, ◌*◌, ◌^◌, ◌<◌, Bool, true, false, eqb, refl, sym, ap, ◌∙◌, subst, inl, inr, ◌⊎◌, Some, arith}
use Rattle.std.specs.Prelude.{slice_get, All}
use Rattle.std.proofs.lemmas.Bool.{true≢false, eq-eqb, or_left, or_right}
use Rattle.lin_report.specs.declared.calls.TheConstants.{ADD, DEL}
use Rattle.lin_report.specs.Commands.{KEY_LIMIT}
use Rattle.step_memory.specs.declared.steps.Seen.{Seen}
use Rattle.word_fields.specs.Versioned.{versioned_value, cleared_word, value_below}
use Rattle.word_fields.proofs.ChangedWords.{value-changed, value-cleared}
use Rattle.node_arena.specs.MemoryMap.{reference_to}
use Rattle.normal_traits.specs.declared.lists.Entry.{Entry}
use Rattle.normal_traits.specs.NormalForm.{Offered}
use Rattle.normal_traits.specs.World.{Listed, World, Won, Took, is_word, no_root}
use Rattle.normal_traits.specs.World.Maker.{By, Beside}
use Rattle.normal_traits.specs.Steps.{IsStep, IsFresh, IsExchanged, IsFilled, with_word, put_word, using_block}
use Rattle.normal_traits.specs.Steps.IsStep.{nothing, elsewhere, clears, searches, wraps, first, first_of_block, second}
use Rattle.harris_list_form.specs.declared.states.Left.{Left}
use Rattle.harris_list_form.specs.declared.states.ListSearch.{ListSearch}
use Rattle.harris_list_form.specs.declared.states.ListSearch.TheVariants.{Start, Next, Key, Unlink, AddReady, DelReady, LeastStart, LeastNext, LeastUnlink, LeastKey}
use Rattle.harris_list_form.specs.Lists.{Lists, AreLists, is_versioned}
use Rattle.harris_list_form.specs.Search.{is_add, led, leading, asked, Asks, next_place, offered, add_offer}
use Rattle.harris_list_form.specs.Nodes.{next_at, key_at}
use Rattle.harris_list_form.specs.Shape.{WasLinked, WasMarked, AreSorted}
use Rattle.harris_list_form.specs.Knowledge.{IsRun, Learnt}
use Rattle.harris_list_form.specs.Knowledge.IsRun.{ends}
use Rattle.harris_list_form.specs.Form.{list_form}
use Rattle.harris_list_form.proofs.Held.Places.{same_next}
use Rattle.harris_list_form.proofs.Held.Links.{node_of}
use Rattle.harris_list_form.proofs.Held.Entries.{IsFirst, IsSecond, tried_first, tried_second, add_entry, mark_entry, cut_entry, adds_is}
use Rattle.harris_list_form.proofs.Held.Entries.IsFirst.{adds_it, marks_it}
use Rattle.harris_list_form.proofs.Calls.Commands.{key_limit}
use Rattle.harris_list_form.proofs.Steps.Later.{Later, later}
use Rattle.harris_list_form.proofs.Steps.ShapeAtUnlinks.{still, cut_world, cut_keeps}
use Rattle.harris_list_form.proofs.Steps.NodeAdded.{changed_world, add_keeps}
use Rattle.harris_list_form.proofs.Steps.NodeMarked.{mark_keeps}
use Rattle.normal_traits.proofs.Stays.{word_beside}
use Rattle.client_lemmas.proofs.Words.{beside_word, all_put}
use Rattle.client_lemmas.proofs.Entries.{same_entry}
use Rattle.client_lemmas.proofs.Requests.{Went, went}

module _ (lists : Lists) (are : AreLists lists) where
  -- ---- a request of a search

  pub search_keeps : (world after : World) (seen : Seen) (key since : ℕ) (searched : ListSearch) → AreSorted lists world → Later lists are world after → Asks searched → Learnt lists world key since searched
      → Went (list_form lists) (asked searched) world after seen → AreSorted lists after
  search_keeps world after seen key since (Start sought start) sorted kept asks l w = subst (AreSorted lists) (sym w.0) sorted
  search_keeps world after seen key since (Next sought left run cur) sorted kept asks l w = subst (AreSorted lists) (sym w.0) sorted
  search_keeps world after seen key since (Key sought left run cur next) sorted kept asks l w = subst (AreSorted lists) (sym w.0) sorted
  search_keeps world after seen key since (Unlink sought left cur next found) sorted kept asks l (inl w) = subst (AreSorted lists) (sym w.1) sorted
  search_keeps world after seen key since (Unlink sought left cur next found) sorted kept asks l (inr w) =
      let entry : Entry = record { target = left.place; from = left.word; to = leading left.word cur } in
      subst (AreSorted lists) (sym w.2)
      (cut_keeps lists are world sorted Beside entry (lists.start_of key) cur (leading left.word cur) (subst (Later lists are world) w.2 kept) l.0.link w.0 l.0.even l.3
      (value-changed left.word (2 * cur) (omega (arith, asks))) (λ path u. u))
  search_keeps world after seen key since (LeastStart start) sorted kept asks l w = subst (AreSorted lists) (sym w.0) sorted
  search_keeps world after seen key since (LeastNext left run cur) sorted kept asks l w = subst (AreSorted lists) (sym w.0) sorted
  search_keeps world after seen key since (LeastKey cur) sorted kept asks l w = subst (AreSorted lists) (sym w.0) sorted
  search_keeps world after seen key since (LeastUnlink left cur) sorted kept asks l (inl w) = subst (AreSorted lists) (sym w.1) sorted
  search_keeps world after seen key since (LeastUnlink left cur) sorted kept asks l (inr w) =
      let entry : Entry = record { target = left.place; from = left.word; to = leading left.word cur } in
      subst (AreSorted lists) (sym w.2)
      (cut_keeps lists are world sorted Beside entry (lists.start_of key) cur (leading left.word cur) (subst (Later lists are world) w.2 kept) l.0.at.link w.0 l.0.at.even l.2
      (value-changed left.word (2 * cur) (omega (arith, asks))) (λ path u. u))
  search_keeps world after seen key since (AddReady left cur) sorted kept asks l w = absurd asks
  search_keeps world after seen key since (DelReady left cur next) sorted kept asks l w = absurd asks

  -- ---- the entries of a list

  -- the exchange of an entry keeps the shape
  abbrev KeepsFirst : World → Listed → ℕ → (ℕ → Bool) → Entry → Type 0
  KeepsFirst world list word used entry =
      slice_get list.entries 0 ≡ Some entry → world.words entry.target ≡ entry.from → IsExchanged entry word
      → Later lists are world (changed_world lists are world list entry word used) → AreSorted lists (changed_world lists are world list entry word used)

  mark_step : (world : World) → AreSorted lists world → (list : Listed) (left : Left) (cur next since word : ℕ) (used : ℕ → Bool) → list.call.op.code ≡ DEL → Learnt lists world list.call.op.key since (DelReady left cur next)
      → IsFresh world list → used 0 ≡ true → used list.block ≡ true → (0 < list.block → world.used list.block ≡ false) → (entry : Entry) → mark_entry cur next ≡ entry → KeepsFirst world list word used entry
  mark_step world sorted list left cur next since word used code learnt fresh zeroth own unused entry is =
      let base : KeepsFirst world list word used (mark_entry cur next) =
      λ listed same change kept. mark_keeps lists are world sorted list left cur next since word used code learnt same change kept fresh listed zeroth own unused in
      subst (KeepsFirst world list word used) is base

  -- the stores of an add's offer
  stored_key : (words : ℕ → ℕ) (left : Left) (cur key block : ℕ) → All (λ (store : ℕ × ℕ). words store.0 ≡ store.1) (add_offer left cur key block).stores → words (key_at block) ≡ key
  stored_key words left cur key block stored = stored 0 (0, 0) (omega arith)

  stored_next : (words : ℕ → ℕ) (left : Left) (cur key block : ℕ) → All (λ (store : ℕ × ℕ). words store.0 ≡ store.1) (add_offer left cur key block).stores → words (next_at block) ≡ 2 * cur
  stored_next words left cur key block stored = stored 1 (0, 0) (omega arith)

  add_step : (world : World) → AreSorted lists world → (list : Listed) (left : Left) (cur since word : ℕ) → list.call.op.code ≡ ADD → Learnt lists world list.call.op.key since (AddReady left cur)
      → IsFresh world list → list.call.op.key < KEY_LIMIT → 0 < list.block → list.block < 2 ^ 17 → world.used list.block ≡ false
      → All (λ (store : ℕ × ℕ). world.words store.0 ≡ store.1) (add_offer left cur list.call.op.key list.block).stores
      → (entry : Entry) → add_entry left list.block ≡ entry → KeepsFirst world list word (using_block list.block world.used) entry
  add_step world sorted list left cur since word code learnt fresh limit some small unused stored entry is =
      let base : KeepsFirst world list word (using_block list.block world.used) (add_entry left list.block) =
      λ listed same change kept. add_keeps lists are world sorted list left cur since word code learnt same change limit some small unused
      (stored_key world.words left cur list.call.op.key list.block stored) (stored_next world.words left cur list.call.op.key list.block stored) kept fresh listed in
      subst (KeepsFirst world list word (using_block list.block world.used)) is base

  first_step : (world : World) → AreSorted lists world → (list : Listed) (since : ℕ) (entry : Entry) (offer : Offered) (word : ℕ) → IsFirst lists world list since entry offer → IsFresh world list → list.block ≡ 0
      → is_add list.call.op ≡ false → KeepsFirst world list word world.used entry
  first_step world sorted list since entry offer word (adds_it left cur code learnt is offers) fresh none needs = absurd (true≢false (sym (adds_is list.call.op code) ∙ needs))
  first_step world sorted list since entry offer word (marks_it left cur next code learnt is) fresh none needs =
      mark_step world sorted list left cur next since word world.used code learnt fresh sorted.first (ap world.used none ∙ sorted.first) (λ some. absurd (omega (arith, none, some))) entry is

  block_step : (world : World) → AreSorted lists world → (list : Listed) (since : ℕ) (entry : Entry) (offer : Offered) (word : ℕ) → IsFirst lists world list since entry offer → IsFresh world list
      → list.call.op.key < KEY_LIMIT → 0 < list.block → list.block < 2 ^ 17 → world.used list.block ≡ false → IsFilled world list offer.stores → KeepsFirst world list word (using_block list.block world.used) entry
  block_step world sorted list since entry offer word (adds_it left cur code learnt is offers) fresh limit some small unused filled =
      add_step world sorted list left cur since word code learnt fresh limit some small unused (subst (λ (o : Offered). All (λ (store : ℕ × ℕ). world.words store.0 ≡ store.1) o.stores) offers filled.stored) entry is
  block_step world sorted list since entry offer word (marks_it left cur next code learnt is) fresh limit some small unused filled =
      mark_step world sorted list left cur next since word (using_block list.block world.used) code learnt fresh (or_right (eqb 0 list.block) (world.used 0) sorted.first)
      (or_left (eqb list.block list.block) (world.used list.block) (eq-eqb list.block list.block refl)) (λ some. unused) entry is

  -- ---- the second entry of a del

  -- what the first left: the node is marked, and leads to where it led
  marked_run : (world : World) → AreSorted lists world → (list : Listed) (since : ℕ) (left : Left) (cur next : ℕ) → list.call.op.code ≡ DEL → Learnt lists world list.call.op.key since (DelReady left cur next)
      → slice_get list.entries 0 ≡ Some (mark_entry cur next) → Took world list 0 → IsRun world (led next) cur
  marked_run world sorted list since left cur next code learnt listed took = by_kind (sorted.has_path.journal.known item took.won).brought
    where
      item : Won
      item = record { place = took.entry.target; before = took.entry.from; after = took.entry.to; maker = By list 0; cause = took.cause }

      is : took.entry ≡ mark_entry cur next
      is = same_entry list.entries 0 took.entry (mark_entry cur next) took.listed listed

      by_kind : ((list.call.op.code ≡ ADD) × WasLinked world item list) ⊎ ((list.call.op.code ≡ DEL) × WasMarked world item) → IsRun world (led next) cur
      by_kind (inl linked) = absurd (omega (arith, code, linked.0))
      by_kind (inr marked) =
          let was = marked.1 in
          let node = node_of lists are world sorted (lists.start_of list.call.op.key) cur learnt.1.named learnt.5.some in
          let same : was.block ≡ node.0 = same_next was.block node.0 (sym was.place ∙ ap (λ (e : Entry). e.target) is ∙ ap next_place node.2) in
          let value : versioned_value (world.words (next_at was.block)) ≡ 2 * led next + 1 =
          was.stays ∙ ap (λ (e : Entry). versioned_value e.to) is ∙ value-changed next (2 * led next + 1) (omega (arith, value_below next)) in
          ends was.block (node.2 ∙ ap (λ b. reference_to b 1) (sym same)) was.node was.marked (omega (arith, value))

  second_step : (world : World) → AreSorted lists world → (list : Listed) (since : ℕ) (entry : Entry) (word : ℕ) → IsSecond lists world list since entry → Took world list 0
      → world.words entry.target ≡ entry.from → IsExchanged entry word → Later lists are world (cut_world lists are world (By list 1) entry word) → AreSorted lists (cut_world lists are world (By list 1) entry word)
  second_step world sorted list since entry word it took = subst KeepsSecond it.is base
    where
      KeepsSecond : Entry → Type 0
      KeepsSecond e =
          world.words e.target ≡ e.from → IsExchanged e word → Later lists are world (cut_world lists are world (By list 1) e word) → AreSorted lists (cut_world lists are world (By list 1) e word)

      base : world.words it.left.place ≡ it.left.word → IsExchanged (cut_entry it.left it.next) word → Later lists are world (cut_world lists are world (By list 1) (cut_entry it.left it.next) word)
          → AreSorted lists (cut_world lists are world (By list 1) (cut_entry it.left it.next) word)
      base same change kept =
          cut_keeps lists are world sorted (By list 1) (cut_entry it.left it.next) (lists.start_of list.call.op.key) (led it.next) word kept it.learnt.0.link same it.learnt.0.even
          (subst (IsRun world (led it.next)) (sym it.learnt.3) (marked_run world sorted list since it.left it.cur it.next it.deletes it.learnt it.first took))
          (sym (value-cleared word) ∙ ap versioned_value change.to ∙ value-changed it.left.word (2 * led it.next) (omega (arith, value_below it.next))) (λ path u. u)

  -- ---- a step on a word

  written_keeps : (world : World) (place word : ℕ) → AreSorted lists world → is_word no_root world place ≡ false → Later lists are world (put_word place word world) → AreSorted lists (put_word place word world)
  written_keeps world place word sorted none kept =
      still lists are world (with_word place word world.words) sorted kept
      (λ at some versioned. ap versioned_value (beside_word no_root world place word none at some)) (λ at some plain. beside_word no_root world place word none at some)

  cleared_keeps : (world : World) (place : ℕ) → AreSorted lists world → is_versioned lists place ≡ true → Later lists are world (put_word place (cleared_word (world.words place)) world)
      → AreSorted lists (put_word place (cleared_word (world.words place)) world)
  cleared_keeps world place sorted versioned kept =
      still lists are world (with_word place (cleared_word (world.words place)) world.words) sorted kept (λ at some is. all_put (λ word after. versioned_value after ≡ versioned_value word) (λ word. refl) world.words place (cleared_word (world.words place)) (value-cleared (world.words place)) at)
      (λ at some plain. word_beside place (cleared_word (world.words place)) world.words at (λ here. true≢false (sym versioned ∙ ap (is_versioned lists) (sym here) ∙ plain)))

  -- ---- each step

  keeps : (world after : World) → AreSorted lists world → Later lists are world after → IsStep (list_form lists) world after → AreSorted lists after
  keeps world _ sorted kept nothing = sorted
  keeps world _ sorted kept (elsewhere place word none) = written_keeps world place word sorted none kept
  keeps world _ sorted kept (clears place some versioned listable) = cleared_keeps world place sorted versioned kept
  keeps world after sorted kept (searches {seen = seen} searched op since command asks knows requested) =
      search_keeps world after seen op.key since searched sorted kept asks knows.learnt (went (list_form lists) (asked searched) world after seen requested)
  keeps world after sorted kept (wraps {seen = seen} wrap list stop command going follows requested) = absurd follows
  keeps world _ sorted kept (first list searched since entry word offer fresh none needs listed same change) =
      first_step world sorted list since entry (offered searched list.call.op list.block) word (tried_first lists world list searched since entry offer listed) fresh none needs listed same change kept
  keeps world _ sorted kept (first_of_block list searched since entry word offer fresh some unused filled listed same change) =
      block_step world sorted list since entry (offered searched list.call.op list.block) word (tried_first lists world list searched since entry offer listed) fresh
      (key_limit lists.client are.sets list.call.op offer.command) some offer.small unused filled listed same change kept
  keeps world _ sorted kept (second list searched since entry word offer took unmade listed same change) =
      second_step world sorted list since entry word (tried_second lists world list searched since entry offer listed) took same change kept

  pub shape_keeps : (world after : World) → AreSorted lists world → IsStep (list_form lists) world after → AreSorted lists after
  shape_keeps world after sorted taken = keeps world after sorted (later lists are world after sorted taken) taken
