-- What searches and wrap-ups ask for: words of nodes and of notes, and exchanges of versioned words.
use Rattle.std.proofs.Common.{◌≡◌, ℕ, ◌+◌, ◌*◌, ◌^◌, ◌<◌, ◌≤◌, Bool, true, false, eqb, ◌||◌, refl, sym, ap, ◌∙◌, inl, inr, ◌⊎◌, arith}
use Rattle.std.proofs.lemmas.Bool.{true≢false, le-leb, or_left, or_right}
use Rattle.lin_report.specs.declared.calls.Op.{Op}
use Rattle.word_fields.specs.Versioned.{versioned_value, versioned_bit, value_below}
use Rattle.word_fields.proofs.ChangedWords.{bit-changed}
use Rattle.node_arena.specs.declared.places.TheConstants.{FIRST_WORDS}
use Rattle.node_arena.specs.MemoryMap.{block_place, node_place, reference_to}
use Rattle.node_arena.proofs.PlacesApart.{block_place_behind, field_at-block_place, node_place-reference_to}
use Rattle.normal_traits.specs.World.{Listed, World, is_word, no_root}
use Rattle.normal_traits.specs.Laws.{AsksWell}
use Rattle.tree_help.specs.declared.states.Flag.{Flag}
use Rattle.tree_help.specs.declared.states.Help.{Help}
use Rattle.tree_help.specs.declared.states.Help.TheVariants as helps
use Rattle.tree_help.specs.declared.states.HelpInsert.{HelpInsert}
use Rattle.tree_help.specs.declared.states.HelpInsert.TheVariants as insert
use Rattle.tree_help.specs.declared.states.HelpDelete.{HelpDelete}
use Rattle.tree_help.specs.declared.states.HelpDelete.TheVariants as delete
use Rattle.tree_help.specs.declared.states.HelpMark.{HelpMark}
use Rattle.tree_help.specs.declared.states.HelpMark.TheVariants as mark
use Rattle.tree_help.specs.declared.states.TheConstants.{CLEAN, MARKED}
use Rattle.tree_help.specs.Updates.{note_at, inner}
use Rattle.tree_help.specs.Helps.{flag_block, insert_asked, delete_asked, mark_asked, help_asked}
use Rattle.ellen_tree_form.specs.declared.states.TreeSearch.{TreeSearch}
use Rattle.ellen_tree_form.specs.declared.states.TreeSearch.TheVariants.{AtUpdate, AtKey, AtChild, AtLeaf, Again, AtValue, SetReady, RemReady, Helps}
use Rattle.ellen_tree_form.specs.Words.{child_at, child_field, update_at, is_child, is_update, is_versioned, is_set}
use Rattle.ellen_tree_form.specs.Search.{Asks, asked, flag_of}
use Rattle.ellen_tree_form.specs.Shape.{Shape, Flagged, Inserts, Removes, is_node, IsLeaf, flags_at, flag_state}
use Rattle.ellen_tree_form.specs.Knowledge.{Knows, Follows, FollowsInsert, FollowsDelete, FollowsMark, IsFlag}
use Rattle.ellen_tree_form.specs.Form.{tree_form}
use Rattle.ellen_tree_form.proofs.Fields.{field_word}
use Rattle.ellen_tree_form.proofs.Plain.{both_ops}
use Rattle.ellen_tree_form.proofs.Order.SwingWays.{field_small}
use Rattle.ellen_tree_form.proofs.Helps.Wraps.{own_block, state_below}
use Rattle.ellen_tree_form.proofs.Helps.Swings.{removes}

-- ---- words

pub field_high : (left : Bool) → 12 ≤ child_field left
field_high true = omega arith
field_high false = omega arith

-- ---- child words and update words are versioned, and only the latter are listed

child_test : (left : Bool) → (eqb (child_field left) 19 || eqb (child_field left) 20) ≡ true
child_test true = refl
child_test false = refl

update_test : (left : Bool) → eqb (child_field left) 21 ≡ false
update_test true = refl
update_test false = refl

pub child_versioned : (node : ℕ) (left : Bool) → is_versioned (child_at node left) ≡ true
child_versioned node left =
    let is : is_child (child_at node left) ≡ true =
    rw (le-leb FIRST_WORDS (child_at node left) (block_place_behind node (child_field left)), field_at-block_place node (child_field left) (field_small left)) (child_test left) in
    or_left (is_child (child_at node left)) (is_update (child_at node left)) is

pub child_unlisted : (node : ℕ) (left : Bool) → is_update (child_at node left) ≡ false
child_unlisted node left = rw (le-leb FIRST_WORDS (child_at node left) (block_place_behind node (child_field left)), field_at-block_place node (child_field left) (field_small left)) (update_test left)

pub update_listed : (node : ℕ) → is_update (update_at node) ≡ true
update_listed node = rw (le-leb FIRST_WORDS (update_at node) (block_place_behind node 21), field_at-block_place node 21 (omega arith)) refl

pub update_versioned : (node : ℕ) → is_versioned (update_at node) ≡ true
update_versioned node = or_right (is_child (update_at node)) (is_update (update_at node)) (update_listed node)

-- ---- helps

module _ (world : World) (shape : Shape world) where
  pub node_word : (node field : ℕ) → is_node world.changes node ≡ true → 12 ≤ field → field < 32 → is_word no_root world (block_place node field) ≡ true
  node_word node field is high small = field_word world node field (shape.stored node is).used high small

  pub child_word : (node : ℕ) (left : Bool) → is_node world.changes node ≡ true → is_word no_root world (child_at node left) ≡ true
  child_word node left is = node_word node (child_field left) is (field_high left) (field_small left)

  module _ (list : Listed) where
    note_word : (flag : Flag) (note : ℕ) → note < 5 → IsFlag world list flag → is_word no_root world (note_at (flag_block flag) note) ≡ true
    note_word flag note small is =
        ap (λ b. is_word no_root world (note_at b note)) (own_block world list flag shape is) ∙ field_word world list.block (27 + note) (shape.flaggers list is.flagged).used (omega arith) (omega (arith, small))

    small_block : (flag : Flag) → IsFlag world list flag → flag_block flag < 2 ^ 17
    small_block flag is = omega (arith, own_block world list flag shape is, (shape.flaggers list is.flagged).small)

    -- the flag's end
    unflags_well : (flag : Flag) → IsFlag world list flag → AsksWell tree_form world (delete_asked (delete.Unflag flag true))
    unflags_well flag is =
        let node = is.flagged.node in
        let place : flag.place ≡ update_at node = ap (λ (f : Flag). f.place) (is.own ∙ ap flag_of is.flagged.entries) in
        let word : flag.word ≡ (flags_at node is.flagged.from list).to = ap (λ (f : Flag). f.word) (is.own ∙ ap flag_of is.flagged.entries) in
        let checks = shape.flaggers list is.flagged in
        let small : 4 * list.block + flag_state list.call.op < 2 ^ 24 = omega (arith, checks.small, state_below list checks.small) in (
          ap (is_word no_root world) place ∙ node_word node 21 checks.is (omega arith) (omega arith),
          ap is_versioned place ∙ update_versioned node,
          λ listable. ap versioned_bit word ∙ bit-changed is.flagged.from (4 * list.block + flag_state list.call.op) small,
          (4 * flag_block flag + CLEAN, omega (arith, small_block flag is), refl),
        )

    pub inserts : (flagged : Flagged world list) → is_set list.call.op ≡ true → Inserts world list flagged.node flagged.from
    inserts flagged set = by_does (shape.flaggers list flagged).does
      where
        by_does : Inserts world list flagged.node flagged.from ⊎ Removes world list flagged.node flagged.from → Inserts world list flagged.node flagged.from
        by_does (inl i) = i
        by_does (inr r) = absurd (both_ops list.call.op set r.rem)

    insert_asks : (it : HelpInsert) → FollowsInsert it world list → AsksWell tree_form world (insert_asked it)
    insert_asks (insert.ReadPlace flag) follows = note_word flag 0 (omega arith) follows.0
    insert_asks (insert.ReadWord flag at) follows = note_word flag 1 (omega arith) follows.0.0
    insert_asks (insert.Link flag at from) follows =
        let is = follows.0.0 in
        let i = inserts is.flagged follows.0.1 in
        let place : at ≡ child_at is.flagged.node i.left = follows.1 ∙ i.place in (
          ap (is_word no_root world) place ∙ child_word is.flagged.node i.left (shape.flaggers list is.flagged).is,
          ap is_versioned place ∙ child_versioned is.flagged.node i.left,
          λ listable. absurd (true≢false (sym listable ∙ ap is_update place ∙ child_unlisted is.flagged.node i.left)),
          (inner (flag_block flag), omega (arith, small_block flag is), refl),
        )
    insert_asks (insert.Unflag flag) follows = unflags_well flag follows.0

    pub delete_asks : (it : HelpDelete) → FollowsDelete it world list → AsksWell tree_form world (delete_asked it)
    delete_asks (delete.MarkPlace flag) follows = note_word flag 0 (omega arith) follows.0
    delete_asks (delete.MarkWord flag at) follows = note_word flag 1 (omega arith) follows.0.0
    delete_asks (delete.Mark flag at from) follows =
        let is = follows.0.0 in
        let r = removes world list shape is.flagged follows.0.1 in
        let place : at ≡ update_at r.gone = follows.1 ∙ r.update in (
          ap (is_word no_root world) place ∙ node_word r.gone 21 r.is (omega arith) (omega arith),
          ap is_versioned place ∙ update_versioned r.gone,
          λ listable. ap versioned_bit follows.2 ∙ r.clear,
          (4 * flag_block flag + MARKED, omega (arith, small_block flag is), refl),
        )
    delete_asks (delete.Check flag at) follows =
        let r = removes world list shape follows.0.0.flagged follows.0.1 in
        ap (is_word no_root world) (follows.1 ∙ r.update) ∙ node_word r.gone 21 r.is (omega arith) (omega arith)
    delete_asks (delete.StayPlace flag) follows = note_word flag 4 (omega arith) follows.0.0
    delete_asks (delete.StayWord flag at) follows =
        let r = removes world list shape follows.0.0.flagged follows.0.1 in
        ap (is_word no_root world) (follows.1 ∙ r.stays) ∙ child_word r.gone _ r.is
    delete_asks (delete.SwingPlace flag stays) follows = note_word flag 2 (omega arith) follows.0.0
    delete_asks (delete.SwingWord flag stays at) follows = note_word flag 3 (omega arith) follows.0.0
    delete_asks (delete.Swing flag stays at from) follows =
        let is = follows.0.0 in
        let r = removes world list shape is.flagged follows.0.1 in
        let place : at ≡ child_at is.flagged.node r.left = follows.1 ∙ r.place in (
          ap (is_word no_root world) place ∙ child_word is.flagged.node r.left (shape.flaggers list is.flagged).is,
          ap is_versioned place ∙ child_versioned is.flagged.node r.left,
          λ listable. absurd (true≢false (sym listable ∙ ap is_update place ∙ child_unlisted is.flagged.node r.left)),
          (versioned_value stays, value_below stays, refl),
        )
    delete_asks (delete.Unflag flag true) follows = unflags_well flag follows.0
    delete_asks (delete.Unflag flag false) follows = unflags_well flag follows.0

    mark_asks : (it : HelpMark) → FollowsMark it world list → AsksWell tree_form world (mark_asked it)
    mark_asks (mark.FindPlace block) follows = ap (λ b. is_word no_root world (note_at b 2)) (sym follows.2) ∙ field_word world list.block 29 (shape.flaggers list follows.0).used (omega arith) (omega arith)
    mark_asks (mark.FindFlag block at) follows = ap (is_word no_root world) follows.3.1 ∙ node_word follows.3.0.node 21 (shape.flaggers list follows.3.0).is (omega arith) (omega arith)
    mark_asks (mark.Deletes it) follows = delete_asks it follows

    pub wrap_asks_well : (help : Help) → Follows help world list → AsksWell tree_form world (help_asked help)
    wrap_asks_well (helps.Insert it) follows = insert_asks it follows
    wrap_asks_well (helps.Delete it) follows = delete_asks it follows
    wrap_asks_well (helps.Mark it) follows = mark_asks it follows

  -- ---- searches

  pub leaf_word : (leaf field : ℕ) → field < 2 → IsLeaf world.changes leaf → is_word no_root world (node_place leaf field) ≡ true
  leaf_word leaf field small is = by_name is.names
    where
      by_name : (leaf ≡ reference_to is.block 1) ⊎ (leaf ≡ reference_to is.block 3) → is_word no_root world (node_place leaf field) ≡ true
      by_name (inl one) =
          ap (λ r. is_word no_root world (node_place r field)) one ∙ ap (is_word no_root world) (node_place-reference_to is.block 1 field (omega arith) (omega arith))
          ∙ node_word is.block (12 + field) is.node (omega arith) (omega (arith, small))
      by_name (inr three) =
          ap (λ r. is_word no_root world (node_place r field)) three ∙ ap (is_word no_root world) (node_place-reference_to is.block 3 field (omega arith) (omega arith))
          ∙ node_word is.block (22 + field) is.node (omega arith) (omega (arith, small))

  pub search_asks_well : (search : TreeSearch) (op : Op) (since : ℕ) → Asks search → Knows search op world since → AsksWell tree_form world (asked search)
  search_asks_well (AtUpdate o above node) op since asks knows = node_word node 21 knows.learnt.1.is (omega arith) (omega arith)
  search_asks_well (AtKey o above node update) op since asks knows = node_word node 17 knows.learnt.1.is (omega arith) (omega arith)
  search_asks_well (AtChild o above node update key) op since asks knows = child_word node _ knows.learnt.1.is
  search_asks_well (AtLeaf o above last) op since asks knows = leaf_word _ 0 (omega arith) knows.learnt.2.told.is
  search_asks_well (Again o last is) op since asks knows = node_word last.node 21 knows.learnt.1.passed.is (omega arith) (omega arith)
  search_asks_well (AtValue last key) op since asks knows = leaf_word _ 1 (omega arith) knows.learnt.0.told.is
  search_asks_well (SetReady last key value) op since asks knows = absurd asks
  search_asks_well (RemReady above last) op since asks knows = absurd asks
  search_asks_well (Helps help) op since asks knows = wrap_asks_well knows.learnt.0 help knows.learnt.1
