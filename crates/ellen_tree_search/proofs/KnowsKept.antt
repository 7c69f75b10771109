-- What a search of the tree has learnt stays true whatever anyone does.
use Rattle.std.proofs.Common.{◌≡◌, ℕ, ◌<◌, ◌≤◌, Bool, true, false, length, Option, refl, sym, ap, ◌∙◌, inl, inr, arith}
use Rattle.std.specs.Prelude.{◌==◌, if◌then◌else◌, Some, None}
use Rattle.word_fields.specs.Versioned.{versioned_version}
use Rattle.lin_report.specs.declared.calls.Op.{Op}
use Rattle.lin_report.specs.declared.calls.Reply.TheVariants.{Yes}
use Rattle.lin_report.specs.Commands.{KEY_LIMIT}
use Rattle.lin_report.specs.Object.{IsCommandOf, map_object}
use Rattle.normal_traits.specs.World.{World}
use Rattle.normal_traits.specs.Steps.{with_word, IsStep}
use Rattle.tree_help.specs.declared.states.TheConstants.{CLEAN, INSERTING, DELETING, MARKED}
use Rattle.tree_help.specs.Updates.{state_of, inner}
use Rattle.ellen_tree_form.specs.declared.states.TreeSearch.{TreeSearch}
use Rattle.ellen_tree_form.specs.declared.states.TreeSearch.TheVariants.{AtUpdate, AtKey, AtChild, AtLeaf, Again, AtValue, SetReady, RemReady, Helps}
use Rattle.ellen_tree_form.specs.declared.states.Passed.{Passed}
use Rattle.ellen_tree_form.specs.Words.{is_internal, child_at, update_at, leaf_key_at, leaf_value_at, is_set}
use Rattle.ellen_tree_form.specs.Search.{leaf_of}
use Rattle.ellen_tree_form.specs.Shape.{Shape, is_node, is_left, flag_state}
use Rattle.ellen_tree_form.specs.Knowledge.{Knows, Learnt, Reaches, IsKnown, HasPassed, CameFrom, IsAt, HasLeaf, SawUpdate}
use Rattle.ellen_tree_form.specs.Form.{tree_form}
use Rattle.ellen_tree_form.proofs.Plain.{both_ops, marked_value}
use Rattle.ellen_tree_form.proofs.Helps.Owners.{up_value}
use Rattle.ellen_tree_form.proofs.Order.SwingWays as swung
use Rattle.ellen_tree_form.proofs.Order.InsertWays as linked
use Rattle.ellen_tree_form.proofs.Order.SwingWays.{child_same, child_update, field_small}
use Rattle.ellen_tree_form.proofs.Helps.Wraps.{with_other}
use Rattle.ellen_tree_form.proofs.Asks.{node_word}
use Rattle.ellen_tree_form.proofs.Offers.{key_limit}
use Rattle.ellen_tree_form.proofs.Steps.Later.{Later, later, seen_later, passed_on}
use Rattle.ellen_tree_form.proofs.Steps.Spares.{Spares, spares}
use Rattle.ellen_tree_form.proofs.Helps.FollowedStays.{follows_later}
use Rattle.ellen_tree_steps.specs.Effects.{Links, Swings, Effect}
use Rattle.ellen_tree_steps.specs.Effects.Effect.{quiet, sets, links, marks, swings, ends}
use Rattle.ellen_tree_steps.proofs.Lists.FlagsLast.{node_later, key_later, left_later, leaf_field_later}
use Rattle.ellen_tree_steps.proofs.Lists.Told.{length_later, was_told_later}
use Rattle.ellen_tree_steps.proofs.Order.Asides.{reaches_stays}
use Rattle.ellen_tree_steps.proofs.Shape.KeptQuiet.{child_quiet}
use Rattle.ellen_tree_steps.proofs.Shape.KeptSwing.{apart}
use Rattle.ellen_tree_steps.proofs.Order.SwingForm.{to_gone, leaf_out}
use Rattle.ellen_tree_steps.proofs.Order.LinkForm as new
use Rattle.ellen_tree_steps.proofs.Words.ChildWords.{child_cases}
use Rattle.ellen_tree_steps.proofs.Lists.Waiting.{up_dirty}
use Rattle.ellen_tree_steps.proofs.Steps.{effect_of}

module _ (world after : World) (shape : Shape world) (l : Later world after) (s : Spares world after) where
  -- ---- children

  beside_update : (x word : ℕ) → ((at : ℕ) → after.words at ≡ with_word (update_at x) word world.words at) → (node : ℕ) (left : Bool) → after.words (child_at node left) ≡ world.words (child_at node left)
  beside_update x word words node left = words (child_at node left) ∙ with_other (update_at x) word world.words (child_at node left) (λ e. child_update node x left (sym e))

  -- a child changes only while a flag is up at its node
  child_kept : Effect world after → (node : ℕ) (left : Bool) → is_node world.changes node ≡ true → state_of (world.words (update_at node)) ≡ CLEAN → after.words (child_at node left) ≡ world.words (child_at node left)
  child_kept (quiet x) node left is clean = child_quiet world after shape l s x node left (shape.stored node is).used
  child_kept (sets x) node left is clean = beside_update x.node x.word x.words node left
  child_kept (marks x) node left is clean = beside_update x.removes.gone _ x.beside.words node left
  child_kept (ends x) node left is clean = beside_update x.flagged.node _ x.beside.words node left
  child_kept (links x) node left is clean = elim (child_cases node x.flagged.node left x.inserts.left) [
    | inl same ↦ absurd (up_dirty world x.list x.flagged.node x.flagged.from x.waits.up (shape.flaggers x.list x.flagged).small (ap (λ n. state_of (world.words (update_at n))) (sym same.0) ∙ clean))
    | inr differs ↦ x.beside.words (child_at node left) ∙ with_other (child_at x.flagged.node x.inserts.left) x.to world.words (child_at node left) differs
  ]
  child_kept (swings x) node left is clean = elim (child_cases node x.flagged.node left x.removes.left) [
    | inl same ↦ absurd (up_dirty world x.list x.flagged.node x.flagged.from x.stands.up (shape.flaggers x.list x.flagged).small (ap (λ n. state_of (world.words (update_at n))) (sym same.0) ∙ clean))
    | inr differs ↦ x.beside.words (child_at node left) ∙ with_other (child_at x.flagged.node x.removes.left) x.to world.words (child_at node left) differs
  ]

  -- ---- ways

  flag_inserts : (x : Links world after) → state_of (world.words (update_at x.flagged.node)) ≡ INSERTING
  flag_inserts x =
      let small = (shape.flaggers x.list x.flagged).small in
      let value = up_value world x.list x.flagged.node x.flagged.from x.waits.up small in
      let state : flag_state x.list.call.op ≡ INSERTING = ap (λ b. if b then INSERTING else DELETING) x.set in
      omega (arith, value, state)

  flag_deletes : (x : Swings world after) → state_of (world.words (update_at x.flagged.node)) ≡ DELETING
  flag_deletes x =
      let small = (shape.flaggers x.list x.flagged).small in
      let value = up_value world x.list x.flagged.node x.flagged.from x.stands.up small in
      let state : flag_state x.list.call.op ≡ DELETING = by_set (is_set x.list.call.op) refl in
      omega (arith, value, state)
    where
      by_set : (b : Bool) → is_set x.list.call.op ≡ b → (if b then INSERTING else DELETING) ≡ DELETING
      by_set true e = absurd (both_ops x.list.call.op e x.rem)
      by_set false e = refl

  module _ (key since : ℕ) (limit : key < KEY_LIMIT) (began : since ≤ length world.changes) where
    reaches_kept : Effect world after → (reference : ℕ) → Reaches world since key reference → Reaches after since key reference
    reaches_kept (quiet x) reference r = reaches_stays world after shape l s x.changes (λ node left is. child_quiet world after shape l s x node left (shape.stored node is).used) since key reference r
    reaches_kept (sets x) reference r = reaches_stays world after shape l s x.changes (λ node left is. beside_update x.node x.word x.words node left) since key reference r
    reaches_kept (marks x) reference r = reaches_stays world after shape l s x.changes (λ node left is. beside_update x.removes.gone _ x.beside.words node left) since key reference r
    reaches_kept (ends x) reference r = reaches_stays world after shape l s x.changes (λ node left is. beside_update x.flagged.node _ x.beside.words node left) since key reference r
    reaches_kept (links x) reference r =
        linked.reaches_later world after x.flagged.node x.inserts.left x.to x.beside.words (ap is_internal (new.to_old world after shape x) ∙ new.leaf_old world after shape x) (record { list = x.list; reply = Yes }) x.changes
        (λ block is. node_later world after shape l block is) (flag_inserts x) key since reference r
    reaches_kept (swings x) reference r =
        let marked : state_of (world.words (update_at x.removes.gone)) ≡ MARKED = omega (arith, marked_value world x.list x.removes.gone (shape.flaggers x.list x.flagged).small x.marked) in
        swung.reaches_later world after x.flagged.node x.removes.gone x.removes.left (is_left world.words x.list.call.op.key x.removes.gone) x.to x.beside.words (to_gone world after shape l s x) x.value (leaf_out world after shape l s x) x.removes.some
        (apart world after shape l s x) shape (record { list = x.list; reply = Yes }) x.changes (λ block is. node_later world after shape l block is) x.removes.is marked (flag_deletes x) key since limit began reference r

    -- ---- what was passed

    module _ (effect : Effect world after) where
      known_kept : (node update : ℕ) → IsKnown world node update → IsKnown after node update
      known_kept node update known clear = elim (known clear) [
        | inl clean ↦ inl clean
        | inr helps ↦ inr (helps.0, follows_later world after shape l s helps.0 _ helps.1)
      ]

      passed_kept : (passed : Passed) → HasPassed world since key passed → HasPassed after since key passed
      passed_kept passed has =
          let at = update_at passed.node in
          let word = node_word world shape passed.node 21 has.is (omega arith) (omega arith) in
          record {
            is = node_later world after shape l passed.node has.is;
            reaches = reaches_kept effect (inner passed.node) has.reaches;
            side = has.side ∙ sym (left_later world after shape l key passed.node has.is);
            seen = seen_later world after at passed.update word l has.seen;
            known = known_kept passed.node passed.update has.known;
            same = λ clear clean here. elim (has.seen clear) [
              | inl stood ↦ child_kept effect passed.node passed.left has.is (ap state_of stood ∙ clean) ∙ has.same clear clean stood
              | inr past ↦ absurd (omega (arith, passed_on at passed.update word l past, ap versioned_version here))
            ];
            fits = has.fits;
          }

      came_kept : (above : Option Passed) (node : ℕ) → CameFrom world since key above node → CameFrom after since key above node
      came_kept None node came = came
      came_kept (Some above) node came = (passed_kept above came.0, came.1, came.2)

      at_kept : (above : Option Passed) (node : ℕ) → IsAt world since key above node → IsAt after since key above node
      at_kept above node at = record { is = node_later world after shape l node at.is; reaches = reaches_kept effect (inner node) at.reaches; came = came_kept above node at.came }

      leaf_kept : (last : Passed) → HasLeaf world since key last → HasLeaf after since key last
      leaf_kept last has = record { passed = passed_kept last has.passed; told = was_told_later world after shape l since key (leaf_of last) has.told }

      saw_kept : (node update : ℕ) → is_node world.changes node ≡ true → SawUpdate world node update → SawUpdate after node update
      saw_kept node update is saw = record {
        seen = seen_later world after (update_at node) update (node_word world shape node 21 is (omega arith) (omega arith)) l saw.seen;
        known = known_kept node update saw.known;
        fits = saw.fits;
      }

      -- the key and the value of a leaf
      key_kept : (last : Passed) → HasLeaf world since key last → after.words (leaf_key_at (leaf_of last)) ≡ world.words (leaf_key_at (leaf_of last))
      key_kept last has = leaf_field_later world after shape l (leaf_of last) 0 (omega arith) has.told.is

      value_kept : (last : Passed) → HasLeaf world since key last → after.words (leaf_value_at (leaf_of last)) ≡ world.words (leaf_value_at (leaf_of last))
      value_kept last has = leaf_field_later world after shape l (leaf_of last) 1 (omega arith) has.told.is

  -- ---- searches

  module _ (op : Op) (since : ℕ) (limit : op.key < KEY_LIMIT) (began : since ≤ length world.changes) (effect : Effect world after) where
    learnt_kept : (search : TreeSearch) → Learnt search op world since → Learnt search op after since
    learnt_kept (AtUpdate o above node) k = (k.0, at_kept op.key since limit began effect above node k.1)
    learnt_kept (AtKey o above node update) k = (k.0, at_kept op.key since limit began effect above node k.1, saw_kept op.key since limit began effect node update k.1.is k.2)
    learnt_kept (AtChild o above node update key) k =
        (k.0, at_kept op.key since limit began effect above node k.1, saw_kept op.key since limit began effect node update k.1.is k.2, k.3 ∙ sym (key_later world after shape l node k.1.is))
    learnt_kept (AtLeaf o above last) k = (k.0, came_kept op.key since limit began effect above last.node k.1, leaf_kept op.key since limit began effect last k.2)
    learnt_kept (Again o last is) k = (k.0, leaf_kept op.key since limit began effect last k.1, ap (λ y. y == op.key) (key_kept op.key since limit began effect last k.1) ∙ k.2, k.3)
    learnt_kept (AtValue last key) k = (leaf_kept op.key since limit began effect last k.0, k.1, k.2, k.3 ∙ sym (key_kept op.key since limit began effect last k.0), k.4)
    learnt_kept (SetReady last key value) k =
        (leaf_kept op.key since limit began effect last k.0, k.1, k.2, k.3 ∙ sym (key_kept op.key since limit began effect last k.0), k.4, k.5 ∙ sym (value_kept op.key since limit began effect last k.0))
    learnt_kept (RemReady above last) k =
        (leaf_kept op.key since limit began effect last k.0, k.1, came_kept op.key since limit began effect (Some above) last.node k.2, k.3, k.4, key_kept op.key since limit began effect last k.0 ∙ k.5)
    learnt_kept (Helps help) k = (k.0, follows_later world after shape l s k.0 help k.1)

    knows_later : (search : TreeSearch) → Learnt search op world since → Knows search op after since
    knows_later search k = record { began = omega (arith, began, length_later world after shape l l.changes); learnt = learnt_kept search k }

pub knows_kept : (world after : World) (search : TreeSearch) (op : Op) (since : ℕ) → IsCommandOf map_object op → Shape world → Knows search op world since → IsStep tree_form world after → Knows search op after since
knows_kept world after search op since command shape knows step =
    knows_later world after shape (later world after shape step) (spares world after shape step) op since (key_limit op command) knows.began (effect_of world after shape step) search knows.learnt
