-- Lists that wait: what keeps them waiting, and what they exclude.
use Rattle.std.proofs.Common.{◌≡◌, ◌≢◌, ℕ, ◌/◌, ◌^◌, ◌<◌, Bool, true, false, not, List, [], ◌∷◌, refl, sym, ap, subst, ◌∙◌, inl, inr, ◌⊎◌, arith}
use Rattle.std.specs.Prelude.{◌==◌, if◌then◌else◌, nat_lt}
use Rattle.std.proofs.lemmas.Bool.{or_cases, and_parts, eqb-true}
use Rattle.word_fields.specs.Versioned.{versioned_value, versioned_version}
use Rattle.lin_report.specs.declared.calls.Reply.TheVariants.{Yes}
use Rattle.lin_report.specs.declared.calls.Op.{Op}
use Rattle.normal_traits.specs.declared.lists.Entry.{Entry}
use Rattle.normal_traits.specs.World.{Listed, Change, World, Among}
use Rattle.tree_help.specs.declared.states.TheConstants.{CLEAN, INSERTING, DELETING, MARKED}
use Rattle.tree_help.specs.Updates.{state_of}
use Rattle.ellen_tree_form.specs.Words.{child_at, update_at, leaf_key_at, is_set}
use Rattle.ellen_tree_form.specs.Search.{leaf_on}
use Rattle.ellen_tree_form.specs.Shape.{Shape, Flagged, Inserts, InsertWaits, Removes, RemoveStands, Changed, IsUp, IsLeaf, OnWay, noted, flags_at, flag_state, is_node, made_node, brings, way}
use Rattle.ellen_tree_form.proofs.Plain.{both_ops, update_same}
use Rattle.ellen_tree_form.proofs.Helps.Owners.{up_value, up_block}
use Rattle.ellen_tree_form.proofs.Steps.Later.{Later}
use Rattle.ellen_tree_form.proofs.Steps.Spares.{Spares}
use Rattle.ellen_tree_steps.proofs.Lists.FlagsLast.{note_later, leaf_later, leaf_field_later}

-- ---- who brought a node

pub record IsBrought (changes : List Change) (block : ℕ) : Type 0 where
  pub change : Change
  pub among : Among change changes
  pub set : is_set change.list.call.op ≡ true
  pub block_is : change.list.block ≡ block

pub brought : (changes : List Change) (block : ℕ) → made_node changes block ≡ true → IsBrought changes block
brought [] block is = absurd cc
brought (change ∷ older) block is = elim (or_cases (brings change block) (made_node older block) is) [
  | inl here ↦ let parts = and_parts (is_set change.list.call.op) (change.list.block == block) here in
      record { change = change; among = inl refl; set = parts.0; block_is = eqb-true change.list.block block parts.1 }
  | inr there ↦ let b = brought older block there in record { change = b.change; among = inr b.among; set = b.set; block_is = b.block_is }
]

-- ---- flags

-- a list set one flag
head_or : Entry → List Entry → Entry
head_or other [] = other
head_or other (entry ∷ entries) = entry

pub same_flag : (world : World) (list : Listed) (a b : Flagged world list) → (a.node ≡ b.node) × (a.from ≡ b.from)
unfolding head_or
same_flag world list a b =
    let one : flags_at a.node a.from list ≡ flags_at b.node b.from list = ap (head_or (flags_at a.node a.from list)) (sym a.entries ∙ b.entries) in
    (update_same a.node b.node (ap (λ (e : Entry). e.target) one), ap (λ (e : Entry). e.from) one)

pub flag_states : (op : Op) → (flag_state op ≡ INSERTING) ⊎ (flag_state op ≡ DELETING)
flag_states op = by_set (is_set op)
  where
    by_set : (b : Bool) → ((if b then INSERTING else DELETING) ≡ INSERTING) ⊎ ((if b then INSERTING else DELETING) ≡ DELETING)
    by_set true = inl refl
    by_set false = inr refl

module _ (world : World) (list : Listed) (node from : ℕ) (up : IsUp world list node from) (small : list.block < 2 ^ 17) where
  -- a node with a flag is neither clean nor marked
  pub up_dirty : state_of (world.words (update_at node)) ≢ CLEAN
  up_dirty e = elim (flag_states list.call.op) [
    | inl is ↦ absurd (omega (arith, up_value world list node from up small, e, is))
    | inr is ↦ absurd (omega (arith, up_value world list node from up small, e, is))
  ]

  pub up_alive : state_of (world.words (update_at node)) ≢ MARKED
  up_alive e = elim (flag_states list.call.op) [
    | inl is ↦ absurd (omega (arith, up_value world list node from up small, e, is))
    | inr is ↦ absurd (omega (arith, up_value world list node from up small, e, is))
  ]

module _ (world : World) (shape : Shape world) where
  -- two flags that are up at one node are of one list
  pub same_up : (a b : Listed) (fa : Flagged world a) (fb : Flagged world b) → IsUp world a fa.node fa.from → IsUp world b fb.node fb.from → fa.node ≡ fb.node → a ≡ b
  same_up a b fa fb ua ub e =
      shape.same_block a b fa fb
      (sym (up_block world a fa.node fa.from ua (shape.flaggers a fa).small) ∙ ap (λ n. versioned_value (world.words (update_at n)) / 4) e ∙ up_block world b fb.node fb.from ub (shape.flaggers b fb).small)

  module _ (list : Listed) (flagged : Flagged world list) where
    -- ---- a list that waits has made no change

    pub insert_unmade : (i : Inserts world list flagged.node flagged.from) → InsertWaits world list flagged.node flagged.from i.left → Changed world list → ⊥
    insert_unmade i waits changed = elim (shape.made (record { list = list; reply = Yes }) changed) [
      | inl made ↦ omega (arith, made.1.passed, ap versioned_version (ap world.words (sym made.1.place ∙ i.place) ∙ waits.child))
      | inr made ↦ both_ops list.call.op i.set made.0
    ]

    pub remove_unmade : (r : Removes world list flagged.node flagged.from) → RemoveStands world list flagged.node flagged.from r.left r.gone → Changed world list → ⊥
    remove_unmade r stands changed = elim (shape.made (record { list = list; reply = Yes }) changed) [
      | inl made ↦ both_ops list.call.op made.0 r.rem
      | inr made ↦ omega (arith, made.1.passed, ap versioned_version (ap world.words (sym made.1.place ∙ r.place) ∙ stands.child))
    ]

    -- so its block is no node yet
    pub insert_new : (i : Inserts world list flagged.node flagged.from) → InsertWaits world list flagged.node flagged.from i.left → is_node world.changes list.block ≡ true → ⊥
    insert_new i waits is = elim (or_cases (list.block == 0) (made_node world.changes list.block) is) [
      | inl none ↦ omega (arith, (shape.flaggers list flagged).some, eqb-true list.block 0 none)
      | inr made ↦
          let b = brought world.changes list.block made in
          let same : b.change.list ≡ list = shape.same_block b.change.list list (shape.flagged b.change b.among) flagged b.block_is in
          insert_unmade i waits (subst (λ (y : Listed). Among (record { list = y; reply = Yes }) world.changes) same
          (subst (λ r. Among (record { list = b.change.list; reply = r }) world.changes) (shape.yes b.change b.among) b.among))
    ]

  -- ---- what keeps a list waiting

  module _ (after : World) (l : Later world after) (s : Spares world after) (list : Listed) (flagged : Flagged world list) where
    pub insert_waits_by : (i : Inserts world list flagged.node flagged.from) → IsUp after list flagged.node flagged.from → after.words (child_at flagged.node i.left) ≡ world.words (child_at flagged.node i.left) → OnWay after.words list.call.op.key flagged.node
        → ((left : Bool) → after.words (child_at list.block left) ≡ world.words (child_at list.block left)) → after.words (update_at list.block) ≡ 0 → InsertWaits world list flagged.node flagged.from i.left → InsertWaits after list flagged.node flagged.from i.left
    insert_waits_by i up child reached children update waits =
        let note : noted after list 1 ≡ noted world list 1 = note_later world after shape l s list flagged 1 (omega arith) in
        let key : after.words (leaf_key_at (versioned_value (noted after list 1))) ≡ world.words (leaf_key_at (versioned_value (noted world list 1))) =
        ap (λ w. after.words (leaf_key_at (versioned_value w))) note ∙ leaf_field_later world after shape l (versioned_value (noted world list 1)) 0 (omega arith) i.leaf in
        record {
          up = up;
          child = child ∙ waits.child ∙ sym note;
          reached = reached;
          new = record {
            left = children true ∙ waits.new.left ∙ ap (λ k. leaf_on (nat_lt list.call.op.key k) list.block) (sym key);
            right = children false ∙ waits.new.right ∙ ap (λ k. leaf_on (not (nat_lt list.call.op.key k)) list.block) (sym key);
            update = update;
          };
        }

    pub remove_stands_by : (r : Removes world list flagged.node flagged.from) → IsUp after list flagged.node flagged.from → after.words (child_at flagged.node r.left) ≡ world.words (child_at flagged.node r.left) → OnWay after.words list.call.op.key flagged.node
        → way after.words list.call.op.key r.gone ≡ way world.words list.call.op.key r.gone → RemoveStands world list flagged.node flagged.from r.left r.gone → RemoveStands after list flagged.node flagged.from r.left r.gone
    remove_stands_by r up child reached goes stands = record {
      up = up;
      child = child ∙ stands.child ∙ sym (note_later world after shape l s list flagged 3 (omega arith));
      reached = reached;
      leaf = subst (IsLeaf after.changes) (sym goes) (leaf_later world after shape l (way world.words list.call.op.key r.gone) stands.leaf);
      key = ap (λ r'. after.words (leaf_key_at r')) goes ∙ leaf_field_later world after shape l (way world.words list.call.op.key r.gone) 0 (omega arith) stands.leaf ∙ stands.key;
    }
