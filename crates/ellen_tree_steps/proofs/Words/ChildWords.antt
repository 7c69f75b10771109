-- An exchange of one child word, at a node at which a list's flag is up: what it leaves of the other lists, and of the
-- nodes' words.
use Rattle.std.proofs.Common.{◌≡◌, ◌≢◌, ℕ, ◌^◌, ◌<◌, Bool, true, ◌∷◌, refl, sym, ap, subst, ◌∙◌, inl, inr, ◌⊎◌, arith}
use Rattle.std.proofs.lemmas.Bool.{cases_eq}
use Rattle.word_fields.specs.Versioned.{versioned_value, cleared_word}
use Rattle.lin_report.specs.declared.calls.Reply.TheVariants.{Yes}
use Rattle.normal_traits.specs.World.{Listed, World, Among}
use Rattle.normal_traits.specs.Steps.{with_word}
use Rattle.tree_help.specs.Updates.{state_of}
use Rattle.ellen_tree_form.specs.Words.{child_at, update_at}
use Rattle.ellen_tree_form.specs.Shape.{Shape, Flagged, Inserts, InsertWaits, Removes, RemoveStands, Changed, IsStored, IsBelow, IsUp, IsMarked, OnWay, noted, is_node, child_of, is_left, way}
use Rattle.ellen_tree_form.proofs.Plain.{marked_value}
use Rattle.ellen_tree_form.proofs.Order.SwingWays.{child_same, child_update}
use Rattle.ellen_tree_form.proofs.Helps.Wraps.{with_here, with_other}
use Rattle.ellen_tree_form.proofs.Steps.Later.{Later}
use Rattle.ellen_tree_form.proofs.Steps.Spares.{Spares}
use Rattle.ellen_tree_form.proofs.Helps.FollowedStays.{marked_later}
use Rattle.ellen_tree_steps.proofs.Lists.FlagsLast.{InsertFate, RemoveFate, note_later, below_later, left_later}
use Rattle.ellen_tree_steps.proofs.Words.Stored.{state_later, stored_later}
use Rattle.ellen_tree_steps.proofs.Lists.Waiting.{same_up, up_dirty, up_alive, insert_new, insert_waits_by, remove_stands_by}

-- a place is that of the child, or it is another one
pub child_cases : (a b : ℕ) (x y : Bool) → ((a ≡ b) × (x ≡ y)) ⊎ (child_at a x ≢ child_at b y)
child_cases a b x y = elim (cases_eq (child_at a x) (child_at b y)) [
  | inl same ↦ inl (child_same a b x y same)
  | inr differs ↦ inr differs
]

module _ (world after : World) (shape : Shape world) (l : Later world after) (s : Spares world after) (own : Listed) (flagged_own : Flagged world own) (side : Bool) (to : ℕ)
    (words : (at : ℕ) → after.words at ≡ with_word (child_at flagged_own.node side) to world.words at) (changes : after.changes ≡ record { list = own; reply = Yes } ∷ world.changes) (up_own : IsUp world own flagged_own.node flagged_own.from) where
  -- ---- words

  pub child_here : after.words (child_at flagged_own.node side) ≡ to
  child_here = words (child_at flagged_own.node side) ∙ with_here (child_at flagged_own.node side) to world.words (child_at flagged_own.node side) refl

  child_other : (node : ℕ) (left : Bool) → child_at node left ≢ child_at flagged_own.node side → after.words (child_at node left) ≡ world.words (child_at node left)
  child_other node left differs = words (child_at node left) ∙ with_other (child_at flagged_own.node side) to world.words (child_at node left) differs

  pub child_apart : (node : ℕ) (left : Bool) → node ≢ flagged_own.node → after.words (child_at node left) ≡ world.words (child_at node left)
  child_apart node left differs = child_other node left (λ e. differs (child_same node flagged_own.node left side e).0)

  pub update_stays : (node : ℕ) → after.words (update_at node) ≡ world.words (update_at node)
  update_stays node = words (update_at node) ∙ with_other (child_at flagged_own.node side) to world.words (update_at node) (child_update flagged_own.node node side)

  way_apart : (key node : ℕ) → is_node world.changes node ≡ true → node ≢ flagged_own.node → way after.words key node ≡ way world.words key node
  way_apart key node is differs = ap (λ b. child_of after.words node b) (left_later world after shape l key node is) ∙ ap versioned_value (child_apart node (is_left world.words key node) differs)

  -- ---- the list whose change it is

  pub changed_own : Changed after own
  changed_own = subst (Among (record { list = own; reply = Yes })) (sym changes) (inl refl)

  is_own : is_node world.changes flagged_own.node ≡ true
  is_own = (shape.flaggers own flagged_own).is

  small_own : own.block < 2 ^ 17
  small_own = (shape.flaggers own flagged_own).small

  -- ---- other lists

  module _ (list : Listed) (flagged : Flagged world list) where
    up_child : IsUp world list flagged.node flagged.from → IsUp after list flagged.node flagged.from
    up_child up = ap cleared_word (update_stays flagged.node) ∙ up

    -- a list that waits at this place is the list whose change it is
    own_place : (left : Bool) → IsUp world list flagged.node flagged.from → (flagged.node ≡ flagged_own.node) × (left ≡ side) → own ≡ list
    own_place left up same = same_up world shape own list flagged_own flagged up_own up (sym same.0)

    pub inserts_child : (i : Inserts world list flagged.node flagged.from) → (own ≡ list → InsertFate after list flagged.node flagged.from i.left) → (OnWay world.words list.call.op.key flagged.node → IsUp world list flagged.node flagged.from → OnWay after.words list.call.op.key flagged.node)
        → InsertWaits world list flagged.node flagged.from i.left → InsertFate after list flagged.node flagged.from i.left
    inserts_child i of_own reached waits = elim (child_cases flagged.node flagged_own.node i.left side) [
      | inl same ↦ of_own (own_place i.left waits.up same)
      | inr differs ↦
          let new : list.block ≢ flagged_own.node = λ e. insert_new world shape list flagged i waits (subst (λ n. is_node world.changes n ≡ true) (sym e) is_own) in
          inl (insert_waits_by world shape after l s list flagged i (up_child waits.up) (child_other flagged.node i.left differs) (reached waits.reached waits.up) (λ left. child_apart list.block left new) (update_stays list.block ∙ waits.new.update) waits)
    ]

    stands_child : (r : Removes world list flagged.node flagged.from) → r.gone ≢ flagged_own.node → child_at flagged.node r.left ≢ child_at flagged_own.node side → (OnWay world.words list.call.op.key flagged.node → IsUp world list flagged.node flagged.from → OnWay after.words list.call.op.key flagged.node)
        → RemoveStands world list flagged.node flagged.from r.left r.gone → RemoveStands after list flagged.node flagged.from r.left r.gone
    stands_child r apart differs reached stands =
        remove_stands_by world shape after l s list flagged r (up_child stands.up) (child_other flagged.node r.left differs) (reached stands.reached stands.up) (way_apart list.call.op.key r.gone r.is apart) stands

    pub waits_child : (r : Removes world list flagged.node flagged.from) → (own ≡ list → RemoveFate after list flagged.node flagged.from r.left r.gone) → (OnWay world.words list.call.op.key flagged.node → IsUp world list flagged.node flagged.from → OnWay after.words list.call.op.key flagged.node)
        → RemoveStands world list flagged.node flagged.from r.left r.gone → world.words (update_at r.gone) ≡ noted world list 1 → RemoveFate after list flagged.node flagged.from r.left r.gone
    waits_child r of_own reached stands here = elim (child_cases flagged.node flagged_own.node r.left side) [
      | inl same ↦ of_own (own_place r.left stands.up same)
      | inr differs ↦
          let apart : r.gone ≢ flagged_own.node = λ e. up_dirty world own flagged_own.node flagged_own.from up_own small_own (ap (λ n. state_of (world.words (update_at n))) (sym e) ∙ ap state_of here ∙ r.clean) in
          inl (stands_child r apart differs reached stands, update_stays r.gone ∙ here ∙ sym (note_later world after shape l s list flagged 1 (omega arith)))
    ]

    pub marked_child : (r : Removes world list flagged.node flagged.from) → (own ≡ list → RemoveFate after list flagged.node flagged.from r.left r.gone) → (OnWay world.words list.call.op.key flagged.node → IsUp world list flagged.node flagged.from → OnWay after.words list.call.op.key flagged.node)
        → RemoveStands world list flagged.node flagged.from r.left r.gone → IsMarked world list r.gone → RemoveFate after list flagged.node flagged.from r.left r.gone
    marked_child r of_own reached stands marked = elim (child_cases flagged.node flagged_own.node r.left side) [
      | inl same ↦ of_own (own_place r.left stands.up same)
      | inr differs ↦
          let value = marked_value world list r.gone (shape.flaggers list flagged).small marked in
          let apart : r.gone ≢ flagged_own.node = λ e. up_alive world own flagged_own.node flagged_own.from up_own small_own (ap (λ n. state_of (world.words (update_at n))) (sym e) ∙ omega (arith, value)) in
          inr (inl (stands_child r apart differs reached stands, marked_later world after shape l s list flagged r.rem r.gone r.update marked))
    ]

  -- ---- nodes

  pub stored_child : IsBelow after.changes (versioned_value to) → to < 2 ^ 64 → (block : ℕ) → is_node world.changes block ≡ true → IsStored after block
  stored_child names fits block is =
      let was = shape.stored block is in
      stored_later world after shape l s block is leads fit (omega (arith, update_stays block, was.update_fits)) (state_later world after shape l s block (ap cleared_word (update_stays block)) was.state)
    where
      leads : (left : Bool) → IsBelow after.changes (child_of after.words block left)
      leads left = elim (child_cases block flagged_own.node left side) [
        | inl same ↦ subst (λ n. IsBelow after.changes (child_of after.words n left)) (sym same.0) (subst (λ b. IsBelow after.changes (child_of after.words flagged_own.node b)) (sym same.1) (subst (IsBelow after.changes) (ap versioned_value (sym child_here)) names))
        | inr differs ↦ below_later world after shape l _ (subst (IsBelow world.changes) (ap versioned_value (sym (child_other block left differs))) ((shape.stored block is).leads left))
      ]

      fit : (left : Bool) → after.words (child_at block left) < 2 ^ 64
      fit left = elim (child_cases block flagged_own.node left side) [
        | inl same ↦ omega (arith, ap (λ n. after.words (child_at n left)) same.0, ap (λ b. after.words (child_at flagged_own.node b)) same.1, child_here, fits)
        | inr differs ↦ omega (arith, child_other block left differs, (shape.stored block is).fits left)
      ]
