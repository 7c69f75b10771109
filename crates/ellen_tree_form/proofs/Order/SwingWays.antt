-- A key's way before and after a swing, and what a search has learnt of it.
use Rattle.std.proofs.Common.{◌≡◌, ◌≢◌, ℕ, ◌+◌, ◌-◌, ◌*◌, ◌/◌, ◌%◌, ◌<◌, ◌≤◌, Bool, true, false, not, List, ◌∷◌, length, refl, sym, ap, subst, ◌∙◌, inl, inr, ◌⊎◌, arith}
use Rattle.std.specs.Prelude.{◌==◌, if◌then◌else◌, nat_lt, Some, None}
use Rattle.std.specs.FinMap as map
use Rattle.std.proofs.lemmas.Bool.{eq-eqb, ne_eqb, cases_eq, ltb-true, ltb-false}
use Rattle.word_fields.specs.Versioned.{versioned_value}
use Rattle.lin_report.specs.Object.{map_object}
use Rattle.lin_report.specs.Commands.{KEY_LIMIT}
use Rattle.node_arena.specs.MemoryMap.{node_place, node_named, field_at}
use Rattle.node_arena.proofs.PlacesApart.{field_at-block_place, same_field, same_block, node_place-reference_to, field_at-node_place, node_named_below, node_named_some}
use Rattle.normal_traits.specs.World.{World, Change, held_after, first_changes}
use Rattle.normal_traits.specs.Steps.{with_word}
use Rattle.tree_help.specs.declared.states.TheConstants.{DELETING, MARKED}
use Rattle.tree_help.specs.Updates.{state_of, inner}
use Rattle.ellen_tree_form.specs.Words.{is_internal, child_at, child_field, update_at, key_at, leaf_key_at, leaf_value_at}
use Rattle.ellen_tree_form.specs.Shape.{Shape, Ordered, is_node, IsLeaf, IsBelow, child_of, is_left, way, OnWay, told_by, keys, children, TOP}
use Rattle.ellen_tree_form.specs.Shape.OnWay.{root, below}
use Rattle.ellen_tree_form.specs.Knowledge.{Reaches, WasTold}
use Rattle.ellen_tree_form.specs.Knowledge.Reaches.{on, off, told}
use Rattle.client_lemmas.proofs.Growing.{first_older, first_all}

-- ---- places

pub field_small : (left : Bool) → child_field left < 32
field_small true = omega arith
field_small false = omega arith

field_low : (left : Bool) → 18 < child_field left
field_low true = omega arith
field_low false = omega arith

field_high : (left : Bool) → child_field left < 21
field_high true = omega arith
field_high false = omega arith

pub child_same : (a b : ℕ) (l m : Bool) → child_at a l ≡ child_at b m → (a ≡ b) × (l ≡ m)
child_same a b l m e = (same_block a (child_field l) b (child_field m) (field_small l) (field_small m) e, by_sides l m (same_field a (child_field l) b (child_field m) (field_small l) (field_small m) e))
  where
    by_sides : (x y : Bool) → child_field x ≡ child_field y → x ≡ y
    by_sides true true e' = refl
    by_sides false false e' = refl
    by_sides true false e' = absurd (omega (arith, e'))
    by_sides false true e' = absurd (omega (arith, e'))

pub child_key : (a b : ℕ) (l : Bool) → key_at b ≢ child_at a l
child_key a b l e = absurd (omega (arith, field_low l, same_field b 17 a (child_field l) (omega arith) (field_small l) e))

pub child_update : (a b : ℕ) (l : Bool) → update_at b ≢ child_at a l
child_update a b l e = absurd (omega (arith, field_high l, same_field b 21 a (child_field l) (omega arith) (field_small l) e))

pub inner_same : (a b : ℕ) → inner a ≡ inner b → a ≡ b
inner_same a b e = omega (arith, e)

pub inner_is : (block : ℕ) → is_internal (inner block) ≡ true
inner_is block = eq-eqb (inner block % 4) 2 (omega arith)

pub inner_block : (block : ℕ) → inner block / 4 ≡ block
inner_block block = omega arith

pub children_are : (world : World) (node : ℕ) (left : Bool) → children world (inner node) left ≡ child_of world.words node left
children_are world node left = ap (λ b. child_of world.words b left) (inner_block node)

pub leaf_names : (changes : List Change) (reference : ℕ) → IsLeaf changes reference → is_internal reference ≡ false
leaf_names changes reference leaf' = elim leaf'.names [
  | inl one ↦ ne_eqb (reference % 4) 2 (λ e. omega (arith, e, one))
  | inr three ↦ ne_eqb (reference % 4) 2 (λ e. omega (arith, e, three))
]

-- ---- a way leads along the order

pub record InRange (on : ℕ → Bool) (low high : ℕ → ℕ) (key reference : ℕ) : Type 0 where
  pub is : on reference ≡ true
  pub above : low reference ≤ key
  pub within : key < high reference

module _ (world : World) (on : ℕ → Bool) (low high : ℕ → ℕ) (o : Ordered (keys world) (children world) on low high) (key : ℕ) where
  -- the key of an internal node is that of its reference
  key_is : (node : ℕ) → keys world (inner node) ≡ world.words (key_at node)
  key_is node = ap world.words (node_place-reference_to node 2 0 (omega arith) (omega arith))

  pub children_of : (node : ℕ) (left : Bool) → children world (inner node) left ≡ child_of world.words node left
  children_of node left = ap (λ b. child_of world.words b left) (inner_block node)

  pub next_in : (node : ℕ) → InRange on low high key (inner node) → InRange on low high key (way world.words key node)
  next_in node r = by_side (is_left world.words key node) refl
    where
      by_side : (b : Bool) → is_left world.words key node ≡ b → InRange on low high key (child_of world.words node b)
      by_side true e =
          let less : key < world.words (key_at node) = ltb-true key (world.words (key_at node)) e in
          subst (InRange on low high key) (children_of node true) (record {
            is = o.leads (inner node) true r.is (inner_is node);
            above = omega (arith, r.above, o.left_low (inner node) r.is (inner_is node));
            within = omega (arith, less, o.left_high (inner node) r.is (inner_is node), key_is node);
          })
      by_side false e =
          let more : world.words (key_at node) ≤ key = ltb-false key (world.words (key_at node)) e in
          subst (InRange on low high key) (children_of node false) (record {
            is = o.leads (inner node) false r.is (inner_is node);
            above = omega (arith, more, o.right_low (inner node) r.is (inner_is node), key_is node);
            within = omega (arith, r.within, o.right_high (inner node) r.is (inner_is node));
          })

  pub way_in : (node : ℕ) → key < TOP → OnWay world.words key node → InRange on low high key (inner node)
  way_in node fits (root e) = subst (λ b. InRange on low high key (inner b)) (sym e) (record { is = o.root; above = omega (arith, o.root_low); within = omega (arith, o.root_high, fits) })
  way_in node fits (below above w e) = subst (InRange on low high key) e (next_in above (way_in above fits w))

-- what the leaf at the end of a key's way tells now
pub told_now : (world : World) (shape : Shape world) (key node : ℕ) → key < KEY_LIMIT → OnWay world.words key node → is_internal (way world.words key node) ≡ false
    → map.get (held_after map_object world.changes) key ≡ told_by world.words key (way world.words key node)
told_now world shape key node fits w leaf =
    let r = next_in world shape.on shape.low shape.high shape.ordered key node (way_in world shape.on shape.low shape.high shape.ordered key node (omega (arith, fits)) w) in
    shape.tells (way world.words key node) key r.is leaf r.above r.within fits

-- ---- a swing

module _ (world after : World) (g gone : ℕ) (side leafside : Bool) (to : ℕ) (words : (at : ℕ) → after.words at ≡ with_word (child_at g side) to world.words at)
    (child : child_of world.words g side ≡ inner gone) (stays : versioned_value to ≡ child_of world.words gone (not leafside)) (leaf : is_internal (child_of world.words gone leafside) ≡ false)
    (some : gone ≢ 0) (apart : gone ≢ g) where
  beside : (at : ℕ) → at ≢ child_at g side → after.words at ≡ world.words at
  beside at differs = words at ∙ ap (λ b. if b then to else world.words at) (ne_eqb at (child_at g side) differs)

  pub key_stays : (node : ℕ) → after.words (key_at node) ≡ world.words (key_at node)
  key_stays node = beside (key_at node) (child_key g node side)

  pub update_stays : (node : ℕ) → after.words (update_at node) ≡ world.words (update_at node)
  update_stays node = beside (update_at node) (child_update g node side)

  pub left_stays : (key node : ℕ) → is_left after.words key node ≡ is_left world.words key node
  left_stays key node = ap (λ k. nat_lt key k) (key_stays node)

  pub child_stays : (node : ℕ) (left : Bool) → (node ≡ g → left ≡ side → ⊥) → child_of after.words node left ≡ child_of world.words node left
  child_stays node left other = ap versioned_value (beside (child_at node left) (λ e. let s = child_same node g left side e in other s.0 s.1))

  pub child_swung : child_of after.words g side ≡ child_of world.words gone (not leafside)
  child_swung = ap versioned_value (words (child_at g side) ∙ ap (λ b. if b then to else world.words (child_at g side)) (eq-eqb (child_at g side) (child_at g side) refl)) ∙ stays

  way_stays : (key node : ℕ) → (node ≡ g → is_left world.words key node ≡ side → ⊥) → way after.words key node ≡ way world.words key node
  way_stays key node other = ap (λ b. child_of after.words node b) (left_stays key node) ∙ child_stays node (is_left world.words key node) other

  way_swung : (key : ℕ) → is_left world.words key g ≡ side → way after.words key g ≡ child_of world.words gone (not leafside)
  way_swung key e = ap (λ b. child_of after.words g b) (left_stays key g ∙ e) ∙ child_swung

  -- where the node that is gone was on the way, the way now goes on from g
  pub record PastGone (key node : ℕ) : Type 0 where
    pub is : node ≡ gone
    pub at : OnWay after.words key g
    pub turn : is_left world.words key g ≡ side

  pub swung_way : (key node : ℕ) → OnWay world.words key node → OnWay after.words key node ⊎ PastGone key node
  swung_way key node (root e) = inl (root e)
  swung_way key node (below above w e) = elim (swung_way key above w) [
    | inl here ↦ by_turn here (cases_eq above g) (both (is_left world.words key above) side)
    | inr past ↦ inl (below g past.at (way_swung key past.turn ∙ by_direction past (both (is_left world.words key gone) leafside)))
  ]
    where
      both : (a b : Bool) → (a ≡ b) ⊎ (a ≡ not b)
      both true true = inl refl
      both false false = inl refl
      both true false = inr refl
      both false true = inr refl

      never : (a b : Bool) → a ≡ b → a ≡ not b → ⊥
      never true true e' n = absurd cc
      never false false e' n = absurd cc
      never true false e' n = absurd cc
      never false true e' n = absurd cc

      by_turn : OnWay after.words key above → (above ≡ g) ⊎ (above ≢ g) → (is_left world.words key above ≡ side) ⊎ (is_left world.words key above ≡ not side) → OnWay after.words key node ⊎ PastGone key node
      by_turn here (inl same) (inl turn) =
          inr (record {
            is = inner_same node gone (sym e ∙ ap (λ a. way world.words key a) same ∙ ap (λ b. child_of world.words g b) (ap (λ a. is_left world.words key a) (sym same) ∙ turn) ∙ child);
            at = subst (OnWay after.words key) same here;
            turn = ap (λ a. is_left world.words key a) (sym same) ∙ turn;
          })
      by_turn here (inl same) (inr turn) = inl (below above here (way_stays key above (λ s t. never (is_left world.words key above) side t turn) ∙ e))
      by_turn here (inr differs) t = inl (below above here (way_stays key above (λ s t'. differs s) ∙ e))

      by_direction : PastGone key above → (is_left world.words key gone ≡ leafside) ⊎ (is_left world.words key gone ≡ not leafside) → child_of world.words gone (not leafside) ≡ inner node
      by_direction past (inl toward) =
          let is_leaf : is_internal (inner node) ≡ false = subst (λ r. is_internal r ≡ false) (ap (λ b. child_of world.words gone b) (sym toward) ∙ ap (λ a. way world.words key a) (sym past.is) ∙ e) leaf in
          let is_inner : is_internal (inner node) ≡ true = inner_is node in
          absurd cc
      by_direction past (inr away) = ap (λ b. child_of world.words gone b) (sym away) ∙ ap (λ a. way world.words key a) (sym past.is) ∙ e

  -- ---- what a search has learnt

  -- keys and values of leaves are none of the words that are exchanged
  leaf_field : (left : Bool) (reference field : ℕ) → field < 2 → 12 + 5 * (node_named reference - 1) + field ≢ child_field left
  leaf_field true reference field small e = absurd (omega (arith, e, small, node_named_below reference, node_named_some reference))
  leaf_field false reference field small e = absurd (omega (arith, e, small, node_named_below reference, node_named_some reference))

  leaf_word : (reference field : ℕ) → field < 2 → after.words (node_place reference field) ≡ world.words (node_place reference field)
  leaf_word reference field small =
      beside (node_place reference field) (λ e. leaf_field side reference field small (sym (field_at-node_place reference field (omega (arith, small))) ∙ ap field_at e ∙ field_at-block_place g (child_field side) (field_small side)))

  told_stays : (key reference : ℕ) → told_by after.words key reference ≡ told_by world.words key reference
  told_stays key reference =
      ap (λ k. if k == key then Some (after.words (leaf_value_at reference)) else None) (leaf_word reference 0 (omega arith))
      ∙ ap (λ v. if world.words (leaf_key_at reference) == key then Some v else None) (leaf_word reference 1 (omega arith))

  leaf_apart : (changes : List Change) (reference : ℕ) → IsLeaf changes reference → is_internal reference ≡ false
  leaf_apart changes reference leaf' = elim leaf'.names [
    | inl one ↦ ne_eqb (reference % 4) 2 (λ e. omega (arith, e, one))
    | inr three ↦ ne_eqb (reference % 4) 2 (λ e. omega (arith, e, three))
  ]

  module _ (shape : Shape world) (change : Change) (changes : after.changes ≡ change ∷ world.changes) (nodes : (block : ℕ) → is_node world.changes block ≡ true → is_node after.changes block ≡ true)
      (is : is_node world.changes gone ≡ true) (marked : state_of (world.words (update_at gone)) ≡ MARKED) (flagged : state_of (world.words (update_at g)) ≡ DELETING)
      (key since : ℕ) (fits : key < KEY_LIMIT) (began : since ≤ length world.changes) where
    leaf_later : (reference : ℕ) → IsLeaf world.changes reference → IsLeaf after.changes reference
    leaf_later reference leaf' = record { block = leaf'.block; node = nodes leaf'.block leaf'.node; names = leaf'.names }

    first_same : (count : ℕ) → count ≤ length world.changes → first_changes count after.changes ≡ first_changes count world.changes
    first_same count small = ap (first_changes count) changes ∙ first_older change world.changes count small

    told_later : (reference : ℕ) → WasTold world since key reference → WasTold after since key reference
    told_later reference t = record {
      is = leaf_later reference t.is;
      count = t.count;
      not_before = t.not_before;
      made = omega (arith, t.made, ap length changes);
      told = ap (λ (cs : List Change). map.get (held_after map_object cs) key) (first_same t.count t.made) ∙ t.told ∙ sym (told_stays key reference);
    }

    -- a leaf to which a key's way led before the swing
    told_before : (node : ℕ) → OnWay world.words key node → IsLeaf world.changes (way world.words key node) → WasTold after since key (way world.words key node)
    told_before node w leaf' = told_later (way world.words key node) (record {
      is = leaf';
      count = length world.changes;
      not_before = began;
      made = omega arith;
      told = ap (λ (cs : List Change). map.get (held_after map_object cs) key) (first_all world.changes) ∙ told_now world shape key node fits w (leaf_apart world.changes (way world.words key node) leaf');
    })

    named_way : (left : Bool) → IsBelow world.changes (child_of world.words gone left)
    named_way left = (shape.stored gone is).leads left

    -- from the node that is gone the way goes on as it did
    beyond : OnWay world.words key gone → PastGone key gone → Reaches after since key (way world.words key gone)
    beyond w past = by_name (named_way (is_left world.words key gone)) (side_of (is_left world.words key gone) leafside)
      where
        side_of : (a b : Bool) → (a ≡ b) ⊎ (a ≡ not b)
        side_of true true = inl refl
        side_of false false = inl refl
        side_of true false = inr refl
        side_of false true = inr refl

        by_name : IsBelow world.changes (way world.words key gone) → (is_left world.words key gone ≡ leafside) ⊎ (is_left world.words key gone ≡ not leafside) → Reaches after since key (way world.words key gone)
        by_name (inr leaf') turn = told (leaf_apart world.changes (way world.words key gone) leaf') (told_before gone w leaf')
        by_name (inl named) (inl toward) =
            let is_leaf : is_internal (inner named.0) ≡ false = subst (λ r. is_internal r ≡ false) (ap (λ b. child_of world.words gone b) (sym toward) ∙ named.2) leaf in
            let is_inner : is_internal (inner named.0) ≡ true = inner_is named.0 in
            absurd cc
        by_name (inl named) (inr away) =
            on named.0 named.2 (below g past.at (way_swung key past.turn ∙ ap (λ b. child_of world.words gone b) (sym away) ∙ named.2))

    -- what a search has learnt of its key's way is still so after the swing
    pub reaches_later : (reference : ℕ) → Reaches world since key reference → Reaches after since key reference
    reaches_later reference (on node e w) = elim (swung_way key node w) [
      | inl still ↦ on node e still
      | inr past ↦
          let at_gone : OnWay world.words key gone = subst (OnWay world.words key) past.is w in
          let turned : PastGone key gone = record { is = refl; at = past.at; turn = past.turn } in
          off gone (e ∙ ap inner past.is) (nodes gone is) (ap state_of (update_stays gone) ∙ marked) (subst (Reaches after since key) (sym (way_stays key gone (λ s t. apart s))) (beyond at_gone turned))
    ]
    reaches_later reference (off node e is' mark rest) =
        off node e (nodes node is') (ap state_of (update_stays node) ∙ mark)
        (subst (Reaches after since key) (sym (way_stays key node (λ s t. omega (arith, mark, flagged, ap (λ n. state_of (world.words (update_at n))) s)))) (reaches_later (way world.words key node) rest))
    reaches_later reference (told leaf' t) = told leaf' (told_later reference t)
