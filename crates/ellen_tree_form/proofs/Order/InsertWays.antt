-- A key's way before and after an insertion, and what a search has learnt of it.
use Rattle.std.proofs.Common.{◌≡◌, ◌≢◌, ℕ, suc, ◌+◌, ◌-◌, ◌*◌, ◌<◌, ◌≤◌, Bool, true, false, List, ◌∷◌, length, sym, ap, subst, ◌∙◌, arith}
use Rattle.std.specs.Prelude.{◌==◌, if◌then◌else◌, nat_lt, drop, Some, None}
use Rattle.std.specs.FinMap as map
use Rattle.std.proofs.lemmas.Bool.{ne_eqb}
use Rattle.word_fields.specs.Versioned.{versioned_value}
use Rattle.lin_report.specs.Object.{map_object}
use Rattle.node_arena.specs.MemoryMap.{node_place, node_named, field_at}
use Rattle.node_arena.proofs.PlacesApart.{field_at-block_place, field_at-node_place, node_named_below, node_named_some}
use Rattle.normal_traits.specs.World.{World, Change, held_after, first_changes}
use Rattle.normal_traits.specs.Steps.{with_word}
use Rattle.tree_help.specs.declared.states.TheConstants.{INSERTING}
use Rattle.tree_help.specs.Updates.{state_of, inner}
use Rattle.ellen_tree_form.specs.Words.{is_internal, child_at, child_field, update_at, key_at, leaf_key_at, leaf_value_at}
use Rattle.ellen_tree_form.specs.Shape.{is_node, child_of, is_left, way, OnWay, told_by}
use Rattle.ellen_tree_form.specs.Shape.OnWay.{root, below}
use Rattle.ellen_tree_form.specs.Knowledge.{Reaches, WasTold}
use Rattle.ellen_tree_form.specs.Knowledge.Reaches.{on, off, told}
use Rattle.ellen_tree_form.proofs.Order.SwingWays.{child_same, child_key, child_update, field_small, inner_is}

module _ (world after : World) (g : ℕ) (side : Bool) (to : ℕ) (words : (at : ℕ) → after.words at ≡ with_word (child_at g side) to world.words at)
    (leaf : is_internal (child_of world.words g side) ≡ false) where
  beside : (at : ℕ) → at ≢ child_at g side → after.words at ≡ world.words at
  beside at differs = words at ∙ ap (λ b. if b then to else world.words at) (ne_eqb at (child_at g side) differs)

  left_stays : (key node : ℕ) → is_left after.words key node ≡ is_left world.words key node
  left_stays key node = ap (λ k. nat_lt key k) (beside (key_at node) (child_key g node side))

  way_stays : (key node : ℕ) → (node ≡ g → is_left world.words key node ≡ side → ⊥) → way after.words key node ≡ way world.words key node
  way_stays key node other =
      ap (λ b. child_of after.words node b) (left_stays key node)
      ∙ ap versioned_value (beside (child_at node (is_left world.words key node)) (λ e. let s = child_same node g (is_left world.words key node) side e in other s.0 s.1))

  -- no way to an internal node went through the leaf that is replaced
  pub still_way : (key node : ℕ) → OnWay world.words key node → OnWay after.words key node
  still_way key node (root e) = root e
  still_way key node (below above w e) = below above (still_way key above w) (way_stays key above through ∙ e)
    where
      through : above ≡ g → is_left world.words key above ≡ side → ⊥
      through same turn =
          let no : is_internal (inner node) ≡ false = subst (λ r. is_internal r ≡ false) (ap (λ b. child_of world.words g b) (sym turn ∙ ap (λ a. is_left world.words key a) same) ∙ ap (λ a. way world.words key a) (sym same) ∙ e) leaf in
          let yes : is_internal (inner node) ≡ true = inner_is node in
          absurd cc

  leaf_field : (left : Bool) (reference field : ℕ) → field < 2 → 12 + 5 * (node_named reference - 1) + field ≢ child_field left
  leaf_field true reference field small e = absurd (omega (arith, e, small, node_named_below reference, node_named_some reference))
  leaf_field false reference field small e = absurd (omega (arith, e, small, node_named_below reference, node_named_some reference))

  leaf_word : (reference field : ℕ) → field < 2 → after.words (node_place reference field) ≡ world.words (node_place reference field)
  leaf_word reference field small =
      beside (node_place reference field) (λ e. leaf_field side reference field small (sym (field_at-node_place reference field (omega (arith, small))) ∙ ap field_at e ∙ field_at-block_place g (child_field side) (field_small side)))

  told_stays : (key reference : ℕ) → told_by after.words key reference ≡ told_by world.words key reference
  told_stays key reference =
      ap (λ k. if k == key then Some (after.words (leaf_value_at reference)) else None) (leaf_word reference 0 (omega arith))
      ∙ ap (λ v. if world.words (leaf_key_at reference) == key then Some v else None) (leaf_word reference 1 (omega arith))

  first_older : (change : Change) (changes : List Change) (count : ℕ) → count ≤ length changes → first_changes count (change ∷ changes) ≡ first_changes count changes
  first_older change changes count small = let one : length (change ∷ changes) - count ≡ suc (length changes - count) = omega (arith, small) in ap (λ n. drop n (change ∷ changes)) one

  module _ (change : Change) (changes : after.changes ≡ change ∷ world.changes) (nodes : (block : ℕ) → is_node world.changes block ≡ true → is_node after.changes block ≡ true)
      (flagged : state_of (world.words (update_at g)) ≡ INSERTING) (key since : ℕ) where
    told_later : (reference : ℕ) → WasTold world since key reference → WasTold after since key reference
    told_later reference t = record {
      is = record { block = t.is.block; node = nodes t.is.block t.is.node; names = t.is.names };
      count = t.count;
      not_before = t.not_before;
      made = omega (arith, t.made, ap length changes);
      told = ap (λ (cs : List Change). map.get (held_after map_object cs) key) (ap (first_changes t.count) changes ∙ first_older change world.changes t.count t.made) ∙ t.told ∙ sym (told_stays key reference);
    }

    pub reaches_later : (reference : ℕ) → Reaches world since key reference → Reaches after since key reference
    reaches_later reference (on node e w) = on node e (still_way key node w)
    reaches_later reference (off node e is mark rest) =
        off node e (nodes node is) (ap state_of (beside (update_at node) (child_update g node side)) ∙ mark)
        (subst (Reaches after since key) (sym (way_stays key node (λ s t. omega (arith, mark, flagged, ap (λ n. state_of (world.words (update_at n))) s)))) (reaches_later (way world.words key node) rest))
    reaches_later reference (told leaf' t) = told leaf' (told_later reference t)
