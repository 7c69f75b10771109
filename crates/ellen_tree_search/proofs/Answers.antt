-- What a search that only observes answers: it is right after some of the changes since the search began.
use Rattle.std.proofs.Common.{◌≡◌, ℕ, ◌/◌, Bool, true, false, ◌||◌, ◌&&◌, is_some, refl, sym, ap, subst, ◌∙◌, inl, inr, ◌⊎◌, arith}
use Rattle.std.specs.Prelude.{◌==◌, if◌then◌else◌, nat_lt, Some, None}
use Rattle.std.specs.FinMap as map
use Rattle.std.specs.Ordering.{nat_cmp}
use Rattle.std.specs.Cmp.{nat_cmp_total, unsigned_tied}
use Rattle.std.proofs.lemmas.Bool.{eqb-true, eq-eqb, ne_eqb, or_cases, and_parts}
use Rattle.lin_report.specs.declared.calls.Op.{Op}
use Rattle.lin_report.specs.declared.calls.Reply.{Reply}
use Rattle.lin_report.specs.declared.calls.Reply.TheVariants.{Yes, No, Absent}
use Rattle.lin_report.specs.declared.calls.Outcome.{Outcome}
use Rattle.lin_report.specs.declared.calls.Outcome.TheVariants.{Plain, ValueOf}
use Rattle.lin_report.specs.declared.calls.TheConstants.{SET, REM, GET}
use Rattle.lin_report.specs.Commands.{KEY_LIMIT}
use Rattle.lin_report.specs.Object.{IsCommandOf, map_object, map_apply, value_or_absent, yes_if}
use Rattle.node_arena.specs.declared.places.TheConstants.{NODE_VALUE}
use Rattle.node_arena.specs.MemoryMap.{block_at, node_place, reference_to}
use Rattle.node_arena.proofs.PlacesApart.{block_at-node_place, block-reference_to}
use Rattle.normal_traits.specs.World.{World, StandsFor, RightSince, held_after, first_changes}
use Rattle.normal_traits.specs.Laws.{IsFixed}
use Rattle.ellen_tree_form.specs.declared.states.Passed.{Passed}
use Rattle.ellen_tree_form.specs.Words.{is_set, is_rem, leaf_key_at, leaf_value_at}
use Rattle.ellen_tree_form.specs.Search.{leaf_of, told}
use Rattle.ellen_tree_form.specs.Shape.{Shape}
use Rattle.ellen_tree_form.specs.Knowledge.{HasLeaf}
use Rattle.ellen_tree_form.specs.Form.{tree_form}
use Rattle.ellen_tree_form.proofs.Steps.Later.{same_later}
use Rattle.ellen_tree_steps.proofs.Lists.FlagsLast.{leaf_plain}

-- ---- the map

-- an absent key can be removed: the map stays
remove_same : (pairs : map.FinMap nat_cmp ℕ) (key : ℕ) → map.get pairs key ≡ None → map.remove pairs key ≡ pairs
remove_same pairs key absent = map.same_map nat_cmp_total map.nat_cmp-IsAntisymmetric (map.remove pairs key) pairs (λ q.
    map.get-remove nat_cmp_total pairs key q ∙ ap (λ (b : Bool). if b then None else map.get pairs q) (unsigned_tied q key) ∙ by_test q (q == key) refl)
  where
    by_test : (q : ℕ) (b : Bool) → (q == key) ≡ b → (if b then None else map.get pairs q) ≡ map.get pairs q
    by_test q true e = sym (ap (map.get pairs) (eqb-true q key e) ∙ absent)
    by_test q false e = refl

-- a set of a key that the map holds, and a removal of one that it doesn't, leave it and are told No
abbrev set_by : Bool → map.FinMap nat_cmp ℕ → map.FinMap nat_cmp ℕ → map.FinMap nat_cmp ℕ × Reply
set_by held pairs more = if held then (pairs, No) else (more, Yes)

module _ (op : Op) (pairs : map.FinMap nat_cmp ℕ) where
  set_observes : is_set op ≡ true → (value : ℕ) → map.get pairs op.key ≡ Some value → ((map_apply op pairs).0 ≡ pairs) × ((map_apply op pairs).1 ≡ No)
  set_observes set value holds =
      let code : op.code ≡ SET = eqb-true op.code SET set in
      (rw code (ap (λ b. (set_by b pairs (map.insert pairs op.key op.value)).0) (ap is_some holds)), rw code (ap (λ b. (set_by b pairs (map.insert pairs op.key op.value)).1) (ap is_some holds)))

  rem_observes : is_rem op ≡ true → map.get pairs op.key ≡ None → ((map_apply op pairs).0 ≡ pairs) × ((map_apply op pairs).1 ≡ No)
  rem_observes rem absent =
      let code : op.code ≡ REM = eqb-true op.code REM rem in
      (rw code (remove_same pairs op.key absent), rw code (ap yes_if (ap is_some absent)))

  get_observes : op.code ≡ GET → ((map_apply op pairs).0 ≡ pairs) × ((map_apply op pairs).1 ≡ value_or_absent (map.get pairs op.key))
  get_observes code = (rw code refl, rw code refl)

-- a command of the tree is one of three
command_cases : (op : Op) → IsCommandOf map_object op → (is_set op ≡ true) ⊎ ((is_rem op ≡ true) ⊎ (op.code ≡ GET))
command_cases op command = elim (or_cases (op.code == SET && nat_lt op.key KEY_LIMIT) ((op.code == REM || op.code == GET) && (nat_lt op.key KEY_LIMIT && op.value == 0)) command.command) [
  | inl set ↦ inl (and_parts (op.code == SET) (nat_lt op.key KEY_LIMIT) set).0
  | inr other ↦ elim (or_cases (op.code == REM) (op.code == GET) (and_parts (op.code == REM || op.code == GET) (nat_lt op.key KEY_LIMIT && op.value == 0) other).0) [
    | inl rem ↦ inr (inl rem)
    | inr get ↦ inr (inr (eqb-true op.code GET get))
  ]
]

module _ (world : World) (shape : Shape world) (op : Op) (since : ℕ) (last : Passed) (is : Bool) (leaf : HasLeaf world since op.key last) (found : (world.words (leaf_key_at (leaf_of last)) == op.key) ≡ is) where
  abbrev count : ℕ
  count = leaf.told.count

  abbrev held : map.FinMap nat_cmp ℕ
  held = held_after map_object (first_changes leaf.told.count world.changes)

  -- what the map held then
  holds : is ≡ true → map.get held op.key ≡ Some (world.words (leaf_value_at (leaf_of last)))
  holds e = leaf.told.told ∙ ap (λ b. if b then Some (world.words (leaf_value_at (leaf_of last))) else None) (found ∙ e)

  lacks : is ≡ false → map.get held op.key ≡ None
  lacks e = leaf.told.told ∙ ap (λ b. if b then Some (world.words (leaf_value_at (leaf_of last))) else None) (found ∙ e)

  right : (outcome : Outcome) → (map_apply op held).0 ≡ held → StandsFor world outcome (map_apply op held).1 → RightSince map_object world op since outcome
  right outcome observes stands = record { count = leaf.told.count; not_before = leaf.told.not_before; made = leaf.told.made; observes = observes; told = stands }

  abbrev IsRight : Outcome → Type 0
  IsRight outcome = RightSince map_object world op since outcome × IsFixed tree_form outcome

  -- ---- not a look at a value

  no_get : (op.code == GET) ≡ false → IsRight (Plain No) → IsRight (told op last is)
  no_get none well = subst IsRight (sym (ap (λ b. if b then (if is then ValueOf (leaf_of last) else Plain Absent) else Plain No) none)) well

  get_is : (op.code == GET) ≡ true → told op last is ≡ (if is then ValueOf (leaf_of last) else Plain Absent)
  get_is e = ap (λ b. if b then (if is then ValueOf (leaf_of last) else Plain Absent) else Plain No) e

  -- the value of a leaf stands in a used block
  value_used : world.used (block_at (node_place (leaf_of last) NODE_VALUE)) ≡ true
  value_used = ap world.used (block_at-node_place (leaf_of last) NODE_VALUE (omega arith)) ∙ by_name leaf.told.is.names
    where
      own : world.used leaf.told.is.block ≡ true
      own = (shape.stored leaf.told.is.block leaf.told.is.node).used

      by_name : (leaf_of last ≡ reference_to leaf.told.is.block 1) ⊎ (leaf_of last ≡ reference_to leaf.told.is.block 3) → world.used (leaf_of last / 4) ≡ true
      by_name (inl one) = ap (λ r. world.used (r / 4)) one ∙ ap world.used (block-reference_to leaf.told.is.block 1 (omega arith)) ∙ own
      by_name (inr three) = ap (λ r. world.used (r / 4)) three ∙ ap world.used (block-reference_to leaf.told.is.block 3 (omega arith)) ∙ own

  get_right : op.code ≡ GET → (b : Bool) → is ≡ b → IsRight (if b then ValueOf (leaf_of last) else Plain Absent)
  get_right code true e = (
    right (ValueOf (leaf_of last)) (get_observes op held code).0 (value_used, sym ((get_observes op held code).1 ∙ ap value_or_absent (holds e))),
    leaf_plain world world shape (same_later world) (leaf_of last) 1 (omega arith) leaf.told.is,
  )
  get_right code false e = (right (Plain Absent) (get_observes op held code).0 (sym ((get_observes op held code).1 ∙ ap value_or_absent (lacks e))), tt)

  pub answers : IsCommandOf map_object op → (is_set op ≡ true → is ≡ true) × (is_rem op ≡ true → is ≡ false) → IsRight (told op last is)
  answers command only = elim (command_cases op command) [
    | inl set ↦
        let o = set_observes op held set (world.words (leaf_value_at (leaf_of last))) (holds (only.0 set)) in
        no_get (ne_eqb op.code GET (λ e. omega (arith, e, eqb-true op.code SET set))) (right (Plain No) o.0 (sym o.1), tt)
    | inr rest ↦ elim rest [
      | inl rem ↦
          let o = rem_observes op held rem (lacks (only.1 rem)) in
          no_get (ne_eqb op.code GET (λ e. omega (arith, e, eqb-true op.code REM rem))) (right (Plain No) o.0 (sym o.1), tt)
      | inr code ↦ subst IsRight (sym (get_is (eq-eqb op.code GET code))) (get_right code is refl)
    ]
  ]
