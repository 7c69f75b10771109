-- An operation that finds the register as it would leave it only observes.
use Rattle.std.proofs.Common.{◌≡◌, ◌≢◌, ◌<◌, ℕ, ◌/◌, Bool, true, false, not, ◌||◌, is_some, refl, sym, ap, ◌∙◌, inl, inr, ◌⊎◌, arith}
use Rattle.std.specs.Prelude.{◌==◌, if◌then◌else◌, IsTrue, Some, None}
use Rattle.std.specs.FinMap as map
use Rattle.std.specs.Ordering.{nat_cmp}
use Rattle.std.specs.Cmp.{nat_cmp_total, unsigned_tied}
use Rattle.std.proofs.lemmas.Bool.Decides.{nat_tests}
use Rattle.std.proofs.lemmas.Bool.{eqb-true, eq-eqb, ne_eqb}
use Rattle.lin_report.specs.declared.calls.Op.{Op}
use Rattle.lin_report.specs.declared.calls.Reply.TheVariants.{Value}
use Rattle.lin_report.specs.declared.calls.TheConstants.{SET, REM, GET}
use Rattle.lin_report.specs.Object.{map_apply, value_or_absent, yes_if, IsCommandOf, map_object}
use Rattle.lin_report.specs.Commands.{may_exhaust}
use Rattle.node_arena.specs.declared.places.TheConstants.{NODE_VALUE}
use Rattle.node_arena.specs.MemoryMap.{node_place, block_place, block_at, field_at}
use Rattle.node_arena.proofs.PlacesApart.{same_field, node_place-reference_to, block_at-block_place, field_at-block_place}
use Rattle.word_fields.specs.Versioned.{versioned_value}
use Rattle.normal_traits.specs.World.{World, StandsFor}
use Rattle.normal_traits.specs.Laws.{IsFixed}
use Rattle.flagged_register_form.specs.Register.{FLAG, REGISTER, value_at, flag_value, is_in, toggles, told}
use Rattle.flagged_register_form.specs.Meanings.{content, IsName, flagged_form}

-- a field but for those of the two words and of the decision is no versioned word
pub plain_field : (block field : ℕ) → field < 28 → field ≢ 14 → field ≢ 16 → flagged_form.is_versioned (block_place block field) ≡ false
plain_field block field low other apart =
    rw (
      ne_eqb (block_place block field) FLAG (λ e. apart (same_field block field 0 16 (omega (arith, low)) (omega arith) e)),
      ne_eqb (block_place block field) REGISTER (λ e. other (same_field block field 0 14 (omega (arith, low)) (omega arith) e)),
      ne_eqb (field_at (block_place block field)) 28 (λ e. omega (arith, low, e, field_at-block_place block field (omega (arith, low)))),
    ) refl

remove_same : (pairs : map.FinMap nat_cmp ℕ) → map.get pairs 0 ≡ None → map.remove pairs 0 ≡ pairs
remove_same pairs has = map.same_map nat_cmp_total map.nat_cmp-IsAntisymmetric (map.remove pairs 0) pairs (λ q.
    map.get-remove nat_cmp_total pairs 0 q ∙ ap (λ (b : Bool). if b then None else map.get pairs q) (unsigned_tied q 0) ∙ by_test q (q == 0) refl)
  where
    by_test : (q : ℕ) (b : Bool) → (q == 0) ≡ b → (if b then None else map.get pairs q) ≡ map.get pairs q
    by_test q true e = sym (ap (map.get pairs) (eqb-true q 0 e) ∙ has)
    by_test q false e = refl

-- ---- what a register says

-- the register's value at a node, or none
module _ (world : World) (register : ℕ) where
  none_in : versioned_value register ≡ 0 → is_in register ≡ false
  none_in e = ap not (eq-eqb (versioned_value register) 0 e)

  pub none_content : versioned_value register ≡ 0 → content register world.words ≡ None
  none_content e = ap (λ b. if b then None else Some (world.words (value_at (versioned_value register / 4)))) (eq-eqb (versioned_value register) 0 e)

  module _ (block : ℕ) (name : versioned_value register ≡ flag_value block) where
    some_test : (versioned_value register == 0) ≡ false
    some_test = ne_eqb (versioned_value register) 0 (λ e. absurd (omega (arith, e, name)))

    some_in : is_in register ≡ true
    some_in = ap not some_test

    pub some_content : content register world.words ≡ Some (world.words (value_at block))
    some_content =
        let same : versioned_value register / 4 ≡ block = omega (arith, name) in
        ap (λ b. if b then None else Some (world.words (value_at (versioned_value register / 4)))) some_test ∙ ap (λ b. Some (world.words (value_at b))) same

    node_is : node_place (versioned_value register) NODE_VALUE ≡ value_at block
    node_is = ap (λ reference. node_place reference NODE_VALUE) name ∙ node_place-reference_to block 1 1 (omega arith) (omega arith)

    fixed_value : flagged_form.is_versioned (node_place (versioned_value register) NODE_VALUE) ≡ false
    fixed_value = rw node_is (plain_field block 13 (omega arith) (λ e. omega (arith, e)) (λ e. omega (arith, e)))

  pub has_key : (pairs : map.FinMap nat_cmp ℕ) → IsName register world.used → map.get pairs 0 ≡ content register world.words → map.contains_key pairs 0 ≡ is_in register
  has_key pairs (inl e) tells = ap is_some (tells ∙ none_content e) ∙ sym (none_in e)
  has_key pairs (inr name) tells = ap is_some (tells ∙ some_content name.0 name.3) ∙ sym (some_in name.0 name.3)

-- ---- observations

-- the operation leaves the map as it is, and is told what the map says
abbrev IsObserved : World → ℕ → Op → map.FinMap nat_cmp ℕ → Type 0
IsObserved world register op pairs = ((map_apply op pairs).0 ≡ pairs) × StandsFor world (told op register) (map_apply op pairs).1 × IsFixed flagged_form (told op register)

module _ (world : World) (op : Op) (register : ℕ) (pairs : map.FinMap nat_cmp ℕ) (key : op.key ≡ 0) (same : toggles op register ≡ false) (names : IsName register world.used) (tells : map.get pairs 0 ≡ content register world.words) where
  has : map.contains_key pairs 0 ≡ is_in register
  has = has_key world register pairs names tells

  observed_set : op.code ≡ SET → IsObserved world register op pairs
  observed_set code =
      let there : map.contains_key pairs 0 ≡ true = grind (arith, nat_tests, has, rw code at same) in
      rw (key, code, there) (refl, refl, tt)

  observed_rem : op.code ≡ REM → IsObserved world register op pairs
  observed_rem code = let out = rw code at same in rw (key, code) (remove_same pairs (by_name names out), sym (ap yes_if (has ∙ out)), tt)
    where
      by_name : IsName register world.used → is_in register ≡ false → map.get pairs 0 ≡ None
      by_name (inl e) out = tells ∙ none_content world register e
      by_name (inr name) out = let one = some_in world register name.0 name.3 in absurd cc

  observed_get : op.code ≡ GET → IsObserved world register op pairs
  observed_get code = by_name names
    where
      by_name : IsName register world.used → IsObserved world register op pairs
      by_name (inl e) = rw (key, code, none_in world register e) (refl, ap value_or_absent (sym (tells ∙ none_content world register e)), tt)
      by_name (inr name) =
          let place = node_is world register name.0 name.3 in
          let used : world.used (block_at (node_place (versioned_value register) NODE_VALUE)) ≡ true = ap (λ p. world.used (block_at p)) place ∙ ap world.used (block_at-block_place name.0 13 (omega arith)) ∙ name.1 in
          let word : Value (world.words (node_place (versioned_value register) NODE_VALUE)) ≡ value_or_absent (map.get pairs 0) =
          ap (λ p. Value (world.words p)) place ∙ sym (ap value_or_absent (tells ∙ some_content world register name.0 name.3)) in
          rw (key, code, some_in world register name.0 name.3) (refl, (used, word), fixed_value world register name.0 name.3)

  pub observed : IsCommandOf map_object op → IsObserved world register op pairs
  observed command = by_code (grind (arith, nat_tests, command.command))
    where
      by_code : (op.code ≡ SET) ⊎ ((op.code ≡ REM) ⊎ (op.code ≡ GET)) → IsObserved world register op pairs
      by_code (inl set) = observed_set set
      by_code (inr (inl rem)) = observed_rem rem
      by_code (inr (inr get)) = observed_get get

-- an operation that would change the register may be listed, and may find no block
pub listed : (op : Op) (register : ℕ) → toggles op register ≡ true → IsTrue (op.code == SET || op.code == REM) × IsTrue (may_exhaust op)
listed op register e = (grind (arith, nat_tests), grind (arith, nat_tests))
