-- What an insertion and a removal make of a map.
use Rattle.std.proofs.Common.{◌≡◌, ℕ, Bool, true, is_some, sym, ap, ◌∙◌}
use Rattle.std.specs.Prelude.{◌==◌, if◌then◌else◌, Some, None}
use Rattle.std.specs.FinMap as map
use Rattle.std.specs.Ordering.{nat_cmp}
use Rattle.std.specs.Cmp.{nat_cmp_total, unsigned_tied}
use Rattle.std.proofs.Common.{refl}
use Rattle.std.proofs.lemmas.Bool.{eqb-true, eq-eqb}
use Rattle.lin_report.specs.declared.calls.Op.{Op}
use Rattle.lin_report.specs.declared.calls.Reply.{Reply}
use Rattle.lin_report.specs.declared.calls.Reply.TheVariants.{Yes, No}
use Rattle.lin_report.specs.declared.calls.TheConstants.{SET, REM}
use Rattle.lin_report.specs.Object.{map_object, map_apply}
use Rattle.normal_traits.specs.World.{Observes}
use Rattle.ellen_tree_form.specs.Words.{is_set, is_rem}

-- what a set comes to, by whether the map holds the key
abbrev set_by : Bool → map.FinMap nat_cmp ℕ → map.FinMap nat_cmp ℕ → map.FinMap nat_cmp ℕ × Reply
set_by held pairs more = if held then (pairs, No) else (more, Yes)

module _ (op : Op) (pairs : map.FinMap nat_cmp ℕ) where
  set_held : is_set op ≡ true → map.get pairs op.key ≡ None → (map_apply op pairs).0 ≡ map.insert pairs op.key op.value
  set_held set absent =
      let code : op.code ≡ SET = eqb-true op.code SET set in
      rw code (ap (λ b. (set_by b pairs (map.insert pairs op.key op.value)).0) (ap is_some absent))

  rem_held : is_rem op ≡ true → (map_apply op pairs).0 ≡ map.remove pairs op.key
  rem_held rem =
      let code : op.code ≡ REM = eqb-true op.code REM rem in
      rw code refl

  pub set_gets : is_set op ≡ true → map.get pairs op.key ≡ None → (q : ℕ) → map.get (map_apply op pairs).0 q ≡ (if q == op.key then Some op.value else map.get pairs q)
  set_gets set absent q =
      ap (λ m. map.get m q) (set_held set absent) ∙ map.get-insert nat_cmp_total pairs op.key op.value q ∙ ap (λ (b : Bool). if b then Some op.value else map.get pairs q) (unsigned_tied q op.key)

  pub rem_gets : is_rem op ≡ true → (q : ℕ) → map.get (map_apply op pairs).0 q ≡ (if q == op.key then None else map.get pairs q)
  rem_gets rem q = ap (λ m. map.get m q) (rem_held rem) ∙ map.get-remove nat_cmp_total pairs op.key q ∙ ap (λ (b : Bool). if b then None else map.get pairs q) (unsigned_tied q op.key)

  -- both change the map

  pub set_effective : is_set op ≡ true → map.get pairs op.key ≡ None → ¬ Observes map_object op pairs
  set_effective set absent same =
      let now : map.get (map_apply op pairs).0 op.key ≡ Some op.value = set_gets set absent op.key ∙ ap (λ (b : Bool). if b then Some op.value else map.get pairs op.key) (eq-eqb op.key op.key refl) in
      let e : Some op.value ≡ None = sym now ∙ ap (λ m. map.get m op.key) same ∙ absent in
      absurd cc

  pub rem_effective : is_rem op ≡ true → (value : ℕ) → map.get pairs op.key ≡ Some value → ¬ Observes map_object op pairs
  rem_effective rem value holds same =
      let now : map.get (map_apply op pairs).0 op.key ≡ None = rem_gets rem op.key ∙ ap (λ (b : Bool). if b then None else map.get pairs op.key) (eq-eqb op.key op.key refl) in
      let e : Some value ≡ None = sym holds ∙ sym (ap (λ m. map.get m op.key) same) ∙ now in
      absurd cc
