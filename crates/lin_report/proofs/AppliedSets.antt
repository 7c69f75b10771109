-- What each command of the set does, and the set with a key more or less.
use Rattle.std.proofs.Common.{◌≡◌, ℕ, true, false, not, eqb, ◌==◌, ◌||◌, ◌&&◌, sym, ap, ◌∙◌, inl, inr, ◌⊎◌, arith}
use Rattle.std.proofs.lemmas.Bool.{cond-true, cond-false, eq-eqb, ne_eqb, cases_eq}
use Rattle.std.specs.Cmp.{nat_cmp_total, unsigned_tied}
use Rattle.std.specs.FinSet as set
use Rattle.lin_report.specs.declared.calls.Op.{Op}
use Rattle.lin_report.specs.declared.calls.TheConstants.{ADD, DEL, HAS, MIN}
use Rattle.lin_report.specs.Object.{set_apply, yes_if, value_or_empty, least}
use Rattle.lin_report.proofs.Least.{Keys}

-- ---- what a command answers and leaves

pub applied_add : (op : Op) (keys : Keys) → op.code ≡ ADD → set_apply op keys ≡ (set.insert keys op.key, yes_if (not (set.contains keys op.key)))
applied_add op keys e = cond-true (eqb op.code ADD) _ _ (eq-eqb op.code ADD e)

pub applied_del : (op : Op) (keys : Keys) → op.code ≡ DEL → set_apply op keys ≡ (set.remove keys op.key, yes_if (set.contains keys op.key))
applied_del op keys e = cond-false (eqb op.code ADD) _ _ (ne_eqb op.code ADD (λ add. omega (arith, e, add))) ∙ cond-true (eqb op.code DEL) _ _ (eq-eqb op.code DEL e)

pub applied_has : (op : Op) (keys : Keys) → op.code ≡ HAS → set_apply op keys ≡ (keys, yes_if (set.contains keys op.key))
applied_has op keys e =
    cond-false (eqb op.code ADD) _ _ (ne_eqb op.code ADD (λ add. omega (arith, e, add))) ∙ cond-false (eqb op.code DEL) _ _ (ne_eqb op.code DEL (λ del. omega (arith, e, del)))
    ∙ cond-true (eqb op.code HAS) _ _ (eq-eqb op.code HAS e)

pub applied_min : (op : Op) (keys : Keys) → op.code ≡ MIN → set_apply op keys ≡ (keys, value_or_empty (least (set.items keys)))
applied_min op keys e =
    cond-false (eqb op.code ADD) _ _ (ne_eqb op.code ADD (λ add. omega (arith, e, add))) ∙ cond-false (eqb op.code DEL) _ _ (ne_eqb op.code DEL (λ del. omega (arith, e, del)))
    ∙ cond-false (eqb op.code HAS) _ _ (ne_eqb op.code HAS (λ has. omega (arith, e, has)))

-- ---- the set afterwards

pub contains_insert : (keys : Keys) (k key : ℕ) → set.contains (set.insert keys k) key ≡ (key == k || set.contains keys key)
contains_insert keys k key = set.contains-insert nat_cmp_total keys k key ∙ ap (λ b. b || set.contains keys key) (unsigned_tied key k)

pub contains_remove : (keys : Keys) (k key : ℕ) → set.contains (set.remove keys k) key ≡ (not (key == k) && set.contains keys key)
contains_remove keys k key = set.contains-remove nat_cmp_total keys k key ∙ ap (λ b. not b && set.contains keys key) (unsigned_tied key k)

-- a key that is there already is no more there, and one that isn't is no less
pub insert_same : (keys : Keys) (k : ℕ) → set.contains keys k ≡ true → set.insert keys k ≡ keys
insert_same keys k there = set.same_set nat_cmp_total set.nat_cmp-IsAntisymmetric (set.insert keys k) keys (λ key. contains_insert keys k key ∙ by_key key (cases_eq key k))
  where
    by_key : (key : ℕ) → (key ≡ k) ⊎ (key ≡ k → ⊥) → (key == k || set.contains keys key) ≡ set.contains keys key
    by_key key (inl same) = ap (λ b. b || set.contains keys key) (eq-eqb key k same) ∙ sym (ap (set.contains keys) same ∙ there)
    by_key key (inr other) = ap (λ b. b || set.contains keys key) (ne_eqb key k other)

pub remove_same : (keys : Keys) (k : ℕ) → set.contains keys k ≡ false → set.remove keys k ≡ keys
remove_same keys k absent = set.same_set nat_cmp_total set.nat_cmp-IsAntisymmetric (set.remove keys k) keys (λ key. contains_remove keys k key ∙ by_key key (cases_eq key k))
  where
    by_key : (key : ℕ) → (key ≡ k) ⊎ (key ≡ k → ⊥) → (not (key == k) && set.contains keys key) ≡ set.contains keys key
    by_key key (inl same) = ap (λ b. not b && set.contains keys key) (eq-eqb key k same) ∙ sym (ap (set.contains keys) same ∙ absent)
    by_key key (inr other) = ap (λ b. not b && set.contains keys key) (ne_eqb key k other)
