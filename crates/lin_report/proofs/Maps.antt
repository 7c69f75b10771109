-- A finite map that is made of the entries that are kept: a look-up, an insert and a removal.
use Rattle.std.proofs.Common.{◌≡◌, ℕ, Bool, true, false, cond, is_some, Option, Some, None, List, [], ◌∷◌, refl, sym, ap, ap₂, ◌∙◌}
use Rattle.std.specs.Map.{lookup}
use Rattle.std.specs.Ordering.{nat_cmp}
use Rattle.std.specs.Cmp.{nat_cmp_total, eq_by_cmp_equiv}
use Rattle.std.specs.BTreeMap.{is_at}
use Rattle.std.specs.FinMap as map
use Rattle.lin_report.specs.declared.calls.Reply.{Reply}
use Rattle.lin_report.specs.declared.calls.Reply.TheVariants.{Yes, No}
use Rattle.lin_report.specs.Object.{set_absent}

-- the value that is kept at a key
abbrev pub kept_at : List (ℕ × ℕ) → ℕ → Option ℕ
kept_at entries q = lookup (is_at (nat_cmp q)) entries

find_kept : (entries : List (ℕ × ℕ)) (q : ℕ) → map.find nat_cmp q entries ≡ kept_at entries q
find_kept [] q = refl
find_kept (e ∷ entries) q = ap (cond (is_at (nat_cmp q) e.0) (Some e.1)) (find_kept entries q)

get_kept : (entries : List (ℕ × ℕ)) (q : ℕ) → map.get (map.from_entries {R = nat_cmp} entries) q ≡ kept_at entries q
get_kept entries q = map.get-from_entries nat_cmp_total entries q ∙ find_kept entries q

module _ (entries : List (ℕ × ℕ)) (m : map.FinMap nat_cmp ℕ) (made : map.from_entries entries ≡ m) where
  pub kept-get : (q : ℕ) → kept_at entries q ≡ map.get m q
  kept-get q = sym (get_kept entries q) ∙ ap (λ n. map.get n q) made

  pub kept-contains_key : (q : ℕ) → is_some (kept_at entries q) ≡ map.contains_key m q
  kept-contains_key q = ap is_some (kept-get q)

  -- after an insert each other key has the value that it had
  pub kept-insert : (more : List (ℕ × ℕ)) (k v : ℕ) → ((q : ℕ) → kept_at more q ≡ cond (is_at (nat_cmp k) q) (Some v) (kept_at entries q)) → map.from_entries more ≡ map.insert m k v
  kept-insert more k v kept = map.same_map nat_cmp_total map.nat_cmp-IsAntisymmetric _ _ (λ q.
      get_kept more q ∙ kept q ∙ ap₂ (λ (b : Bool) (o : Option ℕ). cond b (Some v) o) ((eq_by_cmp_equiv nat_cmp_total).symm k q) (kept-get q)
      ∙ sym (map.get-insert nat_cmp_total m k v q))

  -- after a removal each other key has the value that it had
  pub kept-remove : (fewer : List (ℕ × ℕ)) (k : ℕ) → ((q : ℕ) → kept_at fewer q ≡ cond (is_at (nat_cmp k) q) None (kept_at entries q)) → map.from_entries fewer ≡ map.remove m k
  kept-remove fewer k kept = map.same_map nat_cmp_total map.nat_cmp-IsAntisymmetric _ _ (λ q.
      get_kept fewer q ∙ kept q ∙ ap₂ (λ (b : Bool) (o : Option ℕ). cond b None o) ((eq_by_cmp_equiv nat_cmp_total).symm k q) (kept-get q)
      ∙ sym (map.get-remove nat_cmp_total m k q))

-- what setting a key leaves, where it is present and where it is absent
pub set_absent-present : (k v : ℕ) (m : map.FinMap nat_cmp ℕ) → true ≡ map.contains_key m k → m ≡ (set_absent k v m).0
set_absent-present k v m present = ap (λ (b : Bool). (cond {A = map.FinMap nat_cmp ℕ × Reply} b (m, No) (map.insert m k v, Yes)).0) present

pub set_absent-absent : (k v : ℕ) (m : map.FinMap nat_cmp ℕ) → false ≡ map.contains_key m k → map.insert m k v ≡ (set_absent k v m).0
set_absent-absent k v m absent = ap (λ (b : Bool). (cond {A = map.FinMap nat_cmp ℕ × Reply} b (m, No) (map.insert m k v, Yes)).0) absent
