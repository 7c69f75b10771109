-- A finite set that is made of the keys that are kept: a look-up, the least key, an insert and a removal.
use Rattle.std.proofs.Common.{◌≡◌, ℕ, ◌<◌, Bool, true, false, cond, not, ◌||◌, ◌&&◌, Some, None, List, [], ◌∷◌, length, refl, sym, ap, ap₂, ◌∙◌, arith}
use Rattle.std.specs.List.{list_any}
use Rattle.std.proofs.lemmas.Map.Keys.{le_from_not_gt}
use Rattle.std.specs.Ordering.{nat_cmp, eq_by_cmp, is_gt}
use Rattle.std.specs.Cmp.{nat_cmp_total, eq_by_cmp_equiv}
use Rattle.std.specs.BTreeMap.{is_at}
use Rattle.std.specs.FinSet as set
use Rattle.lin_report.specs.Object.{least}
use Rattle.lin_report.proofs.Least.{least_is, least_none}

-- whether a key is among those that are kept
abbrev pub is_kept : List ℕ → ℕ → Bool
is_kept keys q = list_any (is_at (nat_cmp q)) keys

true_or : (a b : Bool) → cond a true b ≡ (a || b)
true_or true b = refl
true_or false b = refl

not_and : (a b : Bool) → cond a false b ≡ (not a && b)
not_and true b = refl
not_and false b = refl

no_keys : (keys : List ℕ) → ¬ (0 < length keys) → keys ≡ []
no_keys [] none = refl
no_keys (key ∷ keys) none = absurd (none (omega arith))

module _ (keys : List ℕ) (s : set.FinSet nat_cmp) (made : set.from_list keys ≡ s) where
  pub kept-contains : (q : ℕ) → is_kept keys q ≡ set.contains s q
  kept-contains q = sym (set.contains-from_list nat_cmp_total keys q) ∙ ap (λ t. set.contains t q) made

  -- a kept key that is above no other
  pub kept-least : (k : ℕ) → is_kept keys k ≡ true → ((q : ℕ) → is_kept keys q ≡ true → is_gt (nat_cmp k q) ≡ false) → Some k ≡ least (set.items s)
  kept-least k there bound = sym (least_is s k (sym (kept-contains k) ∙ there) (λ q among. le_from_not_gt k q (bound q (kept-contains q ∙ among))))

  -- no key is kept
  pub kept-none : ¬ (0 < length keys) → None ≡ least (set.items s)
  kept-none none = sym (least_none s (λ q. sym (kept-contains q) ∙ ap (λ (ks : List ℕ). is_kept ks q) (no_keys keys none)))

  -- after an insert each key is kept that was, and the new one is
  pub kept-insert : (more : List ℕ) (k : ℕ) → ((q : ℕ) → is_kept more q ≡ cond (is_at (nat_cmp k) q) true (is_kept keys q)) → set.from_list more ≡ set.insert s k
  kept-insert more k kept = set.same_set nat_cmp_total set.nat_cmp-IsAntisymmetric _ _ (λ q.
      set.contains-from_list nat_cmp_total more q ∙ kept q ∙ ap₂ (λ (a b : Bool). cond a true b) ((eq_by_cmp_equiv nat_cmp_total).symm k q) (kept-contains q)
      ∙ true_or (eq_by_cmp nat_cmp q k) _ ∙ sym (set.contains-insert nat_cmp_total s k q))

  -- after a removal each other key is kept that was
  pub kept-remove : (fewer : List ℕ) (k : ℕ) → ((q : ℕ) → is_kept fewer q ≡ cond (is_at (nat_cmp k) q) false (is_kept keys q)) → set.from_list fewer ≡ set.remove s k
  kept-remove fewer k kept = set.same_set nat_cmp_total set.nat_cmp-IsAntisymmetric _ _ (λ q.
      set.contains-from_list nat_cmp_total fewer q ∙ kept q ∙ ap₂ (λ (a b : Bool). cond a false b) ((eq_by_cmp_equiv nat_cmp_total).symm k q) (kept-contains q)
      ∙ not_and (eq_by_cmp nat_cmp q k) _ ∙ sym (set.contains-remove nat_cmp_total s k q))
