-- The calls that names name.
use Rattle.std.proofs.Common.{◌≡◌, ◌≢◌, Bool, true, false, cond, Option, Some, None, inl, inr, List, [], ◌∷◌, map, get_or, All, AllPairs, Contains, refl, sym, ap, subst, ◌∙◌, arith}
use Rattle.std.specs.List.{cons_option}
use Rattle.std.proofs.lemmas.Bool.{cases_order}
use Rattle.std.proofs.lemmas.List.Elements.{All-nil, All-cons, All-head, All-tail, All-contains, at_from_Contains, Contains-append_right}
use Rattle.lin_report.specs.Calls.{Call, IsSameCall}
use Rattle.report_check.specs.declared.orders.Named.{Named}
use Rattle.report_check.specs.Verdicts.{name_of, same_name, call_named, calls_named}
use Rattle.report_check.proofs.JudgedOrders.Names.{same_from_test, test_from_same, same_call}

-- a call that is found is one of them, and has the name
pub found_is : (calls : List Call) (name : Named) (c : Call) → call_named calls name ≡ Some c → Contains calls c × (name ≡ name_of c)
found_is [] name c e = absurd cc
found_is (d ∷ calls) name c e = by_test (found_is calls name c) (same_name name (name_of d)) refl e
  where
    by_test : (call_named calls name ≡ Some c → Contains calls c × (name ≡ name_of c)) → (b : Bool) → same_name name (name_of d) ≡ b → cond b (Some d) (call_named calls name) ≡ Some c → Contains (d ∷ calls) c × (name ≡ name_of c)
    by_test rest true same e =
        let is : d ≡ c = cc in
        ((0, omega arith, is), same_from_test name (name_of d) same ∙ ap name_of is)
    by_test rest false same e = let found = rest e in (Contains-append_right (d ∷ []) calls c found.0, found.1)

none_found : (calls : List Call) (name : Named) → call_named calls name ≡ None → All (λ d. name ≢ name_of d) calls
none_found [] name e = All-nil (λ (d : Call). name ≢ name_of d)
none_found (d ∷ calls) name e = by_test (none_found calls name) (same_name name (name_of d)) refl e
  where
    by_test : (call_named calls name ≡ None → All (λ (d : Call). name ≢ name_of d) calls) → (b : Bool) → same_name name (name_of d) ≡ b → cond b (Some d) (call_named calls name) ≡ None → All (λ (d : Call). name ≢ name_of d) (d ∷ calls)
    by_test rest true same e = absurd cc
    by_test rest false same e = All-cons (λ (d : Call). name ≢ name_of d) d calls (λ is. let test = test_from_same name (name_of d) is in absurd cc) (rest e)

module _ (calls : List Call) (once : AllPairs (λ (c d : Call). ¬ IsSameCall c d) calls) where
  -- calls of one name are one
  pub unique : (c d : Call) → Contains calls c → Contains calls d → name_of c ≡ name_of d → c ≡ d
  unique c d p q same =
      let first = at_from_Contains calls c p in
      let second = at_from_Contains calls d q in
      elim (cases_order first.0 second.0) [
        | inl equal ↦ sym (first.2 c) ∙ ap (λ k. get_or calls k c) equal ∙ second.2 c
        | inr (inl before) ↦
            absurd (subst (λ (x : Call). ¬ IsSameCall x d) (first.2 c) (subst (λ (x : Call). ¬ IsSameCall (get_or calls first.0 c) x) (second.2 c) (once first.0 second.0 c before second.1)) (same_call c d same))
        | inr (inr before) ↦
            absurd (subst (λ (x : Call). ¬ IsSameCall x c) (second.2 c) (subst (λ (x : Call). ¬ IsSameCall (get_or calls second.0 c) x) (first.2 c) (once second.0 first.0 c before first.1)) (same_call d c (sym same)))
      ]

  -- a call is the one that its name names
  pub named_again : (c : Call) → Contains calls c → call_named calls (name_of c) ≡ Some c
  named_again c known = by_found (call_named calls (name_of c)) refl
    where
      by_found : (found : Option Call) → call_named calls (name_of c) ≡ found → found ≡ Some c
      by_found None e = absurd (All-contains (λ (d : Call). name_of c ≢ name_of d) calls c (none_found calls (name_of c) e) known refl)
      by_found (Some d) e = let is = found_is calls (name_of c) d e in ap (λ (x : Call). Some x) (sym (unique c d known is.0 is.1))

  pub all_named_again : (order : List Call) → All (Contains calls) order → calls_named calls (map name_of order) ≡ order
  all_named_again [] known = refl
  all_named_again (c ∷ order) known =
      ap (λ (o : Option Call). cons_option o (calls_named calls (map name_of order))) (named_again c (All-head (Contains calls) c order known))
      ∙ ap (λ (cs : List Call). c ∷ cs) (all_named_again order (All-tail (Contains calls) c order known))
