-- A swing past a node whose right child is the leaf that goes keeps the order: each node that ended at the
-- node's key ends where the node ended.
use Rattle.std.proofs.Common.{◌≡◌, ◌≢◌, refl, sym, ap, subst, ◌∙◌, ℕ, ◌<◌, ◌≤◌, Bool, true, false, ◌⊎◌, inl, inr, arith}
use Rattle.std.proofs.lemmas.Bool.{cases_eq, cases_lt}
use Rattle.ellen_tree_form.specs.Words.{is_internal}
use Rattle.std.specs.Prelude.{◌==◌, if◌then◌else◌, Option, Some, None}
use Rattle.std.proofs.lemmas.Bool.{eq-eqb, ne_eqb}
use Rattle.ellen_tree_form.specs.Shape.{Ordered, TOP}
use Rattle.ellen_tree_form.proofs.Order.SwingLeft.{Goes}

module _ (key : ℕ → ℕ) (child : ℕ → Bool → ℕ) (on : ℕ → Bool) (low high : ℕ → ℕ) (o : Ordered key child on low high)
    (g p l x : ℕ) (side : Bool) (on_g : on g ≡ true) (in_g : is_internal g ≡ true) (to_p : child g side ≡ p) (in_p : is_internal p ≡ true) (no_root : p ≢ 2)
    (to_l : child p false ≡ l) (leaf_l : is_internal l ≡ false) (to_x : child p true ≡ x)
    (child' : ℕ → Bool → ℕ) (on' : ℕ → Bool) (high' : ℕ → ℕ)
    (goes : (r : ℕ) (left : Bool) → Goes child child' g side x r left)
    (stays : (r : ℕ) → on' r ≡ true → (on r ≡ true) × (r ≢ p) × (r ≢ l))
    (still : (r : ℕ) → on r ≡ true → r ≢ p → r ≢ l → on' r ≡ true)
    (moved : (r : ℕ) → ((high r ≡ key p) × (high' r ≡ high p)) ⊎ ((high r ≢ key p) × (high' r ≡ high r))) where
  on_p : on p ≡ true
  on_p = subst (λ r. on r ≡ true) to_p (o.leads g side on_g in_g)

  on_l : on l ≡ true
  on_l = subst (λ r. on r ≡ true) to_l (o.leads p false on_p in_p)

  on_x : on x ≡ true
  on_x = subst (λ r. on r ≡ true) to_x (o.leads p true on_p in_p)

  low_l : low l ≡ key p
  low_l = ap low (sym to_l) ∙ o.right_low p on_p in_p

  high_l : high l ≡ high p
  high_l = ap high (sym to_l) ∙ o.right_high p on_p in_p

  low_x : low x ≡ low p
  low_x = ap low (sym to_x) ∙ o.left_low p on_p in_p

  high_x : high x ≡ key p
  high_x = ap high (sym to_x) ∙ o.left_high p on_p in_p

  below_high : key p < high p
  below_high = (o.within p on_p in_p).1

  x_p : x ≢ p
  x_p e = absurd (omega (arith, high_x, ap high e, below_high))

  x_l : x ≢ l
  x_l e = o.sides_apart p p on_p on_p in_p in_p (to_x ∙ e ∙ sym to_l)

  -- p is the child of g alone, on that side
  one_parent : (r : ℕ) (left : Bool) → on r ≡ true → is_internal r ≡ true → child r left ≡ p → (r ≡ g) × (left ≡ side)
  one_parent r left on_r in_r e = by_sides left side e to_p
    where
      by_sides : (a b : Bool) → child r a ≡ p → child g b ≡ p → (r ≡ g) × (a ≡ b)
      by_sides true true ea eb = (o.one_key r g on_r on_g in_r in_g (omega (arith, o.left_high r on_r in_r, o.left_high g on_g in_g, ap high (ea ∙ sym eb))), refl)
      by_sides false false ea eb = (o.one_key r g on_r on_g in_r in_g (omega (arith, o.right_low r on_r in_r, o.right_low g on_g in_g, ap low (ea ∙ sym eb))), refl)
      by_sides true false ea eb = absurd (o.sides_apart r g on_r on_g in_r in_g (ea ∙ sym eb))
      by_sides false true ea eb = absurd (o.sides_apart g r on_g on_r in_g in_r (eb ∙ sym ea))

  -- and l is that of p
  l_parent : (r : ℕ) (left : Bool) → on r ≡ true → is_internal r ≡ true → child r left ≡ l → r ≡ p
  l_parent r left on_r in_r e = by_side left e
    where
      by_side : (a : Bool) → child r a ≡ l → r ≡ p
      by_side false ea = o.one_key r p on_r on_p in_r in_p (omega (arith, o.right_low r on_r in_r, low_l, ap low ea))
      by_side true ea = absurd (o.sides_apart r p on_r on_p in_r in_p (ea ∙ sym to_l))

  key_apart : (r : ℕ) → on' r ≡ true → is_internal r ≡ true → key r ≢ key p
  key_apart r on_r in_r e = (stays r on_r).1 (o.one_key r p (stays r on_r).0 on_p in_r in_p e)

  leads' : (r : ℕ) (left : Bool) → on' r ≡ true → is_internal r ≡ true → on' (child' r left) ≡ true
  leads' r left on_r in_r = elim (goes r left) [
    | inl here ↦ subst (λ c. on' c ≡ true) (sym here.2) (still x on_x x_p x_l)
    | inr there ↦ subst (λ c. on' c ≡ true) (sym there.1) (still (child r left) (o.leads r left (stays r on_r).0 in_r)
        (λ e. let one = one_parent r left (stays r on_r).0 in_r e in there.0 one.0 one.1)
        (λ e. (stays r on_r).1 (l_parent r left (stays r on_r).0 in_r e)))
  ]

  -- high' is a function of high
  same_high : (a b : ℕ) → high a ≡ high b → high' a ≡ high' b
  same_high a b e = elim (moved a) [
    | inl ma ↦ elim (moved b) [
      | inl mb ↦ ma.1 ∙ sym mb.1
      | inr nb ↦ absurd (nb.0 (sym e ∙ ma.0))
    ]
    | inr na ↦ elim (moved b) [
      | inl mb ↦ absurd (na.0 (e ∙ mb.0))
      | inr nb ↦ na.1 ∙ e ∙ sym nb.1
    ]
  ]

  high_x' : high' x ≡ high p
  high_x' = elim (moved x) [
    | inl m ↦ m.1
    | inr n ↦ absurd (n.0 high_x)
  ]

  kept_high : (r : ℕ) → high r ≢ key p → high' r ≡ high r
  kept_high r differs = elim (moved r) [
    | inl m ↦ absurd (differs m.0)
    | inr n ↦ n.1
  ]

  never_below : (r : ℕ) → high r ≤ high' r
  never_below r = elim (moved r) [
    | inl m ↦ omega (arith, m.0, m.1, below_high)
    | inr n ↦ omega (arith, n.1)
  ]

  left_low' : (r : ℕ) → on' r ≡ true → is_internal r ≡ true → low (child' r true) ≡ low r
  left_low' r on_r in_r = elim (goes r true) [
    | inl here ↦ ap low here.2 ∙ low_x ∙ ap low (sym to_p ∙ ap (λ s. child g s) (sym here.1)) ∙ o.left_low g on_g in_g ∙ ap low (sym here.0)
    | inr there ↦ ap low there.1 ∙ o.left_low r (stays r on_r).0 in_r
  ]

  left_high' : (r : ℕ) → on' r ≡ true → is_internal r ≡ true → high' (child' r true) ≡ key r
  left_high' r on_r in_r = elim (goes r true) [
    | inl here ↦ ap high' here.2 ∙ high_x' ∙ ap high (sym to_p ∙ ap (λ s. child g s) (sym here.1)) ∙ o.left_high g on_g in_g ∙ ap key (sym here.0)
    | inr there ↦ ap high' there.1 ∙ kept_high (child r true) (λ e. key_apart r on_r in_r (sym (o.left_high r (stays r on_r).0 in_r) ∙ e)) ∙ o.left_high r (stays r on_r).0 in_r
  ]

  right_low' : (r : ℕ) → on' r ≡ true → is_internal r ≡ true → low (child' r false) ≡ key r
  right_low' r on_r in_r = elim (goes r false) [
    | inl here ↦ ap low here.2 ∙ low_x ∙ ap low (sym to_p ∙ ap (λ s. child g s) (sym here.1)) ∙ o.right_low g on_g in_g ∙ ap key (sym here.0)
    | inr there ↦ ap low there.1 ∙ o.right_low r (stays r on_r).0 in_r
  ]

  right_high' : (r : ℕ) → on' r ≡ true → is_internal r ≡ true → high' (child' r false) ≡ high' r
  right_high' r on_r in_r = elim (goes r false) [
    | inl here ↦
        let p_high : high p ≡ high g = ap high (sym to_p ∙ ap (λ s. child g s) (sym here.1)) ∙ o.right_high g on_g in_g in
        ap high' here.2 ∙ high_x' ∙ p_high ∙ sym (kept_high g (λ e. omega (arith, e, p_high, below_high))) ∙ ap high' (sym here.0)
    | inr there ↦ ap high' there.1 ∙ same_high (child r false) r (o.right_high r (stays r on_r).0 in_r)
  ]

  -- a leaf that ended at p's key had the number below it
  last_number : (a : ℕ) → on' a ≡ true → is_internal a ≡ false → high a ≡ key p → (low a ≤ key a) × (key a < key p)
  last_number a on_a leaf_a e = ((o.leaf a (stays a on_a).0 leaf_a).0, omega (arith, e, (o.leaf a (stays a on_a).0 leaf_a).1))

  one_leaf' : (a b k : ℕ) → on' a ≡ true → on' b ≡ true → is_internal a ≡ false → is_internal b ≡ false → low a ≤ k → k < high' a → low b ≤ k → k < high' b → a ≡ b
  one_leaf' a b k on_a on_b leaf_a leaf_b la ha lb hb = elim (moved a) [
    | inl ma ↦ elim (moved b) [
      | inl mb ↦
          let na = last_number a on_a leaf_a ma.0 in
          let nb = last_number b on_b leaf_b mb.0 in
          elim (cases_lt (key a) (key b)) [
            | inl less ↦ o.one_leaf a b (key b) (stays a on_a).0 (stays b on_b).0 leaf_a leaf_b (omega (arith, na.0, less)) (omega (arith, ma.0, nb.1)) nb.0 (omega (arith, mb.0, nb.1))
            | inr more ↦ o.one_leaf a b (key a) (stays a on_a).0 (stays b on_b).0 leaf_a leaf_b na.0 (omega (arith, ma.0, na.1)) (omega (arith, nb.0, more)) (omega (arith, mb.0, na.1))
          ]
      | inr nb ↦ elim (cases_lt k (key p)) [
        | inl less ↦ o.one_leaf a b k (stays a on_a).0 (stays b on_b).0 leaf_a leaf_b la (omega (arith, ma.0, less)) lb (omega (arith, hb, nb.1))
        | inr more ↦ absurd ((stays b on_b).2 (o.one_leaf b l k (stays b on_b).0 on_l leaf_b leaf_l lb (omega (arith, hb, nb.1)) (omega (arith, more, low_l)) (omega (arith, ha, ma.1, high_l))))
      ]
    ]
    | inr na ↦ elim (moved b) [
      | inl mb ↦ elim (cases_lt k (key p)) [
        | inl less ↦ o.one_leaf a b k (stays a on_a).0 (stays b on_b).0 leaf_a leaf_b la (omega (arith, ha, na.1)) lb (omega (arith, mb.0, less))
        | inr more ↦ absurd ((stays a on_a).2 (o.one_leaf a l k (stays a on_a).0 on_l leaf_a leaf_l la (omega (arith, ha, na.1)) (omega (arith, more, low_l)) (omega (arith, hb, mb.1, high_l))))
      ]
      | inr nb ↦ o.one_leaf a b k (stays a on_a).0 (stays b on_b).0 leaf_a leaf_b la (omega (arith, ha, na.1)) lb (omega (arith, hb, nb.1))
    ]
  ]

  leaf_apart' : (a b : ℕ) → on' a ≡ true → on' b ≡ true → is_internal a ≡ false → is_internal b ≡ true → low a < key b → key b < high' a → ⊥
  leaf_apart' a b on_a on_b leaf_a in_b less more = elim (moved a) [
    | inl m ↦ elim (cases_lt (key p) (key b)) [
      | inl above ↦ o.leaf_apart l b on_l (stays b on_b).0 leaf_l in_b (omega (arith, low_l, above)) (omega (arith, high_l, more, m.1))
      | inr below ↦ elim (cases_eq (key b) (key p)) [
        | inl same ↦ key_apart b on_b in_b same
        | inr differs ↦ o.leaf_apart a b (stays a on_a).0 (stays b on_b).0 leaf_a in_b less (omega (arith, m.0, below, differs))
      ]
    ]
    | inr n ↦ o.leaf_apart a b (stays a on_a).0 (stays b on_b).0 leaf_a in_b less (omega (arith, n.1, more))
  ]

  sides_apart' : (a b : ℕ) → on' a ≡ true → on' b ≡ true → is_internal a ≡ true → is_internal b ≡ true → child' a true ≢ child' b false
  sides_apart' a b on_a on_b in_a in_b e = elim (goes a true) [
    | inl here ↦ elim (goes b false) [
      | inl here' ↦ let e' : true ≡ false = here.1 ∙ sym here'.1 in absurd cc
      | inr there' ↦ o.sides_apart p b on_p (stays b on_b).0 in_p in_b (to_x ∙ sym here.2 ∙ e ∙ there'.1)
    ]
    | inr there ↦ elim (goes b false) [
      | inl here' ↦ let same : child a true ≡ x = sym there.1 ∙ e ∙ here'.2 in
          key_apart a on_a in_a (omega (arith, o.left_high a (stays a on_a).0 in_a, high_x, ap high same))
      | inr there' ↦ o.sides_apart a b (stays a on_a).0 (stays b on_b).0 in_a in_b (sym there.1 ∙ e ∙ there'.1)
    ]
  ]

  -- the node isn't beyond the end of the root
  pub swing_right : key p < TOP → Ordered key child' on' low high'
  swing_right below = record {
    root = still 2 o.root (λ e. no_root (sym e)) (λ e. let is : is_internal l ≡ true = subst (λ r. is_internal r ≡ true) e refl in absurd cc);
    root_low = o.root_low;
    root_high = kept_high 2 (λ e. omega (arith, e, o.root_high, below)) ∙ o.root_high;
    leads = leads';
    left_low = left_low';
    left_high = left_high';
    right_low = right_low';
    right_high = right_high';
    within = λ r on_r in_r. ((o.within r (stays r on_r).0 in_r).0, omega (arith, never_below r, o.within r (stays r on_r).0 in_r));
    leaf = λ r on_r leaf_r. ((o.leaf r (stays r on_r).0 leaf_r).0, omega (arith, never_below r, o.leaf r (stays r on_r).0 leaf_r));
    one_leaf = one_leaf';
    one_key = λ a b on_a on_b in_a in_b. o.one_key a b (stays a on_a).0 (stays b on_b).0 in_a in_b;
    leaf_apart = leaf_apart';
    sides_apart = sides_apart';
  }

  -- ---- what the leaves say, after the key of the leaf that went was removed

  module _ (get get' : ℕ → Option ℕ) (value : ℕ → ℕ) (limit : ℕ) (removed : (k : ℕ) → get' k ≡ (if k == key l then None else get k))
      (tells : (a k : ℕ) → on a ≡ true → is_internal a ≡ false → low a ≤ k → k < high a → k < limit → get k ≡ (if key a == k then Some (value a) else None)) where
    untold : (a k : ℕ) → key a ≢ k → (if key a == k then Some (value a) else None) ≡ None
    untold a k differs = ap (λ b. if b then Some (value a) else None) (ne_eqb (key a) k differs)

    as_before : (a k : ℕ) → on' a ≡ true → is_internal a ≡ false → low a ≤ k → k < high a → k < limit → get' k ≡ (if key a == k then Some (value a) else None)
    as_before a k on_a leaf_a from to small =
        let other : k ≢ key l = λ e. (stays a on_a).2 (o.one_leaf a l k (stays a on_a).0 on_l leaf_a leaf_l from to (omega (arith, e, o.leaf l on_l leaf_l)) (omega (arith, e, o.leaf l on_l leaf_l))) in
        removed k ∙ ap (λ b. if b then None else get k) (ne_eqb k (key l) other) ∙ tells a k (stays a on_a).0 leaf_a from to small

    pub tells_right : (a k : ℕ) → on' a ≡ true → is_internal a ≡ false → low a ≤ k → k < high' a → k < limit → get' k ≡ (if key a == k then Some (value a) else None)
    tells_right a k on_a leaf_a from to small = elim (moved a) [
      | inl m ↦ elim (cases_lt k (key p)) [
        | inl less ↦ as_before a k on_a leaf_a from (omega (arith, m.0, less)) small
        | inr more ↦ gone more (omega (arith, m.1, to)) ∙ sym (untold a k (λ e. omega (arith, e, more, m.0, o.leaf a (stays a on_a).0 leaf_a)))
      ]
      | inr n ↦ as_before a k on_a leaf_a from (omega (arith, n.1, to)) small
    ]
      where
        gone : key p ≤ k → k < high p → get' k ≡ None
        gone more within' = elim (cases_eq k (key l)) [
          | inl same ↦ removed k ∙ ap (λ b. if b then None else get k) (eq-eqb k (key l) same)
          | inr differs ↦ removed k ∙ ap (λ b. if b then None else get k) (ne_eqb k (key l) differs) ∙ tells l k on_l leaf_l (omega (arith, low_l, more)) (omega (arith, high_l, within')) small ∙ untold l k (λ e. differs (sym e))
        ]
