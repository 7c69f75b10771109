-- A swing past a node whose left child is the leaf that goes keeps the order: each node that began at the
-- node's key begins where the node began.
use Rattle.std.proofs.Common.{◌≡◌, ◌≢◌, refl, sym, ap, subst, ◌∙◌, ℕ, ◌<◌, ◌≤◌, Bool, true, false, ◌⊎◌, inl, inr, arith}
use Rattle.std.proofs.lemmas.Bool.{cases_eq, cases_lt}
use Rattle.ellen_tree_form.specs.Words.{is_internal}
use Rattle.std.specs.Prelude.{◌==◌, if◌then◌else◌, Option, Some, None}
use Rattle.std.proofs.lemmas.Bool.{eq-eqb, ne_eqb}
use Rattle.ellen_tree_form.specs.Shape.{Ordered}

-- where a child is after the exchange of one child of g
abbrev pub Goes : (ℕ → Bool → ℕ) → (ℕ → Bool → ℕ) → ℕ → Bool → ℕ → ℕ → Bool → Type 0
Goes child child' g side x r left =
    ((r ≡ g) × (left ≡ side) × (child' r left ≡ x)) ⊎ ((r ≡ g → left ≡ side → ⊥) × (child' r left ≡ child r left))

module _ (key : ℕ → ℕ) (child : ℕ → Bool → ℕ) (on : ℕ → Bool) (low high : ℕ → ℕ) (o : Ordered key child on low high)
    (g p l x : ℕ) (side : Bool) (on_g : on g ≡ true) (in_g : is_internal g ≡ true) (to_p : child g side ≡ p) (in_p : is_internal p ≡ true) (no_root : p ≢ 2)
    (to_l : child p true ≡ l) (leaf_l : is_internal l ≡ false) (to_x : child p false ≡ x)
    (child' : ℕ → Bool → ℕ) (on' : ℕ → Bool) (low' : ℕ → ℕ)
    (goes : (r : ℕ) (left : Bool) → Goes child child' g side x r left)
    (stays : (r : ℕ) → on' r ≡ true → (on r ≡ true) × (r ≢ p) × (r ≢ l))
    (still : (r : ℕ) → on r ≡ true → r ≢ p → r ≢ l → on' r ≡ true)
    (moved : (r : ℕ) → ((low r ≡ key p) × (low' r ≡ low p)) ⊎ ((low r ≢ key p) × (low' r ≡ low r))) where
  on_p : on p ≡ true
  on_p = subst (λ r. on r ≡ true) to_p (o.leads g side on_g in_g)

  on_l : on l ≡ true
  on_l = subst (λ r. on r ≡ true) to_l (o.leads p true on_p in_p)

  on_x : on x ≡ true
  on_x = subst (λ r. on r ≡ true) to_x (o.leads p false on_p in_p)

  low_l : low l ≡ low p
  low_l = ap low (sym to_l) ∙ o.left_low p on_p in_p

  high_l : high l ≡ key p
  high_l = ap high (sym to_l) ∙ o.left_high p on_p in_p

  low_x : low x ≡ key p
  low_x = ap low (sym to_x) ∙ o.right_low p on_p in_p

  high_x : high x ≡ high p
  high_x = ap high (sym to_x) ∙ o.right_high p on_p in_p

  above_low : low p < key p
  above_low = (o.within p on_p in_p).0

  x_p : x ≢ p
  x_p e = absurd (omega (arith, low_x, ap low e, above_low))

  x_l : x ≢ l
  x_l e = o.sides_apart p p on_p on_p in_p in_p (to_l ∙ sym e ∙ sym to_x)

  -- p is the child of g alone, on that side
  one_parent : (r : ℕ) (left : Bool) → on r ≡ true → is_internal r ≡ true → child r left ≡ p → (r ≡ g) × (left ≡ side)
  one_parent r left on_r in_r e = by_sides left side e to_p
    where
      by_sides : (a b : Bool) → child r a ≡ p → child g b ≡ p → (r ≡ g) × (a ≡ b)
      by_sides true true ea eb = (o.one_key r g on_r on_g in_r in_g (omega (arith, o.left_high r on_r in_r, o.left_high g on_g in_g, ap high (ea ∙ sym eb))), refl)
      by_sides false false ea eb = (o.one_key r g on_r on_g in_r in_g (omega (arith, o.right_low r on_r in_r, o.right_low g on_g in_g, ap low (ea ∙ sym eb))), refl)
      by_sides true false ea eb = absurd (o.sides_apart r g on_r on_g in_r in_g (ea ∙ sym eb))
      by_sides false true ea eb = absurd (o.sides_apart g r on_g on_r in_g in_r (eb ∙ sym ea))

  -- and l is that of p
  l_parent : (r : ℕ) (left : Bool) → on r ≡ true → is_internal r ≡ true → child r left ≡ l → r ≡ p
  l_parent r left on_r in_r e = by_side left e
    where
      by_side : (a : Bool) → child r a ≡ l → r ≡ p
      by_side true ea = o.one_key r p on_r on_p in_r in_p (omega (arith, o.left_high r on_r in_r, high_l, ap high ea))
      by_side false ea = absurd (o.sides_apart p r on_p on_r in_p in_r (to_l ∙ sym ea))

  key_apart : (r : ℕ) → on' r ≡ true → is_internal r ≡ true → key r ≢ key p
  key_apart r on_r in_r e = (stays r on_r).1 (o.one_key r p (stays r on_r).0 on_p in_r in_p e)

  leads' : (r : ℕ) (left : Bool) → on' r ≡ true → is_internal r ≡ true → on' (child' r left) ≡ true
  leads' r left on_r in_r = elim (goes r left) [
    | inl here ↦ subst (λ c. on' c ≡ true) (sym here.2) (still x on_x x_p x_l)
    | inr there ↦ subst (λ c. on' c ≡ true) (sym there.1) (still (child r left) (o.leads r left (stays r on_r).0 in_r)
        (λ e. let one = one_parent r left (stays r on_r).0 in_r e in there.0 one.0 one.1)
        (λ e. (stays r on_r).1 (l_parent r left (stays r on_r).0 in_r e)))
  ]

  -- low' is a function of low
  same_low : (a b : ℕ) → low a ≡ low b → low' a ≡ low' b
  same_low a b e = elim (moved a) [
    | inl ma ↦ elim (moved b) [
      | inl mb ↦ ma.1 ∙ sym mb.1
      | inr nb ↦ absurd (nb.0 (sym e ∙ ma.0))
    ]
    | inr na ↦ elim (moved b) [
      | inl mb ↦ absurd (na.0 (e ∙ mb.0))
      | inr nb ↦ na.1 ∙ e ∙ sym nb.1
    ]
  ]

  low_x' : low' x ≡ low p
  low_x' = elim (moved x) [
    | inl m ↦ m.1
    | inr n ↦ absurd (n.0 low_x)
  ]

  kept_low : (r : ℕ) → low r ≢ key p → low' r ≡ low r
  kept_low r differs = elim (moved r) [
    | inl m ↦ absurd (differs m.0)
    | inr n ↦ n.1
  ]

  never_above : (r : ℕ) → low' r ≤ low r
  never_above r = elim (moved r) [
    | inl m ↦ omega (arith, m.0, m.1, above_low)
    | inr n ↦ omega (arith, n.1)
  ]

  left_low' : (r : ℕ) → on' r ≡ true → is_internal r ≡ true → low' (child' r true) ≡ low' r
  left_low' r on_r in_r = elim (goes r true) [
    | inl here ↦
        let p_low : low p ≡ low g = ap low (sym to_p ∙ ap (λ s. child g s) (sym here.1)) ∙ o.left_low g on_g in_g in
        ap low' here.2 ∙ low_x' ∙ p_low ∙ sym (kept_low g (λ e. omega (arith, e, p_low, above_low))) ∙ ap low' (sym here.0)
    | inr there ↦ ap low' there.1 ∙ same_low (child r true) r (o.left_low r (stays r on_r).0 in_r)
  ]

  left_high' : (r : ℕ) → on' r ≡ true → is_internal r ≡ true → high (child' r true) ≡ key r
  left_high' r on_r in_r = elim (goes r true) [
    | inl here ↦ ap high here.2 ∙ high_x ∙ ap high (sym to_p ∙ ap (λ s. child g s) (sym here.1)) ∙ o.left_high g on_g in_g ∙ ap key (sym here.0)
    | inr there ↦ ap high there.1 ∙ o.left_high r (stays r on_r).0 in_r
  ]

  right_low' : (r : ℕ) → on' r ≡ true → is_internal r ≡ true → low' (child' r false) ≡ key r
  right_low' r on_r in_r = elim (goes r false) [
    | inl here ↦ ap low' here.2 ∙ low_x' ∙ ap low (sym to_p ∙ ap (λ s. child g s) (sym here.1)) ∙ o.right_low g on_g in_g ∙ ap key (sym here.0)
    | inr there ↦ ap low' there.1 ∙ kept_low (child r false) (λ e. key_apart r on_r in_r (sym (o.right_low r (stays r on_r).0 in_r) ∙ e)) ∙ o.right_low r (stays r on_r).0 in_r
  ]

  right_high' : (r : ℕ) → on' r ≡ true → is_internal r ≡ true → high (child' r false) ≡ high r
  right_high' r on_r in_r = elim (goes r false) [
    | inl here ↦ ap high here.2 ∙ high_x ∙ ap high (sym to_p ∙ ap (λ s. child g s) (sym here.1)) ∙ o.right_high g on_g in_g ∙ ap high (sym here.0)
    | inr there ↦ ap high there.1 ∙ o.right_high r (stays r on_r).0 in_r
  ]

  -- a leaf that stays and has a number below p's key is one of those that were moved, or had it before
  one_leaf' : (a b k : ℕ) → on' a ≡ true → on' b ≡ true → is_internal a ≡ false → is_internal b ≡ false → low' a ≤ k → k < high a → low' b ≤ k → k < high b → a ≡ b
  one_leaf' a b k on_a on_b leaf_a leaf_b la ha lb hb = elim (moved a) [
    | inl ma ↦ elim (moved b) [
      | inl mb ↦ o.one_leaf a b (key p) (stays a on_a).0 (stays b on_b).0 leaf_a leaf_b (omega (arith, ma.0)) (omega (arith, ma.0, o.leaf a (stays a on_a).0 leaf_a)) (omega (arith, mb.0)) (omega (arith, mb.0, o.leaf b (stays b on_b).0 leaf_b))
      | inr nb ↦ elim (cases_lt k (key p)) [
        | inl less ↦ absurd ((stays b on_b).2 (o.one_leaf b l k (stays b on_b).0 on_l leaf_b leaf_l (omega (arith, lb, nb.1)) hb (omega (arith, la, ma.1, low_l)) (omega (arith, less, high_l))))
        | inr more ↦ o.one_leaf a b k (stays a on_a).0 (stays b on_b).0 leaf_a leaf_b (omega (arith, ma.0, more)) ha (omega (arith, lb, nb.1)) hb
      ]
    ]
    | inr na ↦ elim (moved b) [
      | inl mb ↦ elim (cases_lt k (key p)) [
        | inl less ↦ absurd ((stays a on_a).2 (o.one_leaf a l k (stays a on_a).0 on_l leaf_a leaf_l (omega (arith, la, na.1)) ha (omega (arith, lb, mb.1, low_l)) (omega (arith, less, high_l))))
        | inr more ↦ o.one_leaf a b k (stays a on_a).0 (stays b on_b).0 leaf_a leaf_b (omega (arith, la, na.1)) ha (omega (arith, mb.0, more)) hb
      ]
      | inr nb ↦ o.one_leaf a b k (stays a on_a).0 (stays b on_b).0 leaf_a leaf_b (omega (arith, la, na.1)) ha (omega (arith, lb, nb.1)) hb
    ]
  ]

  leaf_apart' : (a b : ℕ) → on' a ≡ true → on' b ≡ true → is_internal a ≡ false → is_internal b ≡ true → low' a < key b → key b < high a → ⊥
  leaf_apart' a b on_a on_b leaf_a in_b less more = elim (moved a) [
    | inl m ↦ elim (cases_lt (key b) (key p)) [
      | inl below ↦ o.leaf_apart l b on_l (stays b on_b).0 leaf_l in_b (omega (arith, low_l, less, m.1)) (omega (arith, below, high_l))
      | inr above ↦ elim (cases_eq (key b) (key p)) [
        | inl same ↦ key_apart b on_b in_b same
        | inr differs ↦ o.leaf_apart a b (stays a on_a).0 (stays b on_b).0 leaf_a in_b (omega (arith, m.0, above, differs)) more
      ]
    ]
    | inr n ↦ o.leaf_apart a b (stays a on_a).0 (stays b on_b).0 leaf_a in_b (omega (arith, n.1, less)) more
  ]

  sides_apart' : (a b : ℕ) → on' a ≡ true → on' b ≡ true → is_internal a ≡ true → is_internal b ≡ true → child' a true ≢ child' b false
  sides_apart' a b on_a on_b in_a in_b e = elim (goes a true) [
    | inl here ↦ elim (goes b false) [
      | inl here' ↦ let e' : true ≡ false = here.1 ∙ sym here'.1 in absurd cc
      | inr there' ↦ let same : child b false ≡ x = sym there'.1 ∙ sym e ∙ here.2 in
          key_apart b on_b in_b (omega (arith, o.right_low b (stays b on_b).0 in_b, low_x, ap low same))
    ]
    | inr there ↦ elim (goes b false) [
      | inl here' ↦ o.sides_apart a p (stays a on_a).0 on_p in_a in_p (sym there.1 ∙ e ∙ here'.2 ∙ sym to_x)
      | inr there' ↦ o.sides_apart a b (stays a on_a).0 (stays b on_b).0 in_a in_b (sym there.1 ∙ e ∙ there'.1)
    ]
  ]

  pub swing_left : Ordered key child' on' low' high
  swing_left = record {
    root = still 2 o.root (λ e. no_root (sym e)) (λ e. let is : is_internal l ≡ true = subst (λ r. is_internal r ≡ true) e refl in absurd cc);
    root_low = kept_low 2 (λ e. omega (arith, e, o.root_low, above_low)) ∙ o.root_low;
    root_high = o.root_high;
    leads = leads';
    left_low = left_low';
    left_high = left_high';
    right_low = right_low';
    right_high = right_high';
    within = λ r on_r in_r. (omega (arith, never_above r, o.within r (stays r on_r).0 in_r), (o.within r (stays r on_r).0 in_r).1);
    leaf = λ r on_r leaf_r. (omega (arith, never_above r, o.leaf r (stays r on_r).0 leaf_r), (o.leaf r (stays r on_r).0 leaf_r).1);
    one_leaf = one_leaf';
    one_key = λ a b on_a on_b in_a in_b. o.one_key a b (stays a on_a).0 (stays b on_b).0 in_a in_b;
    leaf_apart = leaf_apart';
    sides_apart = sides_apart';
  }

  -- ---- what the leaves say, after the key of the leaf that went was removed

  module _ (get get' : ℕ → Option ℕ) (value : ℕ → ℕ) (limit : ℕ) (removed : (k : ℕ) → get' k ≡ (if k == key l then None else get k))
      (tells : (a k : ℕ) → on a ≡ true → is_internal a ≡ false → low a ≤ k → k < high a → k < limit → get k ≡ (if key a == k then Some (value a) else None)) where
    untold : (a k : ℕ) → key a ≢ k → (if key a == k then Some (value a) else None) ≡ None
    untold a k differs = ap (λ b. if b then Some (value a) else None) (ne_eqb (key a) k differs)

    -- a number that a leaf that stays had before isn't the removed key
    as_before : (a k : ℕ) → on' a ≡ true → is_internal a ≡ false → low a ≤ k → k < high a → k < limit → get' k ≡ (if key a == k then Some (value a) else None)
    as_before a k on_a leaf_a from to small =
        let other : k ≢ key l = λ e. (stays a on_a).2 (o.one_leaf a l k (stays a on_a).0 on_l leaf_a leaf_l from to (omega (arith, e, o.leaf l on_l leaf_l)) (omega (arith, e, o.leaf l on_l leaf_l))) in
        removed k ∙ ap (λ b. if b then None else get k) (ne_eqb k (key l) other) ∙ tells a k (stays a on_a).0 leaf_a from to small

    pub tells_left : (a k : ℕ) → on' a ≡ true → is_internal a ≡ false → low' a ≤ k → k < high a → k < limit → get' k ≡ (if key a == k then Some (value a) else None)
    tells_left a k on_a leaf_a from to small = elim (moved a) [
      | inl m ↦ elim (cases_lt k (key p)) [
        | inl less ↦ gone less (omega (arith, m.1, from)) ∙ sym (untold a k (λ e. omega (arith, e, less, m.0, o.leaf a (stays a on_a).0 leaf_a)))
        | inr more ↦ as_before a k on_a leaf_a (omega (arith, m.0, more)) to small
      ]
      | inr n ↦ as_before a k on_a leaf_a (omega (arith, n.1, from)) to small
    ]
      where
        -- the map held nothing but the removed key in the removed leaf's range
        gone : k < key p → low p ≤ k → get' k ≡ None
        gone less above = elim (cases_eq k (key l)) [
          | inl same ↦ removed k ∙ ap (λ b. if b then None else get k) (eq-eqb k (key l) same)
          | inr differs ↦ removed k ∙ ap (λ b. if b then None else get k) (ne_eqb k (key l) differs) ∙ tells l k on_l leaf_l (omega (arith, low_l, above)) (omega (arith, high_l, less)) small ∙ untold l k (λ e. differs (sym e))
        ]
