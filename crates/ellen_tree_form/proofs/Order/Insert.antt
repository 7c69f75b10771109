-- An insertion keeps the order: a leaf is replaced by an internal node with two leaves, which share its range.
use Rattle.std.proofs.Common.{◌≡◌, ◌≢◌, refl, sym, ap, subst, ◌∙◌, ℕ, ◌<◌, ◌≤◌, Bool, true, false, ◌⊎◌, inl, inr, arith}
use Rattle.ellen_tree_form.specs.Words.{is_internal}
use Rattle.ellen_tree_form.specs.Shape.{Ordered}
use Rattle.ellen_tree_form.proofs.Order.SwingLeft.{Goes}

module _ (key : ℕ → ℕ) (child : ℕ → Bool → ℕ) (on : ℕ → Bool) (low high : ℕ → ℕ) (o : Ordered key child on low high)
    (g l n a b : ℕ) (side : Bool) (on_g : on g ≡ true) (in_g : is_internal g ≡ true) (to_l : child g side ≡ l) (leaf_l : is_internal l ≡ false)
    (in_n : is_internal n ≡ true) (leaf_a : is_internal a ≡ false) (leaf_b : is_internal b ≡ false) (a_b : a ≢ b)
    (new_n : on n ≡ false) (new_a : on a ≡ false) (new_b : on b ≡ false)
    (between : (low l < key n) × (key n < high l)) (key_a : (low l ≤ key a) × (key a < key n)) (key_b : (key n ≤ key b) × (key b < high l))
    (child' : ℕ → Bool → ℕ) (on' : ℕ → Bool) (low' high' : ℕ → ℕ)
    (goes : (r : ℕ) (left : Bool) → on r ≡ true → Goes child child' g side n r left) (left_n : child' n true ≡ a) (right_n : child' n false ≡ b)
    (is_on : (r : ℕ) → on' r ≡ true → ((on r ≡ true) × (r ≢ l)) ⊎ ((r ≡ n) ⊎ ((r ≡ a) ⊎ (r ≡ b))))
    (still : (r : ℕ) → on r ≡ true → r ≢ l → on' r ≡ true) (on_n : on' n ≡ true) (on_a : on' a ≡ true) (on_b : on' b ≡ true)
    (same : (r : ℕ) → on r ≡ true → (low' r ≡ low r) × (high' r ≡ high r))
    (range_n : (low' n ≡ low l) × (high' n ≡ high l)) (range_a : (low' a ≡ low l) × (high' a ≡ key n)) (range_b : (low' b ≡ key n) × (high' b ≡ high l)) where
  on_l : on l ≡ true
  on_l = subst (λ r. on r ≡ true) to_l (o.leads g side on_g in_g)

  -- l is the child of g alone, on that side
  one_parent : (r : ℕ) (left : Bool) → on r ≡ true → is_internal r ≡ true → child r left ≡ l → (r ≡ g) × (left ≡ side)
  one_parent r left on_r in_r e = by_sides left side e to_l
    where
      by_sides : (x y : Bool) → child r x ≡ l → child g y ≡ l → (r ≡ g) × (x ≡ y)
      by_sides true true ex ey = (o.one_key r g on_r on_g in_r in_g (omega (arith, o.left_high r on_r in_r, o.left_high g on_g in_g, ap high (ex ∙ sym ey))), refl)
      by_sides false false ex ey = (o.one_key r g on_r on_g in_r in_g (omega (arith, o.right_low r on_r in_r, o.right_low g on_g in_g, ap low (ex ∙ sym ey))), refl)
      by_sides true false ex ey = absurd (o.sides_apart r g on_r on_g in_r in_g (ex ∙ sym ey))
      by_sides false true ex ey = absurd (o.sides_apart g r on_g on_r in_g in_r (ey ∙ sym ex))

  fresh : (r x : ℕ) → on r ≡ true → on x ≡ false → r ≢ x
  fresh r x old new e = let new' : on r ≡ false = subst (λ y. on y ≡ false) (sym e) new in absurd cc

  -- an internal node is an old one or the new one; a leaf is an old one, not l, or one of the new ones
  inner_is : (r : ℕ) → on' r ≡ true → is_internal r ≡ true → (on r ≡ true) ⊎ (r ≡ n)
  inner_is r on_r in_r = elim (is_on r on_r) [
    | inl old ↦ inl old.0
    | inr new ↦ elim new [
      | inl e ↦ inr e
      | inr leaf ↦ elim leaf [
        | inl e ↦ let no : is_internal r ≡ false = subst (λ x. is_internal x ≡ false) (sym e) leaf_a in absurd cc
        | inr e ↦ let no : is_internal r ≡ false = subst (λ x. is_internal x ≡ false) (sym e) leaf_b in absurd cc
      ]
    ]
  ]

  leaf_is : (r : ℕ) → on' r ≡ true → is_internal r ≡ false → ((on r ≡ true) × (r ≢ l)) ⊎ ((r ≡ a) ⊎ (r ≡ b))
  leaf_is r on_r leaf_r = elim (is_on r on_r) [
    | inl old ↦ inl old
    | inr new ↦ elim new [
      | inl e ↦ let yes : is_internal r ≡ true = subst (λ x. is_internal x ≡ true) (sym e) in_n in absurd cc
      | inr leaf ↦ inr leaf
    ]
  ]

  leads' : (r : ℕ) (left : Bool) → on' r ≡ true → is_internal r ≡ true → on' (child' r left) ≡ true
  leads' r left on_r in_r = elim (inner_is r on_r in_r) [
    | inl old ↦ elim (goes r left old) [
      | inl here ↦ subst (λ c. on' c ≡ true) (sym here.2) on_n
      | inr there ↦ subst (λ c. on' c ≡ true) (sym there.1) (still (child r left) (o.leads r left old in_r) (λ e. let one = one_parent r left old in_r e in there.0 one.0 one.1))
    ]
    | inr e ↦ subst (λ x. on' (child' x left) ≡ true) (sym e) (of_n left)
  ]
    where
      of_n : (x : Bool) → on' (child' n x) ≡ true
      of_n true = subst (λ c. on' c ≡ true) (sym left_n) on_a
      of_n false = subst (λ c. on' c ≡ true) (sym right_n) on_b

  -- the ranges of a node's children are as those of l where the child is the new node
  left_low' : (r : ℕ) → on' r ≡ true → is_internal r ≡ true → low' (child' r true) ≡ low' r
  left_low' r on_r in_r = elim (inner_is r on_r in_r) [
    | inl old ↦ elim (goes r true old) [
      | inl here ↦ ap low' here.2 ∙ range_n.0 ∙ ap low (sym to_l ∙ ap (λ s. child g s) (sym here.1) ∙ ap (λ x. child x true) (sym here.0)) ∙ o.left_low r old in_r ∙ sym (same r old).0
      | inr there ↦ ap low' there.1 ∙ (same (child r true) (o.leads r true old in_r)).0 ∙ o.left_low r old in_r ∙ sym (same r old).0
    ]
    | inr e ↦ ap (λ x. low' (child' x true)) e ∙ ap low' left_n ∙ range_a.0 ∙ sym range_n.0 ∙ ap low' (sym e)
  ]

  left_high' : (r : ℕ) → on' r ≡ true → is_internal r ≡ true → high' (child' r true) ≡ key r
  left_high' r on_r in_r = elim (inner_is r on_r in_r) [
    | inl old ↦ elim (goes r true old) [
      | inl here ↦ ap high' here.2 ∙ range_n.1 ∙ ap high (sym to_l ∙ ap (λ s. child g s) (sym here.1) ∙ ap (λ x. child x true) (sym here.0)) ∙ o.left_high r old in_r
      | inr there ↦ ap high' there.1 ∙ (same (child r true) (o.leads r true old in_r)).1 ∙ o.left_high r old in_r
    ]
    | inr e ↦ ap (λ x. high' (child' x true)) e ∙ ap high' left_n ∙ range_a.1 ∙ ap key (sym e)
  ]

  right_low' : (r : ℕ) → on' r ≡ true → is_internal r ≡ true → low' (child' r false) ≡ key r
  right_low' r on_r in_r = elim (inner_is r on_r in_r) [
    | inl old ↦ elim (goes r false old) [
      | inl here ↦ ap low' here.2 ∙ range_n.0 ∙ ap low (sym to_l ∙ ap (λ s. child g s) (sym here.1) ∙ ap (λ x. child x false) (sym here.0)) ∙ o.right_low r old in_r
      | inr there ↦ ap low' there.1 ∙ (same (child r false) (o.leads r false old in_r)).0 ∙ o.right_low r old in_r
    ]
    | inr e ↦ ap (λ x. low' (child' x false)) e ∙ ap low' right_n ∙ range_b.0 ∙ ap key (sym e)
  ]

  right_high' : (r : ℕ) → on' r ≡ true → is_internal r ≡ true → high' (child' r false) ≡ high' r
  right_high' r on_r in_r = elim (inner_is r on_r in_r) [
    | inl old ↦ elim (goes r false old) [
      | inl here ↦ ap high' here.2 ∙ range_n.1 ∙ ap high (sym to_l ∙ ap (λ s. child g s) (sym here.1) ∙ ap (λ x. child x false) (sym here.0)) ∙ o.right_high r old in_r ∙ sym (same r old).1
      | inr there ↦ ap high' there.1 ∙ (same (child r false) (o.leads r false old in_r)).1 ∙ o.right_high r old in_r ∙ sym (same r old).1
    ]
    | inr e ↦ ap (λ x. high' (child' x false)) e ∙ ap high' right_n ∙ range_b.1 ∙ sym range_n.1 ∙ ap high' (sym e)
  ]

  within' : (r : ℕ) → on' r ≡ true → is_internal r ≡ true → (low' r < key r) × (key r < high' r)
  within' r on_r in_r = elim (inner_is r on_r in_r) [
    | inl old ↦ (omega (arith, same r old, o.within r old in_r), omega (arith, same r old, o.within r old in_r))
    | inr e ↦ (omega (arith, ap low' e, ap key e, range_n, between), omega (arith, ap high' e, ap key e, range_n, between))
  ]

  leaf' : (r : ℕ) → on' r ≡ true → is_internal r ≡ false → (low' r ≤ key r) × (key r < high' r)
  leaf' r on_r leaf_r = elim (leaf_is r on_r leaf_r) [
    | inl old ↦ (omega (arith, same r old.0, o.leaf r old.0 leaf_r), omega (arith, same r old.0, o.leaf r old.0 leaf_r))
    | inr new ↦ elim new [
      | inl e ↦ (omega (arith, ap low' e, ap key e, range_a, key_a), omega (arith, ap high' e, ap key e, range_a, key_a))
      | inr e ↦ (omega (arith, ap low' e, ap key e, range_b, key_b), omega (arith, ap high' e, ap key e, range_b, key_b))
    ]
  ]

  -- a number of a new leaf's range is one of l's, so it is in no other old leaf's
  new_old : (x r k : ℕ) → on r ≡ true → r ≢ l → is_internal r ≡ false → low l ≤ k → k < high l → low r ≤ k → k < high r → ⊥
  new_old x r k on_r other leaf_r lk kh rk kr = other (o.one_leaf r l k on_r on_l leaf_r leaf_l rk kr lk kh)

  one_leaf' : (x y k : ℕ) → on' x ≡ true → on' y ≡ true → is_internal x ≡ false → is_internal y ≡ false → low' x ≤ k → k < high' x → low' y ≤ k → k < high' y → x ≡ y
  one_leaf' x y k on_x on_y leaf_x leaf_y lx hx ly hy = elim (leaf_is x on_x leaf_x) [
    | inl ox ↦ elim (leaf_is y on_y leaf_y) [
      | inl oy ↦ o.one_leaf x y k ox.0 oy.0 leaf_x leaf_y (omega (arith, lx, same x ox.0)) (omega (arith, hx, same x ox.0)) (omega (arith, ly, same y oy.0)) (omega (arith, hy, same y oy.0))
      | inr ny ↦ absurd (new_old y x k ox.0 ox.1 leaf_x (in_l y ny ly hy).0 (in_l y ny ly hy).1 (omega (arith, lx, same x ox.0)) (omega (arith, hx, same x ox.0)))
    ]
    | inr nx ↦ elim (leaf_is y on_y leaf_y) [
      | inl oy ↦ absurd (new_old x y k oy.0 oy.1 leaf_y (in_l x nx lx hx).0 (in_l x nx lx hx).1 (omega (arith, ly, same y oy.0)) (omega (arith, hy, same y oy.0)))
      | inr ny ↦ new_new nx ny
    ]
  ]
    where
      in_l : (z : ℕ) → (z ≡ a) ⊎ (z ≡ b) → low' z ≤ k → k < high' z → (low l ≤ k) × (k < high l)
      in_l z (inl e) lz hz = (omega (arith, lz, ap low' e, range_a), omega (arith, hz, ap high' e, range_a, between))
      in_l z (inr e) lz hz = (omega (arith, lz, ap low' e, range_b, between), omega (arith, hz, ap high' e, range_b))

      new_new : (x ≡ a) ⊎ (x ≡ b) → (y ≡ a) ⊎ (y ≡ b) → x ≡ y
      new_new (inl ex) (inl ey) = ex ∙ sym ey
      new_new (inr ex) (inr ey) = ex ∙ sym ey
      new_new (inl ex) (inr ey) = absurd (omega (arith, hx, ap high' ex, range_a, ly, ap low' ey, range_b))
      new_new (inr ex) (inl ey) = absurd (omega (arith, lx, ap low' ex, range_b, hy, ap high' ey, range_a))

  one_key' : (x y : ℕ) → on' x ≡ true → on' y ≡ true → is_internal x ≡ true → is_internal y ≡ true → key x ≡ key y → x ≡ y
  one_key' x y on_x on_y in_x in_y e = elim (inner_is x on_x in_x) [
    | inl ox ↦ elim (inner_is y on_y in_y) [
      | inl oy ↦ o.one_key x y ox oy in_x in_y e
      | inr ny ↦ absurd (o.leaf_apart l x on_l ox leaf_l in_x (omega (arith, e, ap key ny, between)) (omega (arith, e, ap key ny, between)))
    ]
    | inr nx ↦ elim (inner_is y on_y in_y) [
      | inl oy ↦ absurd (o.leaf_apart l y on_l oy leaf_l in_y (omega (arith, e, ap key nx, between)) (omega (arith, e, ap key nx, between)))
      | inr ny ↦ nx ∙ sym ny
    ]
  ]

  leaf_apart' : (x y : ℕ) → on' x ≡ true → on' y ≡ true → is_internal x ≡ false → is_internal y ≡ true → low' x < key y → key y < high' x → ⊥
  leaf_apart' x y on_x on_y leaf_x in_y less more = elim (leaf_is x on_x leaf_x) [
    | inl ox ↦ elim (inner_is y on_y in_y) [
      | inl oy ↦ o.leaf_apart x y ox.0 oy leaf_x in_y (omega (arith, less, same x ox.0)) (omega (arith, more, same x ox.0))
      | inr ny ↦ ox.1 (o.one_leaf x l (key n) ox.0 on_l leaf_x leaf_l (omega (arith, less, ap key ny, same x ox.0)) (omega (arith, more, ap key ny, same x ox.0)) (omega (arith, between)) (omega (arith, between)))
    ]
    | inr nx ↦ elim nx [
      | inl ea ↦ elim (inner_is y on_y in_y) [
        | inl oy ↦ o.leaf_apart l y on_l oy leaf_l in_y (omega (arith, less, ap low' ea, range_a)) (omega (arith, more, ap high' ea, range_a, between))
        | inr ny ↦ absurd (omega (arith, more, ap key ny, ap high' ea, range_a))
      ]
      | inr eb ↦ elim (inner_is y on_y in_y) [
        | inl oy ↦ o.leaf_apart l y on_l oy leaf_l in_y (omega (arith, less, ap low' eb, range_b, between)) (omega (arith, more, ap high' eb, range_b))
        | inr ny ↦ absurd (omega (arith, less, ap key ny, ap low' eb, range_b))
      ]
    ]
  ]

  sides_apart' : (x y : ℕ) → on' x ≡ true → on' y ≡ true → is_internal x ≡ true → is_internal y ≡ true → child' x true ≢ child' y false
  sides_apart' x y on_x on_y in_x in_y e = elim (inner_is x on_x in_x) [
    | inl ox ↦ elim (inner_is y on_y in_y) [
      | inl oy ↦ elim (goes x true ox) [
        | inl hx ↦ elim (goes y false oy) [
          | inl hy ↦ let e' : true ≡ false = hx.1 ∙ sym hy.1 in absurd cc
          | inr ty ↦ fresh (child y false) n (o.leads y false oy in_y) new_n (sym ty.1 ∙ sym e ∙ hx.2)
        ]
        | inr tx ↦ elim (goes y false oy) [
          | inl hy ↦ fresh (child x true) n (o.leads x true ox in_x) new_n (sym tx.1 ∙ e ∙ hy.2)
          | inr ty ↦ o.sides_apart x y ox oy in_x in_y (sym tx.1 ∙ e ∙ ty.1)
        ]
      ]
      | inr ny ↦ let to_b : child' x true ≡ b = e ∙ ap (λ z. child' z false) ny ∙ right_n in
          elim (goes x true ox) [
            | inl hx ↦ let no : is_internal n ≡ false = subst (λ z. is_internal z ≡ false) (sym to_b ∙ hx.2) leaf_b in absurd cc
            | inr tx ↦ fresh (child x true) b (o.leads x true ox in_x) new_b (sym tx.1 ∙ to_b)
          ]
    ]
    | inr nx ↦ let to_a : child' y false ≡ a = sym e ∙ ap (λ z. child' z true) nx ∙ left_n in
        elim (inner_is y on_y in_y) [
          | inl oy ↦ elim (goes y false oy) [
            | inl hy ↦ let no : is_internal n ≡ false = subst (λ z. is_internal z ≡ false) (sym to_a ∙ hy.2) leaf_a in absurd cc
            | inr ty ↦ fresh (child y false) a (o.leads y false oy in_y) new_a (sym ty.1 ∙ to_a)
          ]
          | inr ny ↦ a_b (sym to_a ∙ ap (λ z. child' z false) ny ∙ right_n)
        ]
  ]

  pub inserted : Ordered key child' on' low' high'
  inserted = record {
    root = still 2 o.root (λ e. let is : is_internal l ≡ true = subst (λ r. is_internal r ≡ true) e refl in absurd cc);
    root_low = (same 2 o.root).0 ∙ o.root_low;
    root_high = (same 2 o.root).1 ∙ o.root_high;
    leads = leads';
    left_low = left_low';
    left_high = left_high';
    right_low = right_low';
    right_high = right_high';
    within = within';
    leaf = leaf';
    one_leaf = one_leaf';
    one_key = one_key';
    leaf_apart = leaf_apart';
    sides_apart = sides_apart';
  }
