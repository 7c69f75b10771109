-- An insertion: the order and the map behind it.
use Rattle.std.proofs.Common.{◌≡◌, ◌≢◌, ℕ, ◌%◌, ◌<◌, ◌≤◌, Bool, true, false, not, ◌||◌, refl, sym, ap, subst, ◌∙◌, inl, inr, ◌⊎◌, arith}
use Rattle.std.specs.Prelude.{◌==◌, if◌then◌else◌, nat_lt}
use Rattle.std.proofs.lemmas.Bool.{cases_eq, eq-eqb, ne_eqb, eqb-true, or_cases, or_left, or_right, ltb-true, ltb-false, true≢false}
use Rattle.word_fields.specs.Versioned.{versioned_value}
use Rattle.lin_report.specs.Commands.{KEY_LIMIT}
use Rattle.node_arena.specs.MemoryMap.{reference_to}
use Rattle.node_arena.proofs.PlacesApart.{node_place-reference_to}
use Rattle.normal_traits.specs.World.{World}
use Rattle.tree_help.specs.Updates.{inner}
use Rattle.ellen_tree_form.specs.Words.{is_internal, leaf_key_at}
use Rattle.ellen_tree_form.specs.Search.{leaf_on, greater}
use Rattle.ellen_tree_form.specs.Shape.{Shape, IsLeaf, IsNamed, is_node, noted, keys, child_of}
use Rattle.ellen_tree_form.proofs.Order.SwingWays.{InRange, next_in, way_in, inner_same, inner_is, leaf_names}
use Rattle.ellen_tree_steps.specs.Effects.{Links}
use Rattle.ellen_tree_steps.proofs.Lists.Waiting.{insert_new}
use Rattle.ellen_tree_steps.proofs.Order.ChildForm.{keys_same}

module _ (world after : World) (shape : Shape world) (x : Links world after) where
  abbrev pub node : ℕ
  node = x.flagged.node

  abbrev pub block : ℕ
  block = x.list.block

  abbrev pub K : ℕ
  K = x.list.call.op.key

  -- the leaf that is replaced, and its key
  abbrev pub old : ℕ
  old = versioned_value (noted world x.list 1)

  abbrev pub k : ℕ
  k = world.words (leaf_key_at (versioned_value (noted world x.list 1)))

  abbrev pub n : ℕ
  n = inner x.list.block

  abbrev pub a : ℕ
  a = leaf_on (nat_lt x.list.call.op.key (world.words (leaf_key_at (versioned_value (noted world x.list 1))))) x.list.block

  abbrev pub b : ℕ
  b = leaf_on (not (nat_lt x.list.call.op.key (world.words (leaf_key_at (versioned_value (noted world x.list 1)))))) x.list.block

  pub limit : K < KEY_LIMIT
  limit = (shape.flaggers x.list x.flagged).limit

  -- ---- the old leaf

  pub to_old : child_of world.words node x.inserts.left ≡ old
  to_old = ap versioned_value x.waits.child

  pub at_node : InRange shape.on shape.low shape.high K (inner node)
  at_node = way_in world shape.on shape.low shape.high shape.ordered K node (omega (arith, limit)) x.waits.reached

  pub at_old : InRange shape.on shape.low shape.high K old
  at_old = subst (InRange shape.on shape.low shape.high K) (ap (child_of world.words node) x.inserts.side ∙ to_old) (next_in world shape.on shape.low shape.high shape.ordered K node at_node)

  pub leaf_old : is_internal old ≡ false
  leaf_old = leaf_names world.changes old x.inserts.leaf

  in_old : (shape.low old ≤ k) × (k < shape.high old)
  in_old = shape.ordered.leaf old at_old.is leaf_old

  -- ---- the new nodes were not there

  pub none : is_node world.changes block ≡ true → ⊥
  none = insert_new world shape x.list x.flagged x.inserts x.waits

  inner_leaf : (other : ℕ) → IsLeaf world.changes (inner other) → ⊥
  inner_leaf other leaf = let no : is_internal (inner other) ≡ false = leaf_names world.changes (inner other) leaf in let yes : is_internal (inner other) ≡ true = inner_is other in absurd cc

  pub off : (r : ℕ) → (IsNamed world.changes r → ⊥) → shape.on r ≡ false
  off r denies = by_test (shape.on r) refl
    where
      by_test : (t : Bool) → shape.on r ≡ t → shape.on r ≡ false
      by_test true is = absurd (denies (shape.named r is))
      by_test false is = is

  pub new_n : shape.on n ≡ false
  new_n = off n (λ named. elim named [
    | inl node' ↦ none (subst (λ y. is_node world.changes y ≡ true) (inner_same node'.0 block (sym node'.2)) node'.1)
    | inr leaf ↦ inner_leaf block leaf
  ])

  pub new_leaf : (w : Bool) → shape.on (leaf_on w block) ≡ false
  new_leaf w = off (leaf_on w block) (by_which w)
    where
      by_which : (v : Bool) → IsNamed world.changes (leaf_on v block) → ⊥
      by_which true (inl node') = absurd (omega (arith, node'.2))
      by_which false (inl node') = absurd (omega (arith, node'.2))
      by_which true (inr leaf) = elim leaf.names [
        | inl one ↦ none (subst (λ y. is_node world.changes y ≡ true) (omega (arith, one)) leaf.node)
        | inr three ↦ absurd (omega (arith, three))
      ]
      by_which false (inr leaf) = elim leaf.names [
        | inl one ↦ absurd (omega (arith, one))
        | inr three ↦ none (subst (λ y. is_node world.changes y ≡ true) (omega (arith, three)) leaf.node)
      ]

  -- ---- their keys

  pub is_leaf : (w : Bool) → is_internal (leaf_on w block) ≡ false
  is_leaf true = ne_eqb (reference_to block 1 % 4) 2 (λ e. absurd (omega (arith, e)))
  is_leaf false = ne_eqb (reference_to block 3 % 4) 2 (λ e. absurd (omega (arith, e)))

  key_n : keys after n ≡ greater K k
  key_n = keys_same world after node x.inserts.left x.to x.beside.words n ∙ ap world.words (node_place-reference_to block 2 0 (omega arith) (omega arith)) ∙ x.inserts.key

  pub key_new : keys after (leaf_on true block) ≡ K
  key_new = keys_same world after node x.inserts.left x.to x.beside.words (leaf_on true block) ∙ x.inserts.new_key

  pub key_copy : keys after (leaf_on false block) ≡ k
  key_copy = keys_same world after node x.inserts.left x.to x.beside.words (leaf_on false block) ∙ x.inserts.old_key

  pub record Between (t : Bool) : Type 0 where
    pub above : shape.low old < keys after n
    pub within : keys after n < shape.high old
    pub low_a : shape.low old ≤ keys after (leaf_on t block)
    pub high_a : keys after (leaf_on t block) < keys after n
    pub low_b : keys after n ≤ keys after (leaf_on (not t) block)
    pub high_b : keys after (leaf_on (not t) block) < shape.high old
    -- the other key is on the other side
    pub apart : (q : ℕ) → ((keys after n ≤ q → t ≡ true → q ≢ K) × (q < keys after n → t ≡ false → q ≢ K)) × ((q < keys after n → t ≡ true → q ≢ k) × (keys after n ≤ q → t ≡ false → q ≢ k))

  pub between : Between (nat_lt K k)
  between = by_order (nat_lt K k) refl key_n
    where
      by_order : (t : Bool) → nat_lt K k ≡ t → keys after n ≡ (if t then k else K) → Between t
      by_order true e is =
          let less : K < k = ltb-true K k e in
          record {
            above = omega (arith, is, less, at_old.above);
            within = omega (arith, is, in_old);
            low_a = omega (arith, key_new, at_old.above);
            high_a = omega (arith, key_new, is, less);
            low_b = omega (arith, key_copy, is);
            high_b = omega (arith, key_copy, in_old);
            apart = λ q. ((λ from t e'. omega (arith, from, is, less, e'), λ to t e'. absurd cc), (λ to t e'. omega (arith, to, is, e'), λ from t e'. absurd cc));
          }
      by_order false e is =
          let least : k ≤ K = ltb-false K k e in
          let more : k < K = omega (arith, least, x.inserts.other) in
          record {
            above = omega (arith, is, more, in_old);
            within = omega (arith, is, at_old.within);
            low_a = omega (arith, key_copy, in_old);
            high_a = omega (arith, key_copy, is, more);
            low_b = omega (arith, key_new, is);
            high_b = omega (arith, key_new, at_old.within);
            apart = λ q. ((λ from t e'. absurd cc, λ to t e'. omega (arith, to, is, e')), (λ to t e'. absurd cc, λ from t e'. omega (arith, from, is, more, e')));
          }

  -- ---- who is on after the insertion, and the ranges

  abbrev pub on' : ℕ → Bool
  on' r = if r == old then false else (shape.on r || (r == n || (r == a || r == b)))

  abbrev pub low' : ℕ → ℕ
  low' r = if r == n then shape.low old else (if r == a then shape.low old else (if r == b then keys after n else shape.low r))

  abbrev pub high' : ℕ → ℕ
  high' r = if r == n then shape.high old else (if r == a then keys after n else (if r == b then shape.high old else shape.high r))

  a_n : a ≢ n
  a_n e = let yes : is_internal a ≡ true = ap is_internal e ∙ inner_is block in true≢false (sym yes ∙ is_leaf (nat_lt K k))

  b_n : b ≢ n
  b_n e = let yes : is_internal b ≡ true = ap is_internal e ∙ inner_is block in true≢false (sym yes ∙ is_leaf (not (nat_lt K k)))

  pub a_b : a ≢ b
  a_b = by_order (nat_lt K k)
    where
      by_order : (t : Bool) → leaf_on t block ≢ leaf_on (not t) block
      by_order true e = absurd (omega (arith, e))
      by_order false e = absurd (omega (arith, e))

  -- a node that is on is none of the new ones
  pub fresh : (r y : ℕ) → shape.on r ≡ true → shape.on y ≡ false → r ≢ y
  fresh r y is none' e = true≢false (sym is ∙ ap shape.on e ∙ none')

  pub is_on : (r : ℕ) → on' r ≡ true → ((shape.on r ≡ true) × (r ≢ old)) ⊎ ((r ≡ n) ⊎ ((r ≡ a) ⊎ (r ≡ b)))
  is_on r is = elim (cases_eq r old) [
    | inl same ↦ absurd (true≢false (sym is ∙ ap (λ t. if t then false else (shape.on r || (r == n || (r == a || r == b)))) (eq-eqb r old same)))
    | inr differs ↦
        let rest : (shape.on r || (r == n || (r == a || r == b))) ≡ true = sym (ap (λ t. if t then false else (shape.on r || (r == n || (r == a || r == b)))) (ne_eqb r old differs)) ∙ is in
        elim (or_cases (shape.on r) (r == n || (r == a || r == b)) rest) [
          | inl was ↦ inl (was, differs)
          | inr new ↦ elim (or_cases (r == n) (r == a || r == b) new) [
            | inl e ↦ inr (inl (eqb-true r n e))
            | inr leaf ↦ elim (or_cases (r == a) (r == b) leaf) [
              | inl e ↦ inr (inr (inl (eqb-true r a e)))
              | inr e ↦ inr (inr (inr (eqb-true r b e)))
            ]
          ]
        ]
  ]

  pub puts_on : (r : ℕ) → r ≢ old → (shape.on r || (r == n || (r == a || r == b))) ≡ true → on' r ≡ true
  puts_on r differs is = ap (λ t. if t then false else (shape.on r || (r == n || (r == a || r == b)))) (ne_eqb r old differs) ∙ is

  not_old : (y : ℕ) → shape.on y ≡ false → y ≢ old
  not_old y none' e = fresh old y at_old.is none' (sym e)

  pub on_n : on' n ≡ true
  on_n = puts_on n (not_old n new_n) (or_right (shape.on n) (n == n || (n == a || n == b)) (or_left (n == n) (n == a || n == b) (eq-eqb n n refl)))

  pub on_a : on' a ≡ true
  on_a = puts_on a (not_old a (new_leaf (nat_lt K k))) (or_right (shape.on a) (a == n || (a == a || a == b)) (or_right (a == n) (a == a || a == b) (or_left (a == a) (a == b) (eq-eqb a a refl))))

  pub on_b : on' b ≡ true
  on_b = puts_on b (not_old b (new_leaf (not (nat_lt K k)))) (or_right (shape.on b) (b == n || (b == a || b == b)) (or_right (b == n) (b == a || b == b) (or_right (b == a) (b == b) (eq-eqb b b refl))))

  -- ---- the ranges

  pub same : (r : ℕ) → shape.on r ≡ true → (low' r ≡ shape.low r) × (high' r ≡ shape.high r)
  same r is =
      let en = ne_eqb r n (fresh r n is new_n) in
      let ea = ne_eqb r a (fresh r a is (new_leaf (nat_lt K k))) in
      let eb = ne_eqb r b (fresh r b is (new_leaf (not (nat_lt K k)))) in
      (rw (en, ea, eb) refl, rw (en, ea, eb) refl)

  pub range_n : (low' n ≡ shape.low old) × (high' n ≡ shape.high old)
  range_n = let en = eq-eqb n n refl in (rw en refl, rw en refl)

  pub range_a : (low' a ≡ shape.low old) × (high' a ≡ keys after n)
  range_a = let en = ne_eqb a n a_n in let ea = eq-eqb a a refl in (rw (en, ea) refl, rw (en, ea) refl)

  pub range_b : (low' b ≡ keys after n) × (high' b ≡ shape.high old)
  range_b = let en = ne_eqb b n b_n in let ea = ne_eqb b a (λ e. a_b (sym e)) in let eb = eq-eqb b b refl in (rw (en, ea, eb) refl, rw (en, ea, eb) refl)
