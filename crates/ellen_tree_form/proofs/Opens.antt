-- The opening words have the shape.
use Rattle.std.proofs.Common.{◌≡◌, ℕ, ◌^◌, ◌<◌, ◌≤◌, Bool, true, false, ◌||◌, refl, sym, ap, subst, ◌∙◌, inl, inr, ◌⊎◌, arith, [], None, Some, ◌/◌, ◌%◌}
use Rattle.std.specs.Prelude.{◌==◌, if◌then◌else◌}
use Rattle.std.specs.FinMap as map
use Rattle.std.specs.Ordering.{nat_cmp}
use Rattle.std.proofs.lemmas.Bool.{eqb-true, eq-eqb, ne_eqb, or_cases}
use Rattle.word_fields.specs.Versioned.{versioned_value}
use Rattle.lin_report.specs.Commands.{KEY_LIMIT}
use Rattle.node_arena.specs.Opening.{opening_word}
use Rattle.node_arena.specs.MemoryMap.{block_place, node_place, node_named}
use Rattle.normal_traits.specs.Laws.{opening_world}
use Rattle.normal_traits.specs.World.{World}
use Rattle.tree_help.specs.Updates.{state_of, inner}
use Rattle.ellen_tree_form.specs.Words.{is_internal, child_at, update_at, key_at, leaf_key_at, leaf_value_at}
use Rattle.ellen_tree_form.specs.Shape.{Ordered, IsStored, IsNamed, IsBelow, is_node, child_of, told_by, keys, children}
use Rattle.ellen_tree_form.specs.Form.{tree_form}

abbrev start : World
start = opening_world tree_form

-- ---- the words

left_word : start.words (child_at 0 true) ≡ 1
unfolding opening_word block_place
left_word = refl

right_word : start.words (child_at 0 false) ≡ 3
unfolding opening_word block_place
right_word = refl

update_word : start.words (update_at 0) ≡ 0
unfolding opening_word block_place
update_word = refl

root_key : start.words (leaf_key_at 2) ≡ 1048577
unfolding opening_word block_place node_place node_named
root_key = refl

root_key_at : start.words (key_at 0) ≡ 1048577
unfolding opening_word block_place
root_key_at = refl

key_1 : start.words (leaf_key_at 1) ≡ 1048576
unfolding opening_word block_place node_place node_named
key_1 = refl

key_3 : start.words (leaf_key_at 3) ≡ 1048577
unfolding opening_word block_place node_place node_named
key_3 = refl

value_1 : start.words (leaf_value_at 1) ≡ 0
unfolding opening_word block_place node_place node_named
value_1 = refl

value_3 : start.words (leaf_value_at 3) ≡ 0
unfolding opening_word block_place node_place node_named
value_3 = refl

value_of : (n : ℕ) → n < 2 ^ 24 → versioned_value n ≡ n
unfolding versioned_value
value_of n small = omega (arith, small)

left_child : child_of start.words 0 true ≡ 1
left_child = ap versioned_value left_word ∙ value_of 1 (omega arith)

right_child : child_of start.words 0 false ≡ 3
right_child = ap versioned_value right_word ∙ value_of 3 (omega arith)

-- ---- three nodes

abbrev on : ℕ → Bool
on r = r == 1 || (r == 2 || r == 3)

abbrev low : ℕ → ℕ
low r = if r == 3 then 1048577 else 0

abbrev high : ℕ → ℕ
high r = if r == 1 then 1048577 else 1048578

three : (r : ℕ) → on r ≡ true → (r ≡ 1) ⊎ ((r ≡ 2) ⊎ (r ≡ 3))
three r is = elim (or_cases (r == 1) (r == 2 || r == 3) is) [
  | inl e ↦ inl (eqb-true r 1 e)
  | inr rest ↦ elim (or_cases (r == 2) (r == 3) rest) [
    | inl e ↦ inr (inl (eqb-true r 2 e))
    | inr e ↦ inr (inr (eqb-true r 3 e))
  ]
]

the_root : (r : ℕ) → on r ≡ true → is_internal r ≡ true → r ≡ 2
the_root r is internal = elim (three r is) [
  | inl e ↦ absurd (omega (arith, e, eqb-true (r % 4) 2 internal))
  | inr rest ↦ elim rest [
    | inl e ↦ e
    | inr e ↦ absurd (omega (arith, e, eqb-true (r % 4) 2 internal))
  ]
]

two_leaves : (r : ℕ) → on r ≡ true → is_internal r ≡ false → (r ≡ 1) ⊎ (r ≡ 3)
two_leaves r is leaf = elim (three r is) [
  | inl e ↦ inl e
  | inr rest ↦ elim rest [
    | inl e ↦ let internal : is_internal r ≡ true = eq-eqb (r % 4) 2 (omega (arith, e)) in absurd cc
    | inr e ↦ inr e
  ]
]

left_of : (r : ℕ) → r ≡ 2 → children start r true ≡ 1
left_of r e = ap (λ b. child_of start.words (b / 4) true) e ∙ left_child

right_of : (r : ℕ) → r ≡ 2 → children start r false ≡ 3
right_of r e = ap (λ b. child_of start.words (b / 4) false) e ∙ right_child

key_of : (r : ℕ) → r ≡ 2 → keys start r ≡ 1048577
key_of r e = ap (λ x. keys start x) e ∙ root_key

ordered : Ordered (keys start) (children start) on low high
ordered = record {
  root = refl;
  root_low = refl;
  root_high = refl;
  leads = λ r left is internal. by_side r left (the_root r is internal);
  left_low = λ r is internal. let e = the_root r is internal in ap low (left_of r e) ∙ sym (ap low e);
  left_high = λ r is internal. let e = the_root r is internal in ap high (left_of r e) ∙ sym (key_of r e);
  right_low = λ r is internal. let e = the_root r is internal in ap low (right_of r e) ∙ sym (key_of r e);
  right_high = λ r is internal. let e = the_root r is internal in ap high (right_of r e) ∙ sym (ap high e);
  within = λ r is internal. let e = the_root r is internal in (omega (arith, ap low e, key_of r e), omega (arith, ap high e, key_of r e));
  leaf = λ r is leaf'. in_leaf r (two_leaves r is leaf');
  one_leaf = λ a b k on_a on_b leaf_a leaf_b la ha lb hb. one_leaf a b k (two_leaves a on_a leaf_a) (two_leaves b on_b leaf_b) la ha lb hb;
  one_key = λ a b on_a on_b in_a in_b e. the_root a on_a in_a ∙ sym (the_root b on_b in_b);
  leaf_apart = λ a b on_a on_b leaf_a in_b less more. apart a b (two_leaves a on_a leaf_a) (the_root b on_b in_b) less more;
  sides_apart = λ a b on_a on_b in_a in_b e. absurd (omega (arith, left_of a (the_root a on_a in_a), right_of b (the_root b on_b in_b), e));
}
  where
    by_side : (r : ℕ) (left : Bool) → r ≡ 2 → on (children start r left) ≡ true
    by_side r true e = ap on (left_of r e)
    by_side r false e = ap on (right_of r e)

    in_leaf : (r : ℕ) → (r ≡ 1) ⊎ (r ≡ 3) → (low r ≤ keys start r) × (keys start r < high r)
    in_leaf r (inl e) = let key : keys start r ≡ 1048576 = ap (λ x. keys start x) e ∙ key_1 in (omega (arith, ap low e, key), omega (arith, ap high e, key))
    in_leaf r (inr e) = let key : keys start r ≡ 1048577 = ap (λ x. keys start x) e ∙ key_3 in (omega (arith, ap low e, key), omega (arith, ap high e, key))

    one_leaf : (a b k : ℕ) → (a ≡ 1) ⊎ (a ≡ 3) → (b ≡ 1) ⊎ (b ≡ 3) → low a ≤ k → k < high a → low b ≤ k → k < high b → a ≡ b
    one_leaf a b k (inl x) (inl y) la ha lb hb = x ∙ sym y
    one_leaf a b k (inr x) (inr y) la ha lb hb = x ∙ sym y
    one_leaf a b k (inl x) (inr y) la ha lb hb = absurd (omega (arith, ha, ap high x, lb, ap low y))
    one_leaf a b k (inr x) (inl y) la ha lb hb = absurd (omega (arith, la, ap low x, hb, ap high y))

    apart : (a b : ℕ) → (a ≡ 1) ⊎ (a ≡ 3) → b ≡ 2 → low a < keys start b → keys start b < high a → ⊥
    apart a b (inl x) y less more = omega (arith, more, ap high x, key_of b y)
    apart a b (inr x) y less more = omega (arith, less, ap low x, key_of b y)

-- ---- all of it

block_0 : (block : ℕ) → is_node [] block ≡ true → block ≡ 0
block_0 block is = elim (or_cases (block == 0) false is) [
  | inl e ↦ eqb-true block 0 e
  | inr e ↦ absurd cc
]

stored_0 : IsStored start 0
stored_0 = record {
  used = refl;
  small = omega arith;
  leads = leads;
  fits = fits;
  update_fits = omega (arith, update_word);
  values = (omega (arith, value_1), omega (arith, value_3));
  leaf_keys = (omega (arith, key_1), omega (arith, key_3));
  inner_key = omega (arith, root_key_at);
  state = inl (ap state_of update_word ∙ ap (λ v. v % 4) (value_of 0 (omega arith)));
}
  where
    leads : (left : Bool) → IsBelow start.changes (child_of start.words 0 left)
    leads true = inr (record { block = 0; node = refl; names = inl left_child })
    leads false = inr (record { block = 0; node = refl; names = inr right_child })

    fits : (left : Bool) → start.words (child_at 0 left) < 2 ^ 64
    fits true = omega (arith, left_word)
    fits false = omega (arith, right_word)

named : (r : ℕ) → (r ≡ 1) ⊎ ((r ≡ 2) ⊎ (r ≡ 3)) → IsNamed [] r
named r (inl e) = inr (record { block = 0; node = refl; names = inl e })
named r (inr (inl e)) = inl (0, refl, e)
named r (inr (inr e)) = inr (record { block = 0; node = refl; names = inr e })

untold : (leaf key : ℕ) → (leaf ≡ 1) ⊎ (leaf ≡ 3) → key < KEY_LIMIT → None ≡ told_by start.words key leaf
untold leaf key (inl e) small = let k : start.words (leaf_key_at leaf) ≡ 1048576 = ap (λ x. keys start x) e ∙ key_1 in
    sym (ap (λ b. if b then Some (start.words (leaf_value_at leaf)) else None) (ne_eqb (start.words (leaf_key_at leaf)) key (λ e'. omega (arith, e', k, small))))
untold leaf key (inr e) small = let k : start.words (leaf_key_at leaf) ≡ 1048577 = ap (λ x. keys start x) e ∙ key_3 in
    sym (ap (λ b. if b then Some (start.words (leaf_value_at leaf)) else None) (ne_eqb (start.words (leaf_key_at leaf)) key (λ e'. omega (arith, e', k, small))))

pub opens : tree_form.shape (opening_world tree_form)
opens = record {
  opened = refl;
  stored = λ block is. subst (IsStored start) (sym (block_0 block is)) stored_0;
  on = on;
  low = low;
  high = high;
  ordered = ordered;
  named = λ r is. named r (three r is);
  living = λ block is off. let yes' : on (inner block) ≡ true = ap (λ b. on (inner b)) (block_0 block is) in absurd cc;
  tells = λ leaf key is leaf' from to small. map.get-empty nat_cmp key ∙ untold leaf key (two_leaves leaf is leaf') small;
  items = λ item among. absurd among;
  flaggers = λ list flagged. absurd flagged.won;
  same_identity = λ a b fa fb e. absurd fa.won;
  same_block = λ a b fa fb e. absurd fa.won;
  flagged = λ change among. absurd among;
  made = λ change among. absurd among;
  yes = λ change among. absurd among;
  effective = tt;
  one_list = λ i j d lt below. absurd (omega (arith, below));
  one_block = λ i j d lt below. absurd (omega (arith, below));
  spent = λ item among. absurd among;
  causes_differ = λ i j d lt below. absurd (omega (arith, below));
}
