-- The lists that ready searches name are good offers: one entry at an update word that was seen clean, and stores
-- into different fields of the block.
use Rattle.std.proofs.Common.{◌≡◌, ◌≢◌, ℕ, ◌+◌, ◌*◌, ◌^◌, ◌<◌, ◌≤◌, Bool, true, false, not, eqb, ltb, ◌||◌, ◌&&◌, List, [], ◌∷◌, refl, sym, ap, subst, ◌∙◌, inl, inr, ◌⊎◌, arith}
use Rattle.std.specs.Prelude.{if◌then◌else◌, All, AllPairs, nat_lt, nat_le}
use Rattle.std.proofs.lemmas.Bool.{true≢false, eq-eqb, ne_eqb, ltb-true, and_parts, or_cases}
use Rattle.std.proofs.lemmas.List.Elements.{All-nil, All-cons}
use Rattle.std.proofs.lemmas.List.Kept.{AllPairs-cons}
use Rattle.lin_report.specs.declared.calls.Op.{Op}
use Rattle.lin_report.specs.declared.calls.TheConstants.{SET, REM, GET}
use Rattle.lin_report.specs.Commands.{KEY_LIMIT}
use Rattle.lin_report.specs.Object.{IsCommandOf, map_object}
use Rattle.node_arena.specs.declared.places.TheConstants.{FIRST_WORDS}
use Rattle.node_arena.specs.MemoryMap.{block_place, field_at, reference_to}
use Rattle.node_arena.proofs.PlacesApart.{field_at-block_place, same_field, node_place-reference_to}
use Rattle.normal_traits.specs.World.{World}
use Rattle.normal_traits.specs.Laws.{IsGoodEntry, IsGoodOffer, IsGoodStore}
use Rattle.tree_help.specs.declared.states.TheConstants.{INSERTING, DELETING}
use Rattle.ellen_tree_form.specs.declared.states.TreeSearch.{TreeSearch}
use Rattle.ellen_tree_form.specs.declared.states.TreeSearch.TheVariants.{SetReady, RemReady}
use Rattle.ellen_tree_form.specs.declared.states.Passed.{Passed}
use Rattle.ellen_tree_form.specs.Words.{child_at, child_field, update_at, leaf_key_at, leaf_value_at, is_versioned, may_list}
use Rattle.ellen_tree_form.specs.Search.{IsReady, block_for, flag_entry, greater, leaf_of, leaf_on, offered, set_stores}
use Rattle.ellen_tree_form.specs.Shape.{Shape, IsLeaf, TOP}
use Rattle.ellen_tree_form.specs.Knowledge.{Knows, HasPassed, IsClear}
use Rattle.ellen_tree_form.specs.Form.{tree_form}
use Rattle.ellen_tree_form.proofs.Fields.{field_word}
use Rattle.ellen_tree_form.proofs.Asks.{update_versioned, update_listed}
use Rattle.ellen_tree_form.proofs.Order.SwingWays.{field_small}
use Rattle.client_lemmas.proofs.Offers.{one_entry}

-- ---- stores by their fields

-- the stores of these words into these fields of a block
abbrev placed : ℕ → List (ℕ × ℕ) → List (ℕ × ℕ)
placed block [] = []
placed block (store ∷ stores) = (block_place block store.0, store.1) ∷ placed block stores

-- no other store is into this field, and all are fields
abbrev others : ℕ → List (ℕ × ℕ) → Bool
others field [] = true
others field (store ∷ stores) = (not (eqb field store.0) && ltb store.0 32) && others field stores

abbrev differ : List (ℕ × ℕ) → Bool
differ [] = true
differ (store ∷ stores) = (ltb store.0 32 && others store.0 stores) && differ stores

others_apart : (block field : ℕ) (stores : List (ℕ × ℕ)) → field < 32 → others field stores ≡ true → All (λ (b : ℕ × ℕ). block_place block field ≢ b.0) (placed block stores)
others_apart block field [] small e = All-nil (λ (b : ℕ × ℕ). block_place block field ≢ b.0)
others_apart block field (store ∷ stores) small e =
    let parts = and_parts (not (eqb field store.0) && ltb store.0 32) (others field stores) e in
    let here = and_parts (not (eqb field store.0)) (ltb store.0 32) parts.0 in
    All-cons (λ (b : ℕ × ℕ). block_place block field ≢ b.0) (block_place block store.0, store.1) (placed block stores)
    (λ same. true≢false (sym here.0 ∙ ap not (eq-eqb field store.0 (same_field block field block store.0 small (ltb-true store.0 32 here.1) same))))
    (others_apart block field stores small parts.1)

all_apart : (block : ℕ) (stores : List (ℕ × ℕ)) → differ stores ≡ true → AllPairs (λ (a b : ℕ × ℕ). a.0 ≢ b.0) (placed block stores)
all_apart block [] e = λ i j d order low. absurd (omega (arith, order, low))
all_apart block (store ∷ stores) e =
    let parts = and_parts (ltb store.0 32 && others store.0 stores) (differ stores) e in
    let here = and_parts (ltb store.0 32) (others store.0 stores) parts.0 in
    AllPairs-cons (λ (a b : ℕ × ℕ). a.0 ≢ b.0) (block_place block store.0, store.1) (placed block stores) (others_apart block store.0 stores (ltb-true store.0 32 here.0) here.1) (all_apart block stores parts.1)

-- a word that may be stored into a field: child words and update words are small
abbrev IsGoodField : ℕ × ℕ → Type 0
IsGoodField store = (12 ≤ store.0) × (store.0 < 32) × (store.1 < 2 ^ 64) × (((store.0 < 19) ⊎ (21 < store.0)) ⊎ (store.1 < 2 ^ 24))

field_not : (block field at : ℕ) → field < 32 → (field < 19) ⊎ (21 < field) → 18 < at → at < 22 → eqb (field_at (block_place block field)) at ≡ false
field_not block field at small (inl low) some few = ne_eqb (field_at (block_place block field)) at (λ e. omega (arith, low, some, e, field_at-block_place block field small))
field_not block field at small (inr high) some few = ne_eqb (field_at (block_place block field)) at (λ e. omega (arith, high, few, e, field_at-block_place block field small))

and_none : (a : Bool) → (a && (false || false) || a && false) ≡ false
and_none true = refl
and_none false = refl

pub plain : (block field : ℕ) → field < 32 → (field < 19) ⊎ (21 < field) → is_versioned (block_place block field) ≡ false
plain block field small far =
    rw (field_not block field 19 small far (omega arith) (omega arith), field_not block field 20 small far (omega arith) (omega arith), field_not block field 21 small far (omega arith) (omega arith))
    (and_none (nat_le FIRST_WORDS (block_place block field)))

good : (block : ℕ) (store : ℕ × ℕ) → IsGoodField store → IsGoodStore tree_form block (block_place block store.0, store.1)
good block store is = record {
  field = store.0;
  behind = is.0;
  within = is.1;
  place = refl;
  word = is.2;
  versioned = λ e. elim is.3 [
    | inl far ↦ absurd (true≢false (sym e ∙ plain block store.0 is.1 far))
    | inr small ↦ small
  ];
}

-- each of the stores is good
abbrev EachGood : List (ℕ × ℕ) → Type 0
EachGood [] = Unit {0}
EachGood (store ∷ stores) = IsGoodField store × EachGood stores

all_good : (block : ℕ) (stores : List (ℕ × ℕ)) → EachGood stores → All (IsGoodStore tree_form block) (placed block stores)
all_good block [] each = All-nil (IsGoodStore tree_form block)
all_good block (store ∷ stores) each = All-cons (IsGoodStore tree_form block) (block_place block store.0, store.1) (placed block stores) (good block store each.0) (all_good block stores each.1)

-- the key of a command
pub key_limit : (op : Op) → IsCommandOf map_object op → op.key < KEY_LIMIT
key_limit op command = by_case (or_cases (eqb op.code SET && ltb op.key KEY_LIMIT) ((eqb op.code REM || eqb op.code GET) && (ltb op.key KEY_LIMIT && eqb op.value 0)) command.command)
  where
    by_case : ((eqb op.code SET && ltb op.key KEY_LIMIT) ≡ true) ⊎ (((eqb op.code REM || eqb op.code GET) && (ltb op.key KEY_LIMIT && eqb op.value 0)) ≡ true) → op.key < KEY_LIMIT
    by_case (inl set) = ltb-true op.key KEY_LIMIT (and_parts (eqb op.code SET) (ltb op.key KEY_LIMIT) set).1
    by_case (inr other) = ltb-true op.key KEY_LIMIT (and_parts (ltb op.key KEY_LIMIT) (eqb op.value 0) (and_parts (eqb op.code REM || eqb op.code GET) (ltb op.key KEY_LIMIT && eqb op.value 0) other).1).0

place_small : (node field : ℕ) → node < 2 ^ 17 → field < 32 → block_place node field < 2 ^ 64
unfolding block_place
place_small node field small low = omega (arith, small, low)

-- ---- the entry

module _ (world : World) (shape : Shape world) where
  block_small : (op : Op) (block : ℕ) → block < 2 ^ 17 → block_for op block < 2 ^ 17
  block_small op block small = by_test (may_list op)
    where
      by_test : (b : Bool) → (if b then block else 0) < 2 ^ 17
      by_test true = small
      by_test false = omega arith

  good_entry : (since key : ℕ) (at : Passed) (op : Op) (block state : ℕ) → block < 2 ^ 17 → state < 4 → HasPassed world since key at → IsClear at → IsGoodEntry tree_form world (flag_entry at (block_for op block) state)
  good_entry since key at op block state small low has clear = record {
    word = field_word world at.node 21 (shape.stored at.node has.is).used (omega arith) (omega arith);
    versioned = update_versioned at.node;
    listable = update_listed at.node;
    clear = clear.clear;
    seen = has.seen;
    changed = (4 * block_for op block + state, omega (arith, block_small op block small, low), refl);
  }

  node_small : (since key : ℕ) (at : Passed) → HasPassed world since key at → at.node < 2 ^ 17
  node_small since key at has = (shape.stored at.node has.is).small

  -- ---- a removal

  rem_good : (since key : ℕ) (above last : Passed) (op : Op) (block : ℕ) → block < 2 ^ 17 → HasPassed world since key above → HasPassed world since key last → IsClear above
      → IsGoodOffer tree_form world block (offered (RemReady above last) op block)
  rem_good since key above last op block small has_above has_last clear =
      one_entry tree_form world block (flag_entry above (block_for op block) DELETING) (placed block fields) (good_entry since key above op block DELETING small (omega arith) has_above clear)
      (all_good block fields (
        (omega arith, omega arith, place_small last.node 21 (node_small since key last has_last) (omega arith), inl (inr (omega arith))),
        (
          (omega arith, omega arith, has_last.fits.0, inl (inr (omega arith))),
          (
            (omega arith, omega arith, place_small above.node (child_field above.left) (node_small since key above has_above) (field_small above.left), inl (inr (omega arith))),
            (
              (omega arith, omega arith, has_above.fits.1, inl (inr (omega arith))),
              (
                (omega arith, omega arith, place_small last.node (child_field (not last.left)) (node_small since key last has_last) (field_small (not last.left)), inl (inr (omega arith))),
                tt,
              ),
            ),
          ),
        ),
      ))
      (all_apart block fields refl) (omega arith)
    where
      fields : List (ℕ × ℕ)
      fields = (27, update_at last.node) ∷ (28, last.update) ∷ (29, child_at above.node above.left) ∷ (30, above.child) ∷ (31, child_at last.node (not last.left)) ∷ []

  -- ---- an insertion

  pub leaf_bounds : (leaf : ℕ) → IsLeaf world.changes leaf → (world.words (leaf_key_at leaf) < TOP) × (world.words (leaf_value_at leaf) < 2 ^ 32)
  leaf_bounds leaf is = by_name is.names
    where
      by_name : (leaf ≡ reference_to is.block 1) ⊎ (leaf ≡ reference_to is.block 3) → (world.words (leaf_key_at leaf) < TOP) × (world.words (leaf_value_at leaf) < 2 ^ 32)
      by_name (inl one) = subst (λ r. (world.words (leaf_key_at r) < TOP) × (world.words (leaf_value_at r) < 2 ^ 32)) (sym one) ((shape.stored is.block is.node).leaf_keys.0, (shape.stored is.block is.node).values.0)
      by_name (inr three) = subst (λ r. (world.words (leaf_key_at r) < TOP) × (world.words (leaf_value_at r) < 2 ^ 32)) (sym three) ((shape.stored is.block is.node).leaf_keys.1, (shape.stored is.block is.node).values.1)

  greater_small : (key other : ℕ) → key < 2 ^ 32 → other < 2 ^ 32 → greater key other < 2 ^ 64
  greater_small key other small small' = by_test (nat_lt key other)
    where
      by_test : (b : Bool) → (if b then other else key) < 2 ^ 64
      by_test true = omega (arith, small')
      by_test false = omega (arith, small)

  leaf_small : (new : Bool) (block : ℕ) → block < 2 ^ 17 → leaf_on new block < 2 ^ 24
  leaf_small true block small = omega (arith, small)
  leaf_small false block small = omega (arith, small)

  set_good : (since : ℕ) (last : Passed) (op : Op) (key value block : ℕ) → block < 2 ^ 17 → op.key < 2 ^ 32 → op.value < 2 ^ 32 → key < 2 ^ 32 → value < 2 ^ 32 → HasPassed world since op.key last → IsClear last
      → IsGoodOffer tree_form world block (offered (SetReady last key value) op block)
  set_good since last op key value block small key_small value_small old_key old_value has clear =
      one_entry tree_form world block (flag_entry last (block_for op block) INSERTING) (set_stores last op key value block) (good_entry since op.key last op block INSERTING small (omega arith) has clear)
      (subst (All (IsGoodStore tree_form block)) (sym by_field) (all_good block fields (
        (omega arith, omega arith, omega (arith, key_small), inl (inl (omega arith))),
        (
          (omega arith, omega arith, omega (arith, value_small), inl (inl (omega arith))),
          (
            (omega arith, omega arith, omega (arith, old_key), inl (inr (omega arith))),
            (
              (omega arith, omega arith, omega (arith, old_value), inl (inr (omega arith))),
              (
                (omega arith, omega arith, greater_small op.key key key_small old_key, inl (inl (omega arith))),
                (
                  (omega arith, omega arith, omega (arith, leaf_small (nat_lt op.key key) block small), inr (leaf_small (nat_lt op.key key) block small)),
                  (
                    (omega arith, omega arith, omega (arith, leaf_small (not (nat_lt op.key key)) block small), inr (leaf_small (not (nat_lt op.key key)) block small)),
                    (
                      (omega arith, omega arith, omega arith, inr (omega arith)),
                      (
                        (omega arith, omega arith, place_small last.node (child_field last.left) (node_small since op.key last has) (field_small last.left), inl (inr (omega arith))),
                        (
                          (omega arith, omega arith, has.fits.1, inl (inr (omega arith))),
                          tt,
                        ),
                      ),
                    ),
                  ),
                ),
              ),
            ),
          ),
        ),
      )))
      (subst (AllPairs (λ (a b : ℕ × ℕ). a.0 ≢ b.0)) (sym by_field) (all_apart block fields refl)) (omega arith)
    where
      fields : List (ℕ × ℕ)
      fields = (12, op.key) ∷ (13, op.value) ∷ (22, key) ∷ (23, value) ∷ (17, greater op.key key) ∷ (19, leaf_on (nat_lt op.key key) block) ∷ (20, leaf_on (not (nat_lt op.key key)) block) ∷ (21, 0)
          ∷ (27, child_at last.node last.left) ∷ (28, last.child) ∷ []

      by_field : set_stores last op key value block ≡ placed block fields
      by_field = rw (
        node_place-reference_to block 1 0 (omega arith) (omega arith),
        node_place-reference_to block 1 1 (omega arith) (omega arith),
        node_place-reference_to block 3 0 (omega arith) (omega arith),
        node_place-reference_to block 3 1 (omega arith) (omega arith),
      ) refl

  -- ---- any ready search

  pub offers : (search : TreeSearch) (op : Op) (since block : ℕ) → IsCommandOf map_object op → Knows search op world since → IsReady search → block < 2 ^ 17 → IsGoodOffer tree_form world block (offered search op block)
  offers (SetReady last key value) op since block command knows ready small =
      let bounds = leaf_bounds (leaf_of last) knows.learnt.0.told.is in
      set_good since last op key value block small (omega (arith, key_limit op command)) (omega (arith, command.value)) (omega (arith, bounds.0, knows.learnt.3)) (omega (arith, bounds.1, knows.learnt.5)) knows.learnt.0.passed knows.learnt.2
  offers (RemReady above last) op since block command knows ready small = rem_good since op.key above last op block small knows.learnt.2.0 knows.learnt.0.passed knows.learnt.3
  offers _ op since block command knows ready small = absurd ready
