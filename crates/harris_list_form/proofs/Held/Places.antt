-- The places of lists: which are a client's words, which are versioned, and which differ.
use Rattle.std.proofs.Common.{◌≡◌, ◌≢◌, ℕ, ◌+◌, ◌-◌, ◌*◌, ◌/◌, ◌<◌, ◌≤◌, Bool, true, false, not, eqb, leb, ltb, ◌||◌, ◌&&◌, List, refl, sym, ap, ◌∙◌, arith}
use Rattle.std.proofs.lemmas.Bool.{ne_eqb, eq-eqb, le-leb, lt-ltb, le-ltb, cond-true, cond-false, or_left, or_right}
use Rattle.node_arena.specs.MemoryMap.{block_place, block_at, field_at, reference_to}
use Rattle.node_arena.proofs.PlacesApart.{node_place-reference_to, block-reference_to, field_at-block_place}
use Rattle.normal_traits.specs.World.{Change, World, is_state, is_word, no_root}
use Rattle.harris_list_form.specs.Lists.{Lists, AreLists, is_versioned, is_next}
use Rattle.harris_list_form.specs.Nodes.{next_at, key_at, node_rank, place_rank, rank_of, LAST_RANK}
use Rattle.harris_list_form.specs.Path.{stands}
use Rattle.node_arena.specs.declared.places.TheConstants.{NODE_KEY, NODE_NEXT}
use Rattle.client_lemmas.proofs.Places.{node_word, block_of_place, field_of_place}

-- ---- the places of nodes as numbers

pub next_is : (block : ℕ) → next_at block ≡ 46 + 32 * block
unfolding block_place
next_is block = omega (arith, node_place-reference_to block 1 2 (omega arith) (omega arith))

pub key_is : (block : ℕ) → key_at block ≡ 44 + 32 * block
unfolding block_place
key_is block = omega (arith, node_place-reference_to block 1 0 (omega arith) (omega arith))

pub second_block : block_place 1 0 ≡ 64
unfolding block_place
second_block = refl

note_behind : (block field : ℕ) → 0 < block → 64 ≤ block_place block field
unfolding block_place
note_behind block field some = omega (arith, some)

block_number : (place : ℕ) → block_at place ≡ (place - 32) / 32
unfolding block_at
block_number place = refl

pub block_of_next : (block : ℕ) → block_at (next_at block) ≡ block
block_of_next block = block_of_place block NODE_NEXT (omega arith)

pub same_next : (block other : ℕ) → next_at block ≡ next_at other → block ≡ other
same_next block other e = omega (arith, e, next_is block, next_is other)

-- ---- ranks

pub rank_start : (changes : List Change) (place : ℕ) → place < block_place 1 0 → place_rank changes place ≡ 0
rank_start changes place low = cond-true (ltb place (block_place 1 0)) 0 (node_rank changes (block_at place)) (lt-ltb place (block_place 1 0) low)

pub rank_next : (changes : List Change) (block : ℕ) → 0 < block → place_rank changes (next_at block) ≡ node_rank changes block
rank_next changes block some =
    cond-false (ltb (next_at block) (block_place 1 0)) 0 (node_rank changes (block_at (next_at block))) (le-ltb (next_at block) (block_place 1 0) (omega (arith, second_block, next_is block, some)))
    ∙ ap (node_rank changes) (block_of_next block)

pub stands_start : (path : ℕ → Bool) (place : ℕ) → place < block_place 1 0 → stands path place ≡ true
stands_start path place low = or_left (ltb place (block_place 1 0)) (path (block_at place)) (lt-ltb place (block_place 1 0) low)

pub stands_next : (path : ℕ → Bool) (block : ℕ) → 0 < block → stands path (next_at block) ≡ path block
stands_next path block some =
    ap (λ b. b || path (block_at (next_at block))) (le-ltb (next_at block) (block_place 1 0) (omega (arith, second_block, next_is block, some)))
    ∙ ap path (block_of_next block)

pub rank_named : (changes : List Change) (block : ℕ) → rank_of changes (reference_to block 1) ≡ node_rank changes block
rank_named changes block =
    cond-false (eqb (reference_to block 1) 0) LAST_RANK (node_rank changes (reference_to block 1 / 4)) (ne_eqb (reference_to block 1) 0 (λ e. omega arith))
    ∙ ap (node_rank changes) (block-reference_to block 1 (omega arith))

-- a reference that is not null has the rank of its node
pub rank_some : (changes : List Change) (reference : ℕ) → reference ≢ 0 → rank_of changes reference ≡ node_rank changes (reference / 4)
rank_some changes reference some = cond-false (eqb reference 0) LAST_RANK (node_rank changes (reference / 4)) (ne_eqb reference 0 some)

-- ---- a client's words

pub next_word : (world : World) (block : ℕ) → world.used block ≡ true → is_word no_root world (next_at block) ≡ true
next_word world block used = node_word no_root world block NODE_NEXT (omega arith) used

pub key_word : (world : World) (block : ℕ) → world.used block ≡ true → is_word no_root world (key_at block) ≡ true
key_word world block used = node_word no_root world block NODE_KEY (omega arith) used

in_first : (c d : Bool) → c ≡ true → d ≡ true → (e z : Bool) → e ≡ true → (c && d && (e || z)) ≡ true
in_first c d behind used e z first = rw (behind, used, first) refl

module _ (lists : Lists) (are : AreLists lists) where
  pub start_word : (world : World) (place : ℕ) → world.used 0 ≡ true → lists.is_start place ≡ true → is_word no_root world place ≡ true
  start_word world place used is =
      let low = are.behind place is in
      let block : block_at place ≡ 0 = omega (arith, block_number place, low, are.within place is, second_block) in
      in_first (leb 32 place) (world.used (block_at place)) (le-leb 32 place low) (ap world.used block ∙ used)
      (eqb (block_at place) 0) (not (is_state (field_at place))) (eq-eqb (block_at place) 0 block)

  -- beginnings and next words are versioned, keys and the notes of blocks are not
  pub start_versioned : (place : ℕ) → lists.is_start place ≡ true → is_versioned lists place ≡ true
  start_versioned place is = or_left (lists.is_start place) (is_next place) is

  pub next_versioned : (block : ℕ) → is_versioned lists (next_at block) ≡ true
  next_versioned block =
      or_right (lists.is_start (next_at block)) (is_next (next_at block))
      (rw (le-leb 32 (next_at block) (omega (arith, next_is block)), eq-eqb (field_at (next_at block)) 14 (field_of_place block NODE_NEXT (omega arith))) refl)

  -- only block 0 has beginnings
  pub not_start : (place : ℕ) → 64 ≤ place → lists.is_start place ≡ false
  not_start place high = by_test (lists.is_start place) refl
    where
      by_test : (is : Bool) → lists.is_start place ≡ is → lists.is_start place ≡ false
      by_test true e = absurd (omega (arith, are.within place e, second_block, high))
      by_test false e = e

  plain_field : (place field : ℕ) → 64 ≤ place → field_at place ≡ field → field ≢ 14 → is_versioned lists place ≡ false
  plain_field place field high at other =
      rw (not_start place high, ne_eqb (field_at place) 14 (λ e. other (sym at ∙ e)), le-leb 32 place (omega (arith, high))) refl

  pub key_plain : (block : ℕ) → 0 < block → is_versioned lists (key_at block) ≡ false
  key_plain block some = plain_field (key_at block) 12 (omega (arith, key_is block, some)) (field_of_place block NODE_KEY (omega arith)) (λ e. omega (arith, e))

  pub note_plain : (block field : ℕ) → 0 < block → field < 12 → is_versioned lists (block_place block field) ≡ false
  note_plain block field some low = plain_field (block_place block field) field (note_behind block field some) (field_at-block_place block field (omega (arith, low))) (λ e. omega (arith, low, e))

  pub start_not_next : (place block : ℕ) → lists.is_start place ≡ true → 0 < block → place ≢ next_at block
  start_not_next place block is some e = omega (arith, are.within place is, second_block, e, next_is block, some)
