-- Places of blocks: which are a client's words, and which places of the first nodes differ.
use Rattle.std.proofs.Common.{◌≡◌, ◌≢◌, ℕ, ◌+◌, ◌<◌, ◌≤◌, Bool, true, false, not, eqb, leb, ◌||◌, ◌&&◌, refl, ap, ◌∙◌, arith}
use Rattle.std.proofs.lemmas.Bool.{false≢true, le-leb, ne_eqb}
use Rattle.node_arena.specs.declared.places.TheConstants.{FIRST_WORDS}
use Rattle.node_arena.specs.MemoryMap.{block_place, node_place, block_at, field_at, reference_to, NamesNode, is_root_place}
use Rattle.node_arena.proofs.PlacesApart.{block_place_behind, block_at-block_place, field_at-block_place, node_place-reference_to, node_place_behind, same_node, same_node_field}
use Rattle.normal_traits.specs.World.{World, is_state, is_word}

-- ---- a client's words

in_used : (a c : Bool) → (a || (true && true && (c || true))) ≡ true
in_used true c = refl
in_used false true = refl
in_used false false = refl

-- a field of a used block is a client's word, but for the states of its entries
pub field_word : (is_root : ℕ → Bool) (world : World) (block field : ℕ) → field < 32 → world.used block ≡ true → not (is_state field) ≡ true → is_word is_root world (block_place block field) ≡ true
field_word is_root world block field small used plain =
    let behind : leb FIRST_WORDS (block_place block field) ≡ true = le-leb FIRST_WORDS (block_place block field) (block_place_behind block field) in
    rw (behind, block_at-block_place block field small, field_at-block_place block field small, used, plain) (in_used (is_root (block_place block field) && is_root_place (block_place block field)) (eqb block 0))

-- so is a field behind its notes
pub behind_notes : (is_root : ℕ → Bool) (world : World) (block field : ℕ) → field < 32 → world.used block ≡ true → 12 ≤ field → is_word is_root world (block_place block field) ≡ true
behind_notes is_root world block field small used high = field_word is_root world block field small used (rw (ne_eqb field 9 (λ e. omega (arith, high, e)), ne_eqb field 10 (λ e. omega (arith, high, e))) refl)

-- and a field of its first node
pub node_word : (is_root : ℕ → Bool) (world : World) (block field : ℕ) → field < 5 → world.used block ≡ true → is_word is_root world (node_place (reference_to block 1) field) ≡ true
node_word is_root world block field small used =
    ap (is_word is_root world) (node_place-reference_to block 1 field (omega arith) (omega arith))
    ∙ behind_notes is_root world block (12 + field) (omega (arith, small)) used (omega arith)

more_used : (first used more plain : Bool) (behind : Bool) → (used ≡ true → more ≡ true) → (first || (behind && used && plain)) ≡ true → (first || (behind && more && plain)) ≡ true
more_used true used more plain behind grows e = refl
more_used false used more plain false grows e = e
more_used false true more plain true grows e = rw (grows refl) e
more_used false false more plain true grows e = absurd (false≢true e)

-- a place that is a client's stays one, as blocks stay used
pub word_still : (is_root : ℕ → Bool) (world after : World) → ((block : ℕ) → world.used block ≡ true → after.used block ≡ true) → (place : ℕ) → is_word is_root world place ≡ true → is_word is_root after place ≡ true
word_still is_root world after grows place some =
    let block = block_at place in
    more_used (is_root place && is_root_place place) (world.used block) (after.used block) (eqb block 0 || not (is_state (field_at place))) (leb 32 place) (grows block) some

-- ---- the places of first nodes

-- they are behind the first words
pub behind_first : (reference field place : ℕ) → place < 32 → node_place reference field ≢ place
behind_first reference field place low e = omega (arith, node_place_behind reference field)

-- the block and the field of such a place
pub block_of_place : (block field : ℕ) → field < 5 → block_at (node_place (reference_to block 1) field) ≡ block
block_of_place block field small = ap block_at (node_place-reference_to block 1 field (omega arith) (omega arith)) ∙ block_at-block_place block (12 + field) (omega (arith, small))

pub field_of_place : (block field : ℕ) → field < 5 → field_at (node_place (reference_to block 1) field) ≡ 12 + field
field_of_place block field small = ap field_at (node_place-reference_to block 1 field (omega arith) (omega arith)) ∙ field_at-block_place block (12 + field) (omega (arith, small))

names_first : (block : ℕ) → NamesNode (reference_to block 1)
names_first block e = omega (arith, e)

-- places of one field in two nodes, or of two fields, differ
pub apart_nodes : (block other field at : ℕ) → field < 5 → at < 5 → block ≢ other → node_place (reference_to block 1) field ≢ node_place (reference_to other 1) at
apart_nodes block other field at small small' differ e =
    differ (omega (arith, same_node (reference_to block 1) field (reference_to other 1) at small small' (names_first block) (names_first other) e))

pub apart_fields : (block other field at : ℕ) → field < 5 → at < 5 → field ≢ at → node_place (reference_to block 1) field ≢ node_place (reference_to other 1) at
apart_fields block other field at small small' differ e =
    differ (same_node_field (reference_to block 1) field (reference_to other 1) at small small' (names_first block) (names_first other) e)
