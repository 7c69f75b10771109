-- Places of different blocks, fields and nodes differ, for proofs that leave the memory map closed.
use Rattle.std.proofs.Common.{◌≡◌, ℕ, ◌+◌, ◌-◌, ◌*◌, ◌/◌, ◌%◌, ◌<◌, ◌≤◌, ◌⊎◌, inl, inr, refl, arith}
use Rattle.std.proofs.lemmas.Bool.Decides.{nat_tests}
use Rattle.node_arena.specs.MemoryMap.{words_of, block_place, node_place, reference_to, NamesNode, node_named, block_at, field_at, MayBeClients}

-- ---- blocks

pub block_place_behind : (block field : ℕ) → 32 ≤ block_place block field
unfolding block_place
block_place_behind block field = omega arith

pub block_place_inside : (cap block field : ℕ) → block ≤ cap → field < 32 → block_place block field < words_of cap
unfolding block_place
block_place_inside cap block field within small = omega arith

pub block_at-block_place : (block field : ℕ) → field < 32 → block_at (block_place block field) ≡ block
unfolding block_place block_at
block_at-block_place block field small = omega arith

pub field_at-block_place : (block field : ℕ) → field < 32 → field_at (block_place block field) ≡ field
unfolding block_place field_at
field_at-block_place block field small = omega arith

-- each place behind the first words is that of one field of one block
pub place_split : (place : ℕ) → 32 ≤ place → block_place (block_at place) (field_at place) ≡ place
unfolding block_place block_at field_at
place_split place behind = omega arith

pub field_at_below : (place : ℕ) → field_at place < 32
unfolding field_at
field_at_below place = omega arith

pub same_block : (block field other at : ℕ) → field < 32 → at < 32 → block_place block field ≡ block_place other at → block ≡ other
unfolding block_place
same_block block field other at small small' e = omega arith

pub same_field : (block field other at : ℕ) → field < 32 → at < 32 → block_place block field ≡ block_place other at → field ≡ at
unfolding block_place
same_field block field other at small small' e = omega arith

-- ---- nodes

pub node_named_below : (reference : ℕ) → node_named reference < 4
unfolding node_named
node_named_below reference = grind (arith, nat_tests)

pub node_named_some : (reference : ℕ) → 0 < node_named reference
unfolding node_named
node_named_some reference = grind (arith, nat_tests)

pub node_named-reference_to : (block node : ℕ) → 0 < node → node < 4 → node_named (reference_to block node) ≡ node
unfolding node_named
node_named-reference_to block node some below =
    let left : (4 * block + node) % 4 ≡ node = omega arith in
    rw left (grind (arith, nat_tests))

pub block-reference_to : (block node : ℕ) → node < 4 → reference_to block node / 4 ≡ block
block-reference_to block node below = omega arith

-- a reference that names a node is the reference to it
pub reference_split : (reference : ℕ) → NamesNode reference → reference_to (reference / 4) (node_named reference) ≡ reference
unfolding node_named
reference_split reference names = grind (arith, nat_tests)

-- the field of a block that a node's field is
pub node_field_below : (reference field : ℕ) → field < 5 → 12 + 5 * (node_named reference - 1) + field < 27
node_field_below reference field small = omega (arith, node_named_below reference)

-- a node of a block has five fields from field 12 on
pub node_place-reference_to : (block node field : ℕ) → 0 < node → node < 4 → node_place (reference_to block node) field ≡ block_place block (12 + 5 * (node - 1) + field)
unfolding node_place
node_place-reference_to block node field some below =
    rw (block-reference_to block node below, node_named-reference_to block node some below) refl

pub block_at-node_place : (reference field : ℕ) → field < 5 → block_at (node_place reference field) ≡ reference / 4
unfolding node_place
block_at-node_place reference field small =
    block_at-block_place (reference / 4) (12 + 5 * (node_named reference - 1) + field) (omega (arith, node_field_below reference field small))

pub field_at-node_place : (reference field : ℕ) → field < 5 → field_at (node_place reference field) ≡ 12 + 5 * (node_named reference - 1) + field
unfolding node_place
field_at-node_place reference field small =
    field_at-block_place (reference / 4) (12 + 5 * (node_named reference - 1) + field) (omega (arith, node_field_below reference field small))

pub same_node : (reference field other at : ℕ) → field < 5 → at < 5 → NamesNode reference → NamesNode other → node_place reference field ≡ node_place other at → reference ≡ other
unfolding node_place block_place node_named
same_node reference field other at small small' names names' e = grind (arith, nat_tests)

pub same_node_field : (reference field other at : ℕ) → field < 5 → at < 5 → NamesNode reference → NamesNode other → node_place reference field ≡ node_place other at → field ≡ at
unfolding node_place block_place node_named
same_node_field reference field other at small small' names names' e = grind (arith, nat_tests)

pub node_place_behind : (reference field : ℕ) → 32 ≤ node_place reference field
unfolding node_place
node_place_behind reference field = block_place_behind (reference / 4) (12 + 5 * (node_named reference - 1) + field)

pub node_place_inside : (cap reference field : ℕ) → reference / 4 ≤ cap → field < 5 → node_place reference field < words_of cap
unfolding node_place
node_place_inside cap reference field within small =
    block_place_inside cap (reference / 4) (12 + 5 * (node_named reference - 1) + field) within (omega (arith, node_field_below reference field small))

-- ---- the first words

-- the words of the engine, before the roots and behind them, are at no place of a structure
pub engines_out : (place : ℕ) → (place < 20) ⊎ ((24 ≤ place) × (place < 32)) → ¬ MayBeClients place
engines_out place (inl low) (inl root) = omega (arith, low, root.0)
engines_out place (inl low) (inr behind) = omega (arith, low, behind)
engines_out place (inr high) (inl root) = omega (arith, high.0, root.1)
engines_out place (inr high) (inr behind) = omega (arith, high.1, behind)
