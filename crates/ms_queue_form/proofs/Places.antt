-- The places of the queue: which are versioned.
use Rattle.std.proofs.Common.{◌≡◌, ℕ, ◌<◌, true, false, eqb, ◌||◌, refl, arith}
use Rattle.std.proofs.lemmas.Bool.{ne_eqb, eq-eqb, le-leb, or_right}
use Rattle.node_arena.specs.declared.places.TheConstants.{NODE_VALUE, NODE_NEXT}
use Rattle.node_arena.specs.MemoryMap.{block_place, node_place, field_at, reference_to}
use Rattle.node_arena.proofs.PlacesApart.{block_place_behind, field_at-block_place, node_place_behind}
use Rattle.ms_queue_form.specs.Chain.{is_versioned, is_listable, is_next}
use Rattle.client_lemmas.proofs.Places.{field_of_place}

-- next words of the chain are versioned and may be listed, values are neither
pub next_is : (block : ℕ) → is_next (node_place (reference_to block 1) NODE_NEXT) ≡ true
next_is block =
    let place = node_place (reference_to block 1) NODE_NEXT in
    rw (le-leb 32 place (node_place_behind (reference_to block 1) NODE_NEXT), eq-eqb (field_at place) 14 (field_of_place block NODE_NEXT (omega arith))) refl

pub next_versioned : (block : ℕ) → is_versioned (node_place (reference_to block 1) NODE_NEXT) ≡ true
next_versioned block =
    let place = node_place (reference_to block 1) NODE_NEXT in
    or_right (eqb place 20 || eqb place 21) (is_next place) (next_is block)

pub next_listable : (block : ℕ) → is_listable (node_place (reference_to block 1) NODE_NEXT) ≡ true
next_listable block =
    let place = node_place (reference_to block 1) NODE_NEXT in
    or_right (eqb place 20) (is_next place) (next_is block)

pub value_not_versioned : (block : ℕ) → is_versioned (node_place (reference_to block 1) NODE_VALUE) ≡ false
value_not_versioned block =
    let place = node_place (reference_to block 1) NODE_VALUE in
    let low = node_place_behind (reference_to block 1) NODE_VALUE in
    let at = field_of_place block NODE_VALUE (omega arith) in
    rw (ne_eqb place 20 (λ e. omega (arith, low)), ne_eqb place 21 (λ e. omega (arith, low)), ne_eqb (field_at place) 14 (λ e. omega (arith, at)), le-leb 32 place low) refl

-- a note of a block is no versioned word
pub note_not_versioned : (block field : ℕ) → field < 12 → is_versioned (block_place block field) ≡ false
note_not_versioned block field low =
    let place = block_place block field in
    let behind = block_place_behind block field in
    let at = field_at-block_place block field (omega (arith, low)) in
    rw (ne_eqb place 20 (λ e. omega (arith, behind)), ne_eqb place 21 (λ e. omega (arith, behind)), ne_eqb (field_at place) 14 (λ e. omega (arith, at, low)), le-leb 32 place behind) refl
