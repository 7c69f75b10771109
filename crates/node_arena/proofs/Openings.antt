-- What follows for a structure's opening words, and that those of the four clients are such.
use Rattle.std.proofs.Common.{◌≡◌, ℕ, ◌^◌, ◌<◌, ◌≤◌, ◌||◌, ◌==◌, Bool, true, false, if◌then◌else◌, refl, ap, inl, inr, ◌⊎◌, arith}
use Rattle.std.proofs.lemmas.Bool.Decides.{nat_tests}
use Rattle.std.proofs.lemmas.Grind.{common_steps}
use Rattle.lin_report.specs.declared.calls.Client.TheVariants as client
use Rattle.word_fields.specs.Versioned.{versioned_word, versioned_bit, versioned_version}
use Rattle.node_arena.specs.declared.places.TheConstants.{HEAD, TAIL}
use Rattle.node_arena.specs.MemoryMap.{block_place, is_root_place}
use Rattle.node_arena.specs.Opening.{IsOpening, dummy_word, opening_word, ClientsOpen}

-- ---- any structure

-- a small word has its bit clear and version 0
pub small_bit : (word : ℕ) → word < 2 ^ 24 → versioned_bit word ≡ 0
unfolding versioned_bit
small_bit word small = omega (arith, small)

pub small_version : (word : ℕ) → word < 2 ^ 24 → versioned_version word ≡ 0
unfolding versioned_version
small_version word small = omega (arith, small)

second_block : block_place 1 0 ≡ 64
unfolding block_place
second_block = refl

low_root : (place : ℕ) → place < 20 → is_root_place place ≡ false
low_root place low = grind (arith, nat_tests)

high_root : (place : ℕ) → 24 ≤ place → is_root_place place ≡ false
high_root place high = grind (arith, nat_tests)

module _ (opening : ℕ → ℕ) (opens : IsOpening opening) where
  -- the words of the engine are 0: those before the roots, and those behind them
  pub opens_zero_at : (place : ℕ) → (place < 20) ⊎ ((24 ≤ place) × (place < 32)) → opening place ≡ 0
  opens_zero_at place (inl low) = opens.zero_first place (omega (arith, low)) (low_root place low)
  opens_zero_at place (inr high) = opens.zero_first place high.1 (high_root place high.0)

  -- so are those behind block 0
  pub opens_zero_behind : (place : ℕ) → 64 ≤ place → opening place ≡ 0
  opens_zero_behind place behind = opens.zero_behind place (omega (arith, second_block, behind))

  -- each has its bit clear, and version 0
  pub opens_clear : (place : ℕ) → versioned_bit (opening place) ≡ 0
  opens_clear place = small_bit (opening place) (opens.small place)

  pub opens_first_version : (place : ℕ) → versioned_version (opening place) ≡ 0
  opens_first_version place = small_version (opening place) (opens.small place)

-- ---- the four clients

dummy_small : dummy_word < 2 ^ 24
unfolding versioned_word
dummy_small = omega arith

queue_small : (b : Bool) → (if b then dummy_word else 0) < 2 ^ 24
queue_small true = dummy_small
queue_small false = omega arith

tree_small : (a b c d : Bool) → (if a then 1048576 else (if b then 1048577 else (if c then 1 else (if d then 3 else 0)))) < 2 ^ 24
tree_small true b c d = omega arith
tree_small false true c d = omega arith
tree_small false false true d = omega arith
tree_small false false false true = omega arith
tree_small false false false false = omega arith

queue_zero : (place : ℕ) → (place == HEAD || place == TAIL) ≡ false → opening_word client.Queue place ≡ 0
unfolding opening_word
queue_zero place none = ap (λ b. if b then dummy_word else 0) none

queue_first : (place : ℕ) → is_root_place place ≡ false → (place == HEAD || place == TAIL) ≡ false
queue_first place none = grind (arith, common_steps, nat_tests)

queue_behind : (place : ℕ) → 64 ≤ place → (place == HEAD || place == TAIL) ≡ false
queue_behind place behind = grind (arith, common_steps, nat_tests)

tree_first : (place : ℕ) → place < 32 → opening_word client.Tree place ≡ 0
unfolding opening_word
tree_first place low = grind (arith, common_steps, nat_tests)

tree_behind : (place : ℕ) → 64 ≤ place → opening_word client.Tree place ≡ 0
unfolding opening_word
tree_behind place behind = grind (arith, common_steps, nat_tests)

pub clients_open : ClientsOpen
unfolding opening_word
clients_open client.Queue = record {
  zero_first = λ place low none. queue_zero place (queue_first place none);
  zero_behind = λ place behind. queue_zero place (queue_behind place (omega (arith, second_block, behind)));
  small = λ place. queue_small (place == HEAD || place == TAIL);
}
clients_open client.List = record { zero_first = λ place low none. refl; zero_behind = λ place behind. refl; small = λ place. omega arith }
clients_open client.Tree = record {
  zero_first = λ place low none. tree_first place low;
  zero_behind = λ place behind. tree_behind place (omega (arith, second_block, behind));
  small = λ place. tree_small (place == 44) (place == 49 || place == 54) (place == 51) (place == 52);
}
clients_open client.Buckets = record { zero_first = λ place low none. refl; zero_behind = λ place behind. refl; small = λ place. omega arith }
