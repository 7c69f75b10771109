-- Zeros, and the queue's two words among them, are the opening words.
use Rattle.std.proofs.Common.{◌≡◌, ℕ, ◌<◌, ◌≤◌, length, get_or, set, arith, ◌∙◌, zero-add, length-set}
use Rattle.std.specs.Prelude.{replicate, slice_index}
use Rattle.std.proofs.lemmas.Grind.{common_steps}
use Rattle.std.proofs.lemmas.Bool.Decides.{nat_tests}
use Rattle.std.proofs.lemmas.List.{get_or-replicate, length-replicate}
use Rattle.std.proofs.lemmas.List.FromFn.{fill_by_all, get_or-map-range_with_len, length-map-range_with_len}
use Rattle.lin_report.specs.declared.calls.Client.TheVariants as client
use Rattle.node_arena.specs.MemoryMap.{words_of}
use Rattle.node_arena.specs.Opening.{dummy_word, opening_word, opening_words}

queue_each : (n place : ℕ) → 32 ≤ n → place < n → get_or (set (set (replicate n 0) 20 dummy_word) 21 dummy_word) place 0 ≡ opening_word client.Queue place
unfolding opening_word
queue_each n place many within = grind (arith, common_steps, nat_tests)

tree_each : (n place : ℕ) → 64 ≤ n → place < n → get_or (set (set (set (set (set (replicate n 0) 44 1048576) 49 1048577) 51 1) 52 3) 54 1048577) place 0 ≡ opening_word client.Tree place
unfolding opening_word
tree_each n place many within = grind (arith, common_steps, nat_tests)

list_each : (n place : ℕ) → place < n → get_or (replicate n 0) place 0 ≡ opening_word client.List place
unfolding opening_word
list_each n place within = get_or-replicate n place 0 0 within

buckets_each : (n place : ℕ) → place < n → get_or (replicate n 0) place 0 ≡ opening_word client.Buckets place
unfolding opening_word
buckets_each n place within = get_or-replicate n place 0 0 within

-- ---- the four clients

-- the opening words of the queue
pub queue_opening : (cap : ℕ) → set (set (replicate (words_of cap) 0) 20 dummy_word) 21 dummy_word ≡ opening_words (opening_word client.Queue) cap
queue_opening cap =
    let n = words_of cap in
    let whole : length (set (set (replicate n 0) 20 dummy_word) 21 dummy_word) ≡ n =
    length-set (set (replicate n 0) 20 dummy_word) 21 dummy_word ∙ length-set (replicate n 0) 20 dummy_word ∙ length-replicate n 0 in
    fill_by_all (opening_word client.Queue) _ n 0 whole (λ place within. queue_each n place (omega arith) within)

-- those of the list
pub list_opening : (cap : ℕ) → replicate (words_of cap) 0 ≡ opening_words (opening_word client.List) cap
list_opening cap = fill_by_all (opening_word client.List) _ (words_of cap) 0 (length-replicate (words_of cap) 0) (λ place within. list_each (words_of cap) place within)

-- those of the buckets
pub buckets_opening : (cap : ℕ) → replicate (words_of cap) 0 ≡ opening_words (opening_word client.Buckets) cap
buckets_opening cap = fill_by_all (opening_word client.Buckets) _ (words_of cap) 0 (length-replicate (words_of cap) 0) (λ place within. buckets_each (words_of cap) place within)

-- those of the tree
pub tree_opening : (cap : ℕ) → set (set (set (set (set (replicate (words_of cap) 0) 44 1048576) 49 1048577) 51 1) 52 3) 54 1048577 ≡ opening_words (opening_word client.Tree) cap
tree_opening cap =
    let n = words_of cap in
    let many : 64 ≤ n = omega arith in
    let whole : length (set (set (set (set (set (replicate n 0) 44 1048576) 49 1048577) 51 1) 52 3) 54 1048577) ≡ n =
    length-set (set (set (set (set (replicate n 0) 44 1048576) 49 1048577) 51 1) 52 3) 54 1048577
    ∙ length-set (set (set (set (replicate n 0) 44 1048576) 49 1048577) 51 1) 52 3
    ∙ length-set (set (set (replicate n 0) 44 1048576) 49 1048577) 51 1
    ∙ length-set (set (replicate n 0) 44 1048576) 49 1048577
    ∙ length-set (replicate n 0) 44 1048576 ∙ length-replicate n 0 in
    fill_by_all (opening_word client.Tree) _ n 0 whole (λ place within. tree_each n place many within)

-- ---- any structure

-- each of the opening words is in its place
pub opening_each : (opening : ℕ → ℕ) (cap place : ℕ) → place < words_of cap → slice_index (opening_words opening cap) place ≡ opening place
opening_each opening cap place within = get_or-map-range_with_len opening 0 (words_of cap) place place 0 within (zero-add place)

pub length-opening_words : (opening : ℕ → ℕ) (cap : ℕ) → length (opening_words opening cap) ≡ words_of cap
length-opening_words opening cap = length-map-range_with_len opening 0 (words_of cap)

pub ruleset opening = (queue_opening, list_opening, tree_opening, buckets_opening, opening_each, length-opening_words)
