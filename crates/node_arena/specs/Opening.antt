-- The words with which a run opens: those of a structure, and those of the four clients.
use Rattle.std.specs.Prelude.{◌≡◌, ℕ, ◌^◌, ◌<◌, ◌≤◌, ◌==◌, ◌||◌, false, if◌then◌else◌, List, map}
use Rattle.std.specs.List.{range_with_len}
use Rattle.lin_report.specs.declared.calls.Client.{Client}
use Rattle.lin_report.specs.declared.calls.Client.TheVariants as client
use Rattle.word_fields.specs.Versioned.{versioned_word}
use Rattle.node_arena.specs.declared.places.TheConstants.{HEAD, TAIL, FIRST_WORDS}
use Rattle.node_arena.specs.MemoryMap.{words_of, reference_to, block_place, is_root_place}

-- all words, with blocks 0 to cap, from a structure's word at each place
abbrev pub opening_words : (ℕ → ℕ) → ℕ → List ℕ
opening_words opening cap = map opening (range_with_len 0 (words_of cap))

-- what a structure's opening words have to be: outside the places for roots and block 0 each is 0, and each is below
-- 2^24, so a versioned one has its bit clear and version 0
pub record IsOpening (opening : ℕ → ℕ) : Type 0 where
  pub zero_first : (place : ℕ) → place < FIRST_WORDS → is_root_place place ≡ false → opening place ≡ 0
  pub zero_behind : (place : ℕ) → block_place 1 0 ≤ place → opening place ≡ 0
  pub small : (place : ℕ) → opening place < 2 ^ 24

-- ---- the four clients

-- the versioned word that names node 1 of block 0, the queue's dummy node
abbrev pub dummy_word : ℕ
dummy_word = versioned_word (reference_to 0 1) 0 0

-- in the tree, block 0 has the root, which is node 2, and its leaves, the nodes 1 and 3, with the first two keys
-- that are no command's: the left leaf has the first, the root and the right leaf have the second
abbrev pub tree_word : ℕ → ℕ
tree_word place =
    if place == 44 then 1048576
    else (if place == 49 || place == 54 then 1048577
    else (if place == 51 then reference_to 0 1
    else (if place == 52 then reference_to 0 3 else 0)))

-- the word of a client at a place: in the queue, head and tail name the dummy node, and in the tree block 0 has the
-- root and its leaves; all else is 0
unfoldable pub opening_word : Client → ℕ → ℕ
opening_word client.Queue place = if place == HEAD || place == TAIL then dummy_word else 0
opening_word client.Tree place = tree_word place
opening_word _ place = 0

-- the words of each client are such
abbrev pub ClientsOpen : Type 0
ClientsOpen = (client : Client) → IsOpening (opening_word client)
