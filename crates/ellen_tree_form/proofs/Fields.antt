-- The fields of used blocks are words of the client.
use Rattle.std.proofs.Common.{◌≡◌, ℕ, ◌<◌, ◌≤◌, true}
use Rattle.node_arena.specs.MemoryMap.{block_place}
use Rattle.normal_traits.specs.World.{World, is_word, no_root}
use Rattle.client_lemmas.proofs.Places.{behind_notes}

-- the fields of a used block behind its notes are words
pub field_word : (world : World) (block field : ℕ) → world.used block ≡ true → 12 ≤ field → field < 32 → is_word no_root world (block_place block field) ≡ true
field_word world block field used high small = behind_notes no_root world block field small used high
