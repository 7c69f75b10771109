-- The words with which the stack opens.
use Rattle.std.proofs.Common.{◌≡◌, ℕ}
use Rattle.std.specs.Prelude.{replicate}
use Rattle.std.proofs.lemmas.List.{get_or-replicate, length-replicate}
use Rattle.std.proofs.lemmas.List.FromFn.{fill_by_all}
use Rattle.node_arena.specs.MemoryMap.{words_of}
use Rattle.node_arena.specs.Opening.{opening_words}

-- zeros are the opening words that are all 0
pub zeros_are : (cap : ℕ) → replicate (words_of cap) 0 ≡ opening_words (λ place. 0) cap
zeros_are cap = fill_by_all (λ place. 0) _ (words_of cap) 0 (length-replicate (words_of cap) 0) (λ place within. get_or-replicate (words_of cap) place 0 0 within)
