-- A list of words as a memory, and a step on it.
use Rattle.std.proofs.Common.{◌≡◌, ◌≢◌, ap, ℕ, ◌<◌, if◌then◌else◌, false, List, length, get_or-set_same, get_or-set_other, slice_index, slice_set}
use Rattle.std.proofs.lemmas.Bool.{lt-ltb}
use Rattle.step_memory.specs.declared.steps.Request.{Request}
use Rattle.step_memory.specs.declared.steps.Seen.{Seen}
use Rattle.step_memory.specs.Step.{requested_place, words_after, seen_at, seen_of}
use Rattle.step_memory.proofs.Words.{word_at_place, word_elsewhere}
use Rattle.cas_executor_laws.specs.Parts.{RequestMade}

-- the words by their places
abbrev pub memory_of : List ℕ → ℕ → ℕ
memory_of words at = slice_index words at

told : (request : Request) (words : List ℕ) → requested_place request < length words → seen_of request words ≡ seen_at request (memory_of words (requested_place request))
unfolding seen_of
told request words inside = ap (λ b. if b then seen_at request (memory_of words (requested_place request)) else (let past : Seen = record { before = 0; won = false } in past)) (lt-ltb (requested_place request) (length words) inside)

pub step_made : (request : Request) (words : List ℕ) → requested_place request < length words → RequestMade request (memory_of words) (memory_of (words_after request words)) (seen_of request words)
step_made request words inside =
    record {
      here = word_at_place request words inside;
      beside = λ at apart. word_elsewhere request words at apart;
      tells = told request words inside;
    }

-- a word that was written stands there, and the others stay
pub word_set : (words : List ℕ) (at word : ℕ) → at < length words → memory_of (slice_set words at word) at ≡ word
word_set words at word inside = get_or-set_same words at word 0 inside

pub word_beside : (words : List ℕ) (at word place : ℕ) → place ≢ at → memory_of (slice_set words at word) place ≡ memory_of words place
word_beside words at word place apart = get_or-set_other words at place word 0 apart
