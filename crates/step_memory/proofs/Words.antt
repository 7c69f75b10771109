-- What a step leaves at each place and tells of it, and that no word comes or goes.
use Rattle.std.proofs.Common.{Bool, true, false, cond, eqb, ltb, set, refl, ap, ◌∙◌, sym, ⊎_elim}
use Rattle.std.proofs.lemmas.Bool.{cases_lt, lt-ltb, le-ltb}
use Rattle.std.proofs.lemmas.List.{get_or_past, set-get_or}
use Rattle.step_memory.specs.declared.steps.Seen.{Seen}
use Rattle.step_memory.specs.declared.steps.Request.TheVariants.{Load, Exchange, Add}
use Rattle.step_memory.specs.Step.{seen_of}
use Rattle.std.proofs.Common.{◌≡◌, ◌≢◌, ℕ, ◌<◌, List, length, get_or, get_or-set_same, get_or-set_other}
use Rattle.std.proofs.Math.ListN.{length-set}
use Rattle.step_memory.specs.declared.steps.Request.{Request}
use Rattle.step_memory.specs.Step.{requested_place, word_after, words_after}

-- a step keeps the number of words
pub length-words_after : (request : Request) (words : List ℕ) → length (words_after request words) ≡ length words
unfolding words_after
length-words_after request words = length-set words (requested_place request) (word_after request (get_or words (requested_place request) 0))

-- the word at the place of a step is what the request leaves there
pub word_at_place : (request : Request) (words : List ℕ) → requested_place request < length words → get_or (words_after request words) (requested_place request) 0 ≡ word_after request (get_or words (requested_place request) 0)
unfolding words_after
word_at_place request words inside = get_or-set_same words (requested_place request) (word_after request (get_or words (requested_place request) 0)) 0 inside

-- every other word stays
pub word_elsewhere : (request : Request) (words : List ℕ) (at : ℕ) → at ≢ requested_place request → get_or (words_after request words) at 0 ≡ get_or words at 0
unfolding words_after
word_elsewhere request words at other = get_or-set_other words (requested_place request) at (word_after request (get_or words (requested_place request) 0)) 0 other

-- what is told of the word at a place is told of 0 past the end
before_cond : (at : ℕ) (words : List ℕ) (won : Bool) → (cond (ltb at (length words)) (let seen : Seen = record { before = get_or words at 0; won = won } in seen) (record { before = 0; won = false })).before ≡ get_or words at 0
before_cond at words won =
    ⊎_elim
    (λ inside. let seen : Seen = record { before = get_or words at 0; won = won } in
    let past : Seen = record { before = 0; won = false } in
    ap (λ b. (cond b seen past).before) (lt-ltb at (length words) inside))
    (λ beyond. let seen : Seen = record { before = get_or words at 0; won = won } in
    let past : Seen = record { before = 0; won = false } in
    ap (λ b. (cond b seen past).before) (le-ltb at (length words) beyond) ∙ sym (get_or_past words at 0 beyond))
    (cases_lt at (length words))

-- a load tells the word at its place, 0 past the end, and changes nothing
pub load_tells : (at : ℕ) (words : List ℕ) → (seen_of (Load at) words).before ≡ get_or words at 0
unfolding seen_of
load_tells at words = before_cond at words true

pub load_keeps : (at : ℕ) (words : List ℕ) → words_after (Load at) words ≡ words
unfolding words_after
load_keeps at words = set-get_or words at 0

-- an addition tells the word before it
pub add_tells : (at by : ℕ) (words : List ℕ) → (seen_of (Add at by) words).before ≡ get_or words at 0
unfolding seen_of
add_tells at by words = before_cond at words true

-- an exchange writes where it finds its word, else it changes nothing
pub exchange_changes : (at from to : ℕ) (words : List ℕ) → words_after (Exchange at from to) words ≡ cond (eqb (get_or words at 0) from) (set words at to) words
unfolding words_after
exchange_changes at from to words =
    elim (eqb (get_or words at 0) from) as (λ b. set words at (cond b to (get_or words at 0)) ≡ cond b (set words at to) words) [ true ↦ refl | false ↦ set-get_or words at 0 ]
