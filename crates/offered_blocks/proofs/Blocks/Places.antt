-- Which places are words of the client: none of the engine's first words, none of a block that is not used, and no
-- state of an entry.
use Rattle.std.proofs.Common.{◌≡◌, ◌≢◌, ◌∙◌, refl, sym, subst, ap, ℕ, ◌+◌, ◌<◌, ◌≤◌, inl, inr, ◌⊎◌, ◌==◌, ◌||◌, ◌&&◌, Bool, true, false, arith}
use Rattle.std.specs.Prelude.{not, nat_le}
use Rattle.std.proofs.lemmas.Bool.Decides.{nat_tests}
use Rattle.node_arena.specs.MemoryMap.{block_place, block_at, field_at, record_place, is_root_place, MayBeClients}
use Rattle.node_arena.proofs.PlacesApart.{block_place_behind, block_at-block_place, field_at-block_place, engines_out}
use Rattle.normal_traits.specs.World.{World, is_state, is_word}

low_word : (root place behind used rest : Bool) → place ≡ false → behind ≡ false → ((root && place) || (behind && used && rest)) ≡ false
low_word root place true used rest p b = absurd cc
low_word root true false used rest p b = absurd cc
low_word true false false used rest p b = refl
low_word false false false used rest p b = refl

unused_word : (root place behind used rest : Bool) → place ≡ false → used ≡ false → ((root && place) || (behind && used && rest)) ≡ false
unused_word root true behind used rest p u = absurd cc
unused_word root false true true rest p u = absurd cc
unused_word true false true false rest p u = refl
unused_word false false true false rest p u = refl
unused_word true false false used rest p u = refl
unused_word false false false used rest p u = refl

grow_word : (root behind used used' rest : Bool) → (used ≡ true → used' ≡ true) → (root || (behind && used && rest)) ≡ true → (root || (behind && used' && rest)) ≡ true
grow_word true behind used used' rest more e = refl
grow_word false true true used' rest more e = ap (λ u. true && u && rest) (more refl) ∙ e
grow_word false true false used' rest more e = absurd cc
grow_word false false used used' rest more e = absurd cc

may_word : (root place behind used rest : Bool) → ((root && place) || (behind && used && rest)) ≡ true → (place ≡ true) ⊎ (behind ≡ true)
may_word true true behind used rest e = inl refl
may_word true false true used rest e = inr refl
may_word true false false used rest e = absurd cc
may_word false place true used rest e = inr refl
may_word false place false used rest e = absurd cc

root_may : (place : ℕ) → is_root_place place ≡ true → MayBeClients place
root_may place is = inl (grind (arith, nat_tests), grind (arith, nat_tests))

not_root : (place : ℕ) → ¬ MayBeClients place → is_root_place place ≡ false
not_root place out = by_test (is_root_place place) refl
  where
    by_test : (b : Bool) → is_root_place place ≡ b → b ≡ false
    by_test false e = refl
    by_test true e = absurd (out (root_may place e))

-- a word of the structure is at a place where it may have one
pub word_may : (is_root : ℕ → Bool) (world : World) (place : ℕ) → is_word is_root world place ≡ true → MayBeClients place
word_may is_root world place is =
    elim (may_word (is_root place) (is_root_place place) (nat_le 32 place) (world.used (block_at place)) (block_at place == 0 || not (is_state (field_at place))) is) [
      | inl root ↦ root_may place root
      | inr behind ↦ inr (grind (arith, nat_tests, behind))
    ]

-- a place that is a word isn't one that is none
pub words_apart : (is_root : ℕ → Bool) (world : World) (place at : ℕ) → is_word is_root world place ≡ true → is_word is_root world at ≡ false → place ≢ at
words_apart is_root world place at here is e = let is' : is_word is_root world place ≡ false = subst (λ p. is_word is_root world p ≡ false) (sym e) is in absurd cc

-- the engine's first words are none
pub engine_word : (is_root : ℕ → Bool) (world : World) (place : ℕ) → place < 32 → ¬ MayBeClients place → is_word is_root world place ≡ false
engine_word is_root world place low out =
    low_word (is_root place) (is_root_place place) (nat_le 32 place) (world.used (block_at place)) (block_at place == 0 || not (is_state (field_at place)))
    (not_root place out) (grind (arith, nat_tests, low))

-- nor are records
pub record_out : (seat : ℕ) → seat < 8 → ¬ MayBeClients (record_place seat)
record_out seat few = engines_out (record_place seat) (inl (omega (arith, few)))

pub record_word : (is_root : ℕ → Bool) (world : World) (seat : ℕ) → seat < 8 → is_word is_root world (record_place seat) ≡ false
record_word is_root world seat few = engine_word is_root world (record_place seat) (omega (arith, few)) (record_out seat few)

pub record_apart : (is_root : ℕ → Bool) (world : World) (place seat : ℕ) → seat < 8 → is_word is_root world place ≡ true → record_place seat ≢ place
record_apart is_root world place seat few here e = words_apart is_root world place (record_place seat) here (record_word is_root world seat few) (sym e)

behind_root : (place : ℕ) → 32 ≤ place → is_root_place place ≡ false
behind_root place behind = grind (arith, nat_tests, behind)

-- nor are the words of a block that isn't used
pub spare_word : (is_root : ℕ → Bool) (world : World) (block field : ℕ) → field < 32 → world.used block ≡ false → is_word is_root world (block_place block field) ≡ false
spare_word is_root world block field small unused =
    let place = block_place block field in
    let used : world.used (block_at place) ≡ false = ap (λ b. world.used b) (block_at-block_place block field small) ∙ unused in
    unused_word (is_root place) (is_root_place place) (nat_le 32 place) (world.used (block_at place)) (block_at place == 0 || not (is_state (field_at place)))
    (behind_root place (block_place_behind block field)) used

pub spare_apart : (is_root : ℕ → Bool) (world : World) (block field place : ℕ) → field < 32 → world.used block ≡ false → is_word is_root world place ≡ true → block_place block field ≢ place
spare_apart is_root world block field place small unused here e = words_apart is_root world place (block_place block field) here (spare_word is_root world block field small unused) (sym e)

no_state : (root place behind used first state : Bool) → place ≡ false → first ≡ false → state ≡ true → ((root && place) || (behind && used && (first || not state))) ≡ false
no_state root place behind used true state p f s = absurd cc
no_state root place behind used false false p f s = absurd cc
no_state root true behind used false true p f s = absurd cc
no_state true false true true false true p f s = refl
no_state true false true false false true p f s = refl
no_state true false false used false true p f s = refl
no_state false false true true false true p f s = refl
no_state false false true false false true p f s = refl
no_state false false false used false true p f s = refl

-- nor are the states of entries, which blocks other than 0 have
pub state_word : (is_root : ℕ → Bool) (world : World) (block i : ℕ) → 0 < block → i < 2 → is_word is_root world (block_place block (9 + i)) ≡ false
state_word is_root world block i some few =
    let at = block_place block (9 + i) in
    let b : block_at at ≡ block = block_at-block_place block (9 + i) (omega (arith, few)) in
    let f : field_at at ≡ 9 + i = field_at-block_place block (9 + i) (omega (arith, few)) in
    no_state (is_root at) (is_root_place at) (nat_le 32 at) (world.used (block_at at)) (block_at at == 0) (is_state (field_at at))
    (behind_root at (block_place_behind block (9 + i))) (grind (arith, nat_tests, b, some)) (grind (arith, nat_tests, f, few))

-- a word of the client is one where more blocks are used
pub word_grows : (is_root : ℕ → Bool) (world after : World) → ((block : ℕ) → world.used block ≡ true → after.used block ≡ true) → (place : ℕ) → is_word is_root world place ≡ true → is_word is_root after place ≡ true
word_grows is_root world after used place =
    grow_word (is_root place && is_root_place place) (nat_le 32 place) (world.used (block_at place)) (after.used (block_at place)) (block_at place == 0 || not (is_state (field_at place))) (used (block_at place))
