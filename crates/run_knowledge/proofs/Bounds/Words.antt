-- The words of a client are in the memory of a run, where the used blocks are blocks of the run.
use Rattle.std.proofs.Common.{◌≡◌, ◌∙◌, refl, ap, ℕ, ◌<◌, ◌≤◌, ◌==◌, ◌||◌, ◌&&◌, not, nat_le, Bool, true, false, List, [], ◌∷◌, length, ◌⊎◌, inl, inr, arith, rules}
use Rattle.std.proofs.lemmas.Bool.Decides.{nat_tests}
use Rattle.step_memory.proofs.Words.{length-words_after}
use Rattle.node_arena.specs.MemoryMap.{words_of, block_at, field_at, is_root_place}
use Rattle.node_arena.proofs.ZerosOpen.{length-opening_words}
use Rattle.node_arena.proofs.PlacesApart.{block_place_inside, field_at_below, place_split}
use Rattle.normal_traits.specs.World.{World, is_state, is_word}
use Rattle.normal_traits.specs.NormalForm.{NormalForm}
use Rattle.fast_slow_engine.specs.declared.setup.Setup.{Setup}
use Rattle.fast_slow_engine.specs.PhaseTable.{mech_request}
use Rattle.fast_slow_engine.specs.Runs.{Move, RunState, AreMoves, begun, run_of}
use Rattle.run_laws.proofs.Steps.{move_steps}

-- a root, or a place of a used block
word_cases : (root place behind used rest : Bool) → ((root && place) || (behind && used && rest)) ≡ true → (place ≡ true) ⊎ ((behind ≡ true) × (used ≡ true))
word_cases true true behind used rest is = inl refl
word_cases true false true true rest is = inr (refl, refl)
word_cases true false true false rest is = absurd (search rules)
word_cases true false false used rest is = absurd (search rules)
word_cases false place true true rest is = inr (refl, refl)
word_cases false place true false rest is = absurd (search rules)
word_cases false place false used rest is = absurd (search rules)

-- a word of the client is within so many words
pub word_inside : (is_root : ℕ → Bool) (world : World) (cap : ℕ) → ((block : ℕ) → world.used block ≡ true → block ≤ cap) → (place : ℕ) → is_word is_root world place ≡ true → place < words_of cap
word_inside is_root world cap used place is =
    elim (word_cases (is_root place) (is_root_place place) (nat_le 32 place) (world.used (block_at place)) (block_at place == 0 || not (is_state (field_at place))) is) [
      | inl root ↦ (let low : place < 24 = grind (arith, nat_tests, root) in omega (arith, low))
      | inr behind ↦
          let high : 32 ≤ place = grind (arith, nat_tests, behind.0) in
          let within = block_place_inside cap (block_at place) (field_at place) (used (block_at place) behind.1) (field_at_below place) in
          let split = place_split place high in
          omega (arith, within, split)
    ]

module _ {S W : Type 0} (form : NormalForm S W) where
  -- how many words there are stays
  pub words_count : (setup : Setup) (moves : List Move) → AreMoves form setup moves → length (run_of form setup moves).words ≡ words_of setup.cap
  words_count setup [] are = length-opening_words form.opening setup.cap
  words_count setup (move ∷ older) are =
      let state = run_of form setup older in
      let is = are.1 in
      ap (λ (s : RunState S W). length s.words) (move_steps form state move is.mech is.seated)
      ∙ length-words_after (mech_request form (begun move.begins is.mech)) state.words ∙ words_count setup older are.0
