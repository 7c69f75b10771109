-- The words of the client's world after a move.
use Rattle.std.proofs.Common.{◌≡◌, ◌≢◌, ◌∙◌, sym, subst, ap, ℕ, ◌<◌, ◌≤◌, ◌==◌, if◌then◌else◌, true, false, List, length, get_or, inl, inr, arith}
use Rattle.std.proofs.lemmas.Bool.{cases_eq, cases_lt}
use Rattle.std.proofs.lemmas.Bool.Decides.{nat_tests}
use Rattle.std.proofs.lemmas.List.{get_or_past}
use Rattle.step_memory.specs.declared.steps.Request.{Request}
use Rattle.step_memory.specs.Step.{requested_place, word_after, words_after}
use Rattle.step_memory.proofs.Words.{length-words_after, word_at_place, word_elsewhere}
use Rattle.normal_traits.specs.NormalForm.{NormalForm}
use Rattle.normal_traits.specs.Steps.{with_word}
use Rattle.fast_slow_engine.specs.PhaseTable.{mech_request}
use Rattle.fast_slow_engine.specs.Runs.{RunState, begun, run_of}
use Rattle.run_laws.proofs.Steps.{move_steps}
use Rattle.run_world.specs.Moves.{WordsMove, WorldWords}

-- words that agree at each place are the same
pub same_words : {A : Type 0} (f g : ℕ → A) → ((at : ℕ) → f at ≡ g at) → f ≡ g
same_words f g each = λ i. λ at. each at i

-- the word at a place, as a world has it
abbrev pub word_in : List ℕ → ℕ → ℕ
word_in words at = get_or words at 0

-- a word that was put stands at its place, and the others stay
pub put_here : (place word : ℕ) (words : ℕ → ℕ) (at : ℕ) → at ≡ place → with_word place word words at ≡ word
put_here place word words at same =
    let test : (at == place) ≡ true = grind (arith, nat_tests) in
    ap (λ b. if b then word else words at) test

pub put_beside : (place word : ℕ) (words : ℕ → ℕ) (at : ℕ) → at ≢ place → with_word place word words at ≡ words at
put_beside place word words at apart =
    let test : (at == place) ≡ false = grind (arith, nat_tests) in
    ap (λ b. if b then word else words at) test

written_at : (request : Request) (words : List ℕ) → requested_place request < length words → (at : ℕ)
    → word_in (words_after request words) at ≡ with_word (requested_place request) (word_after request (word_in words (requested_place request))) (word_in words) at
written_at request words inside at =
    elim (cases_eq at (requested_place request)) [
      | inl same ↦
          ap (word_in (words_after request words)) same ∙ word_at_place request words inside
          ∙ sym (put_here (requested_place request) (word_after request (word_in words (requested_place request))) (word_in words) at same)
      | inr apart ↦
          word_elsewhere request words at apart
          ∙ sym (put_beside (requested_place request) (word_after request (word_in words (requested_place request))) (word_in words) at apart)
    ]

past_at : (request : Request) (words : List ℕ) → length words ≤ requested_place request → (at : ℕ) → word_in (words_after request words) at ≡ word_in words at
past_at request words beyond at =
    elim (cases_eq at (requested_place request)) [
      | inl same ↦
          ap (word_in (words_after request words)) same
          ∙ get_or_past (words_after request words) (requested_place request) 0 (subst (λ n. n ≤ requested_place request) (sym (length-words_after request words)) beyond)
          ∙ sym (get_or_past words (requested_place request) 0 beyond) ∙ ap (word_in words) (sym same)
      | inr apart ↦ word_elsewhere request words at apart
    ]

kept_at : (request : Request) (words : List ℕ) → word_after request (word_in words (requested_place request)) ≡ word_in words (requested_place request) → (at : ℕ)
    → word_in (words_after request words) at ≡ word_in words at
kept_at request words keeps at =
    elim (cases_lt (requested_place request) (length words)) [
      | inl inside ↦
          elim (cases_eq at (requested_place request)) [
            | inl same ↦
                ap (word_in (words_after request words)) same ∙ word_at_place request words inside ∙ keeps ∙ ap (word_in words) (sym same)
            | inr apart ↦ word_elsewhere request words at apart
          ]
      | inr beyond ↦ past_at request words beyond at
    ]

-- a request on a list of words
pub words_move : (request : Request) (words : List ℕ) → WordsMove request (length words) (word_in words) (word_in (words_after request words))
words_move request words = record {
  written = λ inside. same_words _ _ (written_at request words inside);
  kept = λ keeps. same_words _ _ (kept_at request words keeps);
  past = λ beyond. same_words _ _ (past_at request words beyond);
}

module _ {S W : Type 0} (form : NormalForm S W) where
  pub world_words : WorldWords form
  world_words setup older move mech at =
      let state = run_of form setup older in
      let request = mech_request form (begun move.begins mech) in
      subst (λ (s : RunState S W). WordsMove request (length state.words) (word_in state.words) (word_in s.words))
      (sym (move_steps form state move mech at)) (words_move request state.words)
