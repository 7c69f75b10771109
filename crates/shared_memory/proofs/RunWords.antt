-- What a request sees and leaves, inside and past the words; and a run keeps the number of its words.
use Rattle.std.proofs.Common.{arith, ◌≡◌, ◌∙◌, refl, ap, ℕ, zero, suc, ◌<◌, ◌≤◌, Bool, cond, List, [], ◌∷◌, length, set, get_or, slice_index, slice_set}
use Rattle.std.proofs.lemmas.Bool.{le-ltb, lt-ltb}
use Rattle.step_memory.specs.declared.steps.Request.{Request}
use Rattle.step_memory.specs.Step.{requested_place, seen_at, seen_of, word_after, words_after}
use Rattle.step_memory.proofs.Words.{length-words_after}
use Rattle.node_arena.specs.Opening.{opening_words}
use Rattle.normal_traits.specs.NormalForm.{NormalForm}
use Rattle.fast_slow_engine.specs.declared.setup.Setup.{Setup}
use Rattle.fast_slow_engine.specs.PhaseTable.{mech_request}
use Rattle.fast_slow_engine.specs.Runs.{Move, RunState, AreMoves, begun, run_of}
use Rattle.run_laws.proofs.Steps.{move_steps}
use Rattle.shared_memory.specs.Views.{nothing_seen}

-- a request past the last word leaves the words and tells nothing
set_past : (ws : List ℕ) (i n : ℕ) → length ws ≤ i → set ws i n ≡ ws
set_past [] i n past = refl
set_past (w ∷ ws) zero n past = absurd (omega (arith, past))
set_past (w ∷ ws) (suc i) n past = ap (λ (l : List ℕ). w ∷ l) (set_past ws i n (omega (arith, past)))

pub words_past : (request : Request) (ws : List ℕ) → length ws ≤ requested_place request → words_after request ws ≡ ws
unfolding words_after
words_past request ws past = set_past ws (requested_place request) _ past

pub seen_past : (request : Request) (ws : List ℕ) → length ws ≤ requested_place request → seen_of request ws ≡ nothing_seen
unfolding seen_of
seen_past request ws past = ap (λ (b : Bool). cond b (seen_at request (get_or ws (requested_place request) 0)) nothing_seen) (le-ltb (requested_place request) (length ws) past)

-- one on a word tells of that word, and leaves what it makes of it
pub words_at : (request : Request) (ws : List ℕ) → words_after request ws ≡ slice_set ws (requested_place request) (word_after request (slice_index ws (requested_place request)))
unfolding words_after
words_at request ws = refl

pub seen_within : (request : Request) (ws : List ℕ) → requested_place request < length ws → seen_of request ws ≡ seen_at request (slice_index ws (requested_place request))
unfolding seen_of
seen_within request ws inside = ap (λ (b : Bool). cond b (seen_at request (get_or ws (requested_place request) 0)) nothing_seen) (lt-ltb (requested_place request) (length ws) inside)

module _ {S W : Type 0} (form : NormalForm S W) where
  -- a run has as many words as it opens with
  pub words_stay : (setup : Setup) (moves : List Move) → AreMoves form setup moves → length (run_of form setup moves).words ≡ length (opening_words form.opening setup.cap)
  words_stay setup [] are = refl
  words_stay setup (move ∷ older) are =
      let is = are.1 in
      let state = run_of form setup older in
      ap (λ (s : RunState S W). length s.words) (move_steps form state move is.mech is.seated)
      ∙ length-words_after (mech_request form (begun move.begins is.mech)) state.words ∙ words_stay setup older are.0
