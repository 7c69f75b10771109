-- The world of a run that made no move is the client's opening world.
use Rattle.std.proofs.Common.{◌≡◌, ◌∙◌, sym, subst, ap, ℕ, ◌≤◌, inl, inr, arith}
use Rattle.std.proofs.lemmas.Bool.{cases_lt}
use Rattle.std.proofs.lemmas.List.{get_or_past}
use Rattle.node_arena.specs.MemoryMap.{words_of}
use Rattle.node_arena.specs.Opening.{IsOpening, opening_words}
use Rattle.node_arena.proofs.ZerosOpen.{opening_each, length-opening_words}
use Rattle.node_arena.proofs.Openings.{opens_zero_behind}
use Rattle.normal_traits.specs.NormalForm.{NormalForm}
use Rattle.normal_traits.specs.Laws.{opening_world}
use Rattle.offered_blocks.specs.RunWorlds.{with_words}
use Rattle.run_world.specs.Moves.{WorldOpens}
use Rattle.run_world.proofs.Words.WordsAfterMoves.{word_in, same_words}

opens_at : (opening : ℕ → ℕ) → IsOpening opening → (cap place : ℕ) → word_in (opening_words opening cap) place ≡ opening place
opens_at opening opens cap place =
    elim (cases_lt place (words_of cap)) [
      | inl inside ↦ opening_each opening cap place inside
      | inr beyond ↦
          get_or_past (opening_words opening cap) place 0 (subst (λ n. n ≤ place) (sym (length-opening_words opening cap)) beyond)
          ∙ sym (opens_zero_behind opening opens place (omega (arith, beyond)))
    ]

module _ {S W : Type 0} (form : NormalForm S W) where
  pub world_opens : WorldOpens form
  world_opens setup = ap (with_words (opening_world form)) (same_words _ _ (opens_at form.opening form.opens setup.cap))
