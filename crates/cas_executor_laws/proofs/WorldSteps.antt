-- A world after one act, as its code makes it.
use Rattle.std.proofs.Common.{◌≡◌, ◌∙◌, sym, ap, subst, ℕ, ◌<◌, List, ◌∷◌, ◌++◌, length, length-set, take, drop, slice_get, slice_index, slice_index_or, slice_set, Some}
use Rattle.std.proofs.lemmas.Option.{slice_get-get_or, slice_get_within}
use Rattle.std.proofs.Math.Seq.{take-append_seam}
use Rattle.std.specs.List.{refill}
use Rattle.step_memory.specs.declared.steps.Request.TheVariants.{Load, Store}
use Rattle.step_memory.specs.declared.steps.Seen.{Seen}
use Rattle.step_memory.specs.Step.{seen_of, words_after}
use Rattle.step_memory.proofs.Words.{load_keeps, load_tells}
use Rattle.word_fields.specs.Versioned.{changed_word}
use Rattle.normal_traits.specs.declared.lists.Entry.{Entry}
use Rattle.cas_executor.specs.declared.fast_run.Execution.{Execution}
use Rattle.cas_executor.specs.SlowRuns.{slow_execution, slow_request}
use Rattle.cas_executor_laws.specs.ExecRuns.{Act, CanAct, ExecSetup, ExecState, Helping, IsWorldOf, acted, execution_by, execution_of, helper_fed, stepped_by}
use Rattle.cas_executor_laws.specs.ExecRuns.Act.{Steps}

-- the world of acts, with one more that it allows
pub act_done : (act : Act) (old new : ExecState) → CanAct old act → new ≡ acted act old → (setup : ExecSetup) (acts : List Act) → IsWorldOf setup acts old → IsWorldOf setup (act ∷ acts) new
act_done act old new can is setup acts world =
    record { are = (world.are, subst (λ s. CanAct s act) (sym world.is) can); is = ap (acted act) world.is ∙ sym is }

-- a list that was written in place is what was written
refilled : {A : Type 0} (xs ys : List A) → length ys ≡ length xs → refill (length xs) xs ys ≡ ys
refilled xs ys same = subst (λ n. take n (ys ++ drop (length ys) xs) ≡ ys) same (take-append_seam ys (drop (length ys) xs))

module _ (entries : List Entry) (words words' : List ℕ) (helpers front : List Helping) (at : ℕ) (blank helper' : Helping) (inside : at < length helpers) (whole : front ≡ helpers) where
  found : slice_get helpers at ≡ Some (slice_index_or front at blank)
  found = slice_get-get_or helpers at blank inside ∙ ap Some (sym (ap (λ (l : List Helping). slice_index_or l at blank) whole))

  pub stepped_is : words' ≡ words_after (slow_request (slice_index_or front at blank).walk) words → helper' ≡ helper_fed (slice_index_or front at blank) (seen_of (slow_request (slice_index_or front at blank).walk) words)
      → (let state : ExecState = record { entries = entries; words = words'; helpers = refill (length helpers) helpers (slice_set front at helper') } in state)
      ≡ acted (Steps at) (record { entries = entries; words = words; helpers = helpers })
  stepped_is left fed =
      let helper = slice_index_or front at blank in
      let front_set : refill (length helpers) helpers (slice_set front at helper') ≡ slice_set helpers at helper' =
      refilled helpers (slice_set front at helper') (length-set front at helper' ∙ ap length whole) ∙ ap (λ (l : List Helping). slice_set l at helper') whole in
      let made = λ (w : List ℕ) (l : List Helping). (let state : ExecState = record { entries = entries; words = w; helpers = l } in state) in
      ap (made words') (front_set ∙ ap (slice_set helpers at) fed)
      ∙ ap (λ w. made w (slice_set helpers at (helper_fed helper (seen_of (slow_request helper.walk) words)))) left
      ∙ sym (ap (λ o. stepped_by at o (made words helpers)) found)

  pub execution_is : (execution : Execution) → execution ≡ slow_execution (slice_index_or front at blank).walk (seen_of (slow_request (slice_index_or front at blank).walk) words)
      → execution ≡ execution_of at (let state : ExecState = record { entries = entries; words = words; helpers = helpers } in state)
  execution_is execution e = e ∙ sym (ap (λ o. execution_by o words) found)

-- a helper that can step has a place among the helpers
pub can_inside : (entries : List Entry) (words : List ℕ) (helpers : List Helping) (at : ℕ) (helper : Helping) (state : ExecState) → (let own : ExecState = record { entries = entries; words = words; helpers = helpers } in own) ≡ state → slice_get state.helpers at ≡ Some helper → at < length helpers
can_inside entries words helpers at helper state is here = slice_get_within helpers at helper (ap (λ (s : ExecState). slice_get s.helpers at) is ∙ here)

-- a word that was loaded, changed and stored
pub changed_is : (words loaded new : List ℕ) (at value stored : ℕ) (seen : Seen) → loaded ≡ words_after (Load at) words → seen ≡ seen_of (Load at) words → stored ≡ changed_word seen.before value → new ≡ words_after (Store at stored) loaded
    → new ≡ slice_set words at (changed_word (slice_index words at) value)
unfolding words_after
changed_is words loaded new at value stored seen same saw is left =
    left ∙ ap (λ l. slice_set l at stored) (same ∙ load_keeps at words) ∙ ap (slice_set words at) (is ∙ ap (λ w. changed_word w value) (ap (λ (s : Seen). s.before) saw ∙ load_tells at words))
