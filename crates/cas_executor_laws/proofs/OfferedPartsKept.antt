-- Each part of an offered block, and what its helpers know, through a step of anyone.
use Rattle.std.proofs.Common.{◌≡◌, ◌≢◌, ◌∙◌, refl, sym, ℕ, zero, suc, ◌<◌, Bool, true, false, inl, inr, List, [], ◌∷◌, length, arith, ◌≤◌, ap}
use Rattle.std.proofs.lemmas.Bool.{cases_eq, cases_lt}
use Rattle.std.proofs.lemmas.Option.{slice_get_within}
use Rattle.word_fields.specs.Versioned.{versioned_bit}
use Rattle.word_fields.proofs.ChangedWords.{bit_below}
use Rattle.normal_traits.specs.declared.lists.Entry.{Entry}
use Rattle.cas_executor.specs.declared.fast_run.Execution.{Execution}
use Rattle.cas_executor.specs.declared.fast_run.Execution.TheVariants.{Running, Stopped}
use Rattle.cas_executor.specs.declared.slow_run.SlowStep.{SlowStep}
use Rattle.cas_executor.specs.declared.slow_run.SlowStep.TheVariants.{LoadState, Install, LoadTarget, Succeed, Fail, LoadDecision, Clear}
use Rattle.cas_executor.specs.SlowRuns.{SlowWalk, state_place}
use Rattle.cas_executor_laws.specs.ExecRuns.{IsEntry}
use Rattle.cas_executor_laws.specs.Entries.{View, StandsOrPassed, Life, LeavesBit, Later, IsShown, Moves}
use Rattle.cas_executor_laws.specs.Entries.Turn.{moves, stays}
use Rattle.cas_executor_laws.specs.Parts.{Site, IsSite, OfEach, InOrder, Offered, OwnsBits, Deed, IsDone, KnowsEntry, AreDone, Knows, KnowsStop, Helps, view_in, ShowsTaken, OwnDeed}
use Rattle.cas_executor_laws.proofs.OneEntry.{shown_bit, true≢false, later, seen_turned, life_turned, bit_turned}

-- a place in a list has an entry
pub entry_at : (entries : List Entry) (j : ℕ) → j < length entries → (entry : Entry) × IsEntry entries j entry
entry_at [] j within = absurd (omega arith)
entry_at (entry ∷ entries) zero within = (entry, refl)
entry_at (entry ∷ entries) (suc j) within = entry_at entries j (omega arith)

-- ---- what a helper knows of an entry stays

pub knows_later : (step : SlowStep) (entry : Entry) (old new : View) → Later entry old new → KnowsEntry step entry old → KnowsEntry step entry new
knows_later LoadState entry old new l k = tt
knows_later Install entry old new l k = tt
knows_later LoadTarget entry old new l k = l.past k
knows_later Succeed entry old new l k = (l.past k.0, l.taken k.1)
knows_later Fail entry old new l k = (l.past k.0, λ open_. let was = undecided old new l open_ in (l.missed k.0 (k.1 was).0, l.gone k.0 (k.1 was).1))
  where
    undecided : (old new : View) → Later entry old new → new.state ≡ 0 → old.state ≡ 0
    undecided old new l e =
        elim (cases_eq old.state 0) [
          | inl none ↦ none
          | inr some ↦ absurd (some (sym (l.decided some) ∙ e))
        ]
knows_later LoadDecision entry old new l k = (l.past k.0, λ e. k.1 (sym (l.decided k.1) ∙ e))
knows_later Clear entry old new l k = (l.past k.0, l.decided (λ e. absurd (omega (arith, e, k.1))) ∙ k.1)

pub done_later : (entry : Entry) (old new : View) → Later entry old new → IsDone entry old → IsDone entry new
done_later entry old new l d =
    record { succeeded = l.decided (λ e. absurd (omega (arith, e, d.succeeded))) ∙ d.succeeded; past = l.past d.past; gone = l.gone d.past d.gone }

-- ---- one memory

module _ (site : Site) (is : IsSite site) (words : ℕ → ℕ) (took : ℕ → Bool) where
  -- a shown entry took effect: while only the block's helpers set bits at its targets
  pub shows_by_bits : OwnsBits site words took → (j : ℕ) → ShowsTaken site words took j
  shows_by_bits owns j entry listed shown = (owns j entry listed).took (shown_bit entry (is.raised j entry listed) (words entry.target) shown)

  -- and whatever others do, once it is decided
  pub shows_by_decision : OfEach site Life words took → (j : ℕ) → words (state_place site.block j) ≢ 0 → ShowsTaken site words took j
  shows_by_decision lives j decided entry listed shown = by_state (words (state_place site.block j)) refl life.known
    where
      life : Life entry (view_in site words took j entry)
      life = lives j entry listed

      by_state : (n : ℕ) → words (state_place site.block j) ≡ n → n ≤ 2 → took j ≡ true
      by_state zero e small = absurd (decided e)
      by_state (suc zero) e small = life.succeeded e
      by_state (suc (suc zero)) e small = absurd (life.failed_gone e shown)
      by_state (suc (suc (suc n))) e small = absurd (omega arith)

  -- where a run stopped, no entry is shown that took effect
  pub stop_hides : Offered site words took → (stop : ℕ) → KnowsStop site words took stop → (j : ℕ) (entry : Entry) → IsEntry site.entries j entry → took j ≡ true → ¬ IsShown entry (view_in site words took j entry)
  stop_hides on stop k j entry listed taken =
      elim (cases_lt j stop) [
        | inl before ↦ (k.done j entry listed before).gone
        | inr from ↦ absurd (not_taken from)
      ]
    where
      within : j < length site.entries
      within = slice_get_within site.entries j entry listed

      failed : stop ≤ j → words (state_place site.block stop) ≡ 2
      failed from = k.failed (omega (arith, from, within))

      not_taken : stop ≤ j → ⊥
      not_taken from =
          elim (cases_eq j stop) [
            | inl same ↦ true≢false (took j) taken ((on.lives j entry listed).failed (ap (λ i. words (state_place site.block i)) same ∙ failed from))
            | inr apart ↦ absurd (omega (arith, failed from, (on.order j within).taken taken stop (omega (arith, from, apart))))
          ]

  -- so no bit is left at its targets
  pub stop_clears : Offered site words took → OwnsBits site words took → (stop : ℕ) → KnowsStop site words took stop → (j : ℕ) (entry : Entry) → IsEntry site.entries j entry → versioned_bit (words entry.target) ≡ 0
  stop_clears on owns stop k j entry listed =
      elim (cases_eq (versioned_bit (words entry.target)) 1) [
        | inl set ↦ absurd (stop_hides on stop k j entry listed ((owns j entry listed).took set) ((owns j entry listed).shown set))
        | inr unset ↦ omega (arith, unset, bit_below (words entry.target))
      ]

-- ---- a step

module _ (site : Site) (is : IsSite site) (words : ℕ → ℕ) (took : ℕ → Bool) (after : ℕ → ℕ) (took' : ℕ → Bool) where
  -- ---- which words the parts read

  -- the states and the targets alone: a step beside them, after which the same entries took effect, is a deed
  pub beside_deed : ((j : ℕ) → j < length site.entries → after (state_place site.block j) ≡ words (state_place site.block j)) → ((j : ℕ) (entry : Entry) → IsEntry site.entries j entry → after entry.target ≡ words entry.target)
      → ((j : ℕ) → j < length site.entries → took' j ≡ took j) → OwnDeed site words took after took'
  beside_deed states targets same =
      record {
        deed = record {
          turns = λ j entry listed. (let within = slice_get_within site.entries j entry listed in stays (states j within) (targets j entry listed) (same j within));
          taken = λ j within differs. absurd (differs (same j within));
          decided = λ j within differs. absurd (differs (states j within));
        };
        leaves = λ j entry listed. tt;
      }

  -- so is one by which others change targets: they clear bits or raise versions, where the target doesn't show
  -- an entry that is taken and undecided
  pub others_deed : ((j : ℕ) → j < length site.entries → after (state_place site.block j) ≡ words (state_place site.block j)) → ((j : ℕ) (entry : Entry) → IsEntry site.entries j entry → Moves (words entry.target) (after entry.target))
      → ((j : ℕ) (entry : Entry) → IsEntry site.entries j entry → words (state_place site.block j) ≡ 0 → took j ≡ true → after entry.target ≡ words entry.target)
      → ((j : ℕ) → j < length site.entries → took' j ≡ took j) → Deed site words took after took'
  others_deed states targets still same =
      record {
        turns = λ j entry listed. (let within = slice_get_within site.entries j entry listed in moves (targets j entry listed) (still j entry listed) (states j within) (same j within));
        taken = λ j within differs. absurd (differs (same j within));
        decided = λ j within differs. absurd (differs (states j within));
      }

  -- ---- the parts

  pub seen_kept : Deed site words took after took' → OfEach site StandsOrPassed words took → OfEach site StandsOrPassed after took'
  seen_kept deed seen j entry listed =
      seen_turned entry (is.raised j entry listed) _ _ (deed.turns j entry listed) (seen j entry listed)

  pub lives_kept : Deed site words took after took' → OfEach site Life words took → OfEach site Life after took'
  lives_kept deed lives j entry listed =
      life_turned entry (is.raised j entry listed) _ _ (deed.turns j entry listed) (lives j entry listed)

  -- where others leave no bits at the targets
  pub bits_kept : (deed : Deed site words took after took') → ((j : ℕ) (entry : Entry) (listed : IsEntry site.entries j entry) → LeavesBit entry _ _ (deed.turns j entry listed)) → OwnsBits site words took → OwnsBits site after took'
  bits_kept deed leaves owns j entry listed =
      bit_turned entry (is.raised j entry listed) _ _ (deed.turns j entry listed) (leaves j entry listed) (owns j entry listed)

  -- what every step leaves of each entry
  pub all_later : Deed site words took after took' → OfEach site Life words took → (j : ℕ) (entry : Entry) → IsEntry site.entries j entry → Later entry (view_in site words took j entry) (view_in site after took' j entry)
  all_later deed lives j entry listed =
      later entry (is.raised j entry listed) _ _ (lives j entry listed) (deed.turns j entry listed)

  pub state_stays : Deed site words took after took' → OfEach site Life words took → (j : ℕ) → j < length site.entries → words (state_place site.block j) ≢ 0 → after (state_place site.block j) ≡ words (state_place site.block j)
  state_stays deed lives j within decided =
      let at = entry_at site.entries j within in
      (all_later deed lives j at.0 at.1).decided decided

  pub order_kept : Deed site words took after took' → OfEach site Life words took → InOrder site words took → InOrder site after took'
  order_kept deed lives order j within =
      record {
        taken = λ is i before. stays i before (was_taken (took j) refl is i before);
        decided = λ decided i before. stays i before (was_decided decided i before);
      }
    where
      stays : (i : ℕ) → i < j → words (state_place site.block i) ≡ 1 → after (state_place site.block i) ≡ 1
      stays i before one = state_stays deed lives i (omega arith) (λ e. absurd (omega (arith, e, one))) ∙ one

      was_taken : (b : Bool) → took j ≡ b → took' j ≡ true → (i : ℕ) → i < j → words (state_place site.block i) ≡ 1
      was_taken true was is i before = (order j within).taken was i before
      was_taken false was is i before = deed.taken j within (λ e. absurd (true≢false (took' j) is (e ∙ was))) i before

      was_decided : after (state_place site.block j) ≢ 0 → (i : ℕ) → i < j → words (state_place site.block i) ≡ 1
      was_decided decided i before =
          elim (cases_eq (after (state_place site.block j)) (words (state_place site.block j))) [
            | inl same ↦ (order j within).decided (λ e. decided (same ∙ e)) i before
            | inr differs ↦ deed.decided j within differs i before
          ]

  pub offered_kept : Deed site words took after took' → Offered site words took → Offered site after took'
  offered_kept deed on = record { seen = seen_kept deed on.seen; lives = lives_kept deed on.lives; order = order_kept deed on.lives on.order }

  -- ---- helpers

  done_kept : Deed site words took after took' → OfEach site Life words took → (place : ℕ) → AreDone site words took place → AreDone site after took' place
  done_kept deed lives place done j entry listed before = done_later entry _ _ (all_later deed lives j entry listed) (done j entry listed before)

  pub knows_kept : Deed site words took after took' → OfEach site Life words took → (walk : SlowWalk) → Knows site words took walk → Knows site after took' walk
  knows_kept deed lives walk k =
      record {
        block = k.block;
        entries = k.entries;
        within = k.within;
        done = done_kept deed lives walk.next k.done;
        at_entry = λ entry listed. knows_later walk.step entry _ _ (all_later deed lives walk.next entry listed) (k.at_entry entry listed);
      }

  pub stop_kept : Deed site words took after took' → OfEach site Life words took → (stop : ℕ) → KnowsStop site words took stop → KnowsStop site after took' stop
  stop_kept deed lives stop k =
      record {
        within = k.within;
        done = done_kept deed lives stop k.done;
        failed = λ within. state_stays deed lives stop within (λ e. absurd (omega (arith, e, k.failed within))) ∙ k.failed within;
      }

  pub helps_kept : Deed site words took after took' → OfEach site Life words took → (walk : SlowWalk) (execution : Execution) → Helps site words took walk execution → Helps site after took' walk execution
  helps_kept deed lives walk Running k = knows_kept deed lives walk k
  helps_kept deed lives walk (Stopped stop) k = stop_kept deed lives stop k
