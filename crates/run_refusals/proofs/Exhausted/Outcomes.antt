-- Which words tell that no block is left, and that nothing but a search that found none comes to them.
use Rattle.std.specs.Prelude.{unwrap_or, Bool, true, false, if◌then◌else◌}
use Rattle.std.proofs.Common.{◌≡◌, ◌≢◌, ◌∙◌, refl, sym, subst, ap, ℕ, ◌<◌, ◌^◌, ◌%◌, Option, Some, None, arith}
use Rattle.lin_report.specs.declared.calls.Outcome.{Outcome}
use Rattle.lin_report.specs.declared.calls.Outcome.TheVariants.{Plain, ValueOf}
use Rattle.lin_report.specs.declared.calls.Reply.{Reply}
use Rattle.lin_report.specs.declared.calls.Reply.TheVariants.{Yes, No, Done, Value, Empty, Absent, Exhausted}
use Rattle.word_fields.specs.declared.records.RecordPhase as marks
use Rattle.word_fields.specs.declared.records.RecordPhase.TheVariants as record_phases
use Rattle.word_fields.specs.declared.records.RecordWord.{RecordWord}
use Rattle.word_fields.specs.Records.{record_of, record_phase, record_word}
use Rattle.word_fields.proofs.RecordWords.{phase-word}
use Rattle.op_record.specs.Outcomes.{FitsPayload, completed_word, is_completed, outcome_of}
use Rattle.op_record.proofs.OutcomesReadBack.{outcome_of-completed}
use Rattle.help_queue.specs.Enters.{outcome_or_done}
use Rattle.normal_traits.specs.World.{ChangedBy, World}
use Rattle.normal_traits.specs.NormalForm.{NormalForm}
use Rattle.fast_slow_engine.specs.declared.phases.Phase.{Phase}
use Rattle.fast_slow_engine.specs.declared.phases.Phase.TheVariants.{End}
use Rattle.fast_slow_engine.specs.HelpWords.{fitted, told_word}
use Rattle.fast_slow_engine.specs.Mechs.{Mech}
use Rattle.fast_slow_engine.specs.PhaseTable.{told}
use Rattle.offered_blocks.specs.Blocks.{Offer}
use Rattle.helper_knowledge.specs.Callers.{Caller}
use Rattle.helper_knowledge.specs.WorkKnown.{MayAdvance}
use Rattle.helper_knowledge.specs.WorkKnown.MayAdvance.{offers_it, answers, exhausts, settles, completes, restarts}
use Rattle.run_invariant.proofs.Tells.Values.{AreReplied}
use Rattle.run_invariant.proofs.Tells.Replies.{changed_not}
use Rattle.run_refusals.specs.NoneLeft.{TellsNone}

mod_small : (n : ℕ) → n % 2 ^ 20 < 2 ^ 20
mod_small n = omega arith

-- a fitted outcome fits
fitted_fits : (outcome : Outcome) → FitsPayload (fitted outcome)
fitted_fits (Plain Yes) = omega arith
fitted_fits (Plain No) = omega arith
fitted_fits (Plain Done) = omega arith
fitted_fits (Plain (Value value)) = mod_small value
fitted_fits (Plain Empty) = omega arith
fitted_fits (Plain Absent) = omega arith
fitted_fits (Plain Exhausted) = omega arith
fitted_fits (ValueOf reference) = mod_small reference

-- and no other becomes Exhausted
fitted_exhausted : (outcome : Outcome) → fitted outcome ≡ Plain Exhausted → outcome ≡ Plain Exhausted
fitted_exhausted (Plain Yes) is = is
fitted_exhausted (Plain No) is = is
fitted_exhausted (Plain Done) is = is
fitted_exhausted (Plain (Value value)) is = absurd cc
fitted_exhausted (Plain Empty) is = is
fitted_exhausted (Plain Absent) is = is
fitted_exhausted (Plain Exhausted) is = is
fitted_exhausted (ValueOf reference) is = absurd cc

some_outcome : (a b : Outcome) → Some a ≡ Some b → a ≡ b
some_outcome a b e = cc

-- of a completed word, its outcome is it
pub completed_tells : (from : RecordWord) (outcome : Outcome) → FitsPayload outcome → TellsNone (completed_word from outcome) → outcome ≡ Plain Exhausted
completed_tells from outcome fits tells = some_outcome outcome (Plain Exhausted) (sym (outcome_of-completed from outcome fits) ∙ tells)

pub told_tells : (word : ℕ) (outcome : Outcome) → TellsNone (told_word word outcome) → outcome ≡ Plain Exhausted
told_tells word outcome tells = fitted_exhausted outcome (completed_tells (record_of word) (fitted outcome) (fitted_fits outcome) tells)

-- a word in any other phase tells nothing
cond_none : (b : Bool) (x : Option Outcome) (told : Outcome) → b ≡ false → (if b then x else None) ≡ Some told → ⊥
cond_none true x told off is = absurd cc
cond_none false x told off is = absurd cc

pub untold : {A : Type 0} (word : ℕ) → is_completed (record_phase word) ≡ false → TellsNone word → A
unfolding outcome_of
untold word other tells = absurd (cond_none (is_completed (record_phase word)) _ (Plain Exhausted) other tells)

-- so a word made for another phase tells nothing
pub untold_word : {A : Type 0} (p : marks.RecordPhase) (number round payload : ℕ) → is_completed p ≡ false → TellsNone (record_word p number round payload) → A
untold_word p number round payload other tells = untold (record_word p number round payload) (ap is_completed (phase-word p number round payload) ∙ other) tells

-- the outcome that is read of a word, where it is this one
pub done_tells : (word : ℕ) → outcome_or_done word ≡ Plain Exhausted → TellsNone word
done_tells word is = by_told (outcome_of (record_of word)) is
  where
    by_told : (told : Option Outcome) → unwrap_or told (Plain Done) ≡ Plain Exhausted → told ≡ Some (Plain Exhausted)
    by_told None e = absurd cc
    by_told (Some outcome) e = ap Some e

module _ {S W : Type 0} where
  abbrev reply_in : Phase S W → Reply
  reply_in (End reply) = reply
  reply_in _ = Exhausted

  -- a call that is told so ends so
  pub told_end : (outcome : Outcome) (mech : Mech S W) → (told outcome mech).phase ≡ End Exhausted → outcome ≡ Plain Exhausted
  told_end (Plain reply) mech is = ap (λ (p : Phase S W). Plain (reply_in p)) is
  told_end (ValueOf reference) mech is = absurd cc

  -- whoever is to exchange a record that it didn't load in Generate doesn't tell so
  pub advance_not : (form : NormalForm S W) (world : World) (offers : ℕ → Option (Offer S)) (caller : Caller) (head word : ℕ) (hand : Option ℕ) (filled : Option (Offer S)) (to : ℕ) → AreReplied form.object world.changes
      → MayAdvance form world offers caller head word hand filled to → record_phase word ≢ record_phases.Generate → TellsNone to → ⊥
  advance_not form world offers caller head word hand filled to replied (offers_it block stores generates has is knows) other tells = other generates
  advance_not form world offers caller head word hand filled to replied (answers since op outcome generates is fits knows) other tells = other generates
  advance_not form world offers caller head word hand filled to replied (exhausts generates is) other tells = other generates
  advance_not form world offers caller head word hand filled to replied (settles stop offer executing of is stops) other tells = untold_word record_phases.Wrapping _ _ _ refl (subst TellsNone is tells)
  advance_not form world offers caller head word hand filled to replied (completes outcome offer wrapping of is fits by fixed) other tells =
      let exhausted = completed_tells (record_of word) outcome fits (subst TellsNone is tells) in
      changed_not form.object form.tellable world offer.list Exhausted replied (subst (ChangedBy world offer.list) exhausted by) refl
  advance_not form world offers caller head word hand filled to replied (restarts offer wrapping of is dead) other tells = untold_word record_phases.Generate _ _ _ refl (subst TellsNone is tells)
