-- Work behind the look at the head stays work on the record that was loaded, which fits it, or the record is loaded anew. It
-- never ends helping by itself: only another record or another head does, or the removal.
use Rattle.std.proofs.Common.{◌≡◌, refl, ap, ℕ, ◌+◌, ◌==◌, Bool, true, false, if◌then◌else◌, List, length, Option, Some, None, inl, inr}
use Rattle.std.specs.Prelude.{nat_lt}
use Rattle.arrayvec.specs.ArrayVec.{ArrayVec}
use Rattle.lin_report.specs.declared.calls.Op.{Op}
use Rattle.lin_report.specs.declared.calls.Reply.TheVariants.{Exhausted}
use Rattle.lin_report.specs.declared.calls.Outcome.TheVariants.{Plain}
use Rattle.step_memory.specs.declared.steps.Seen.{Seen}
use Rattle.word_fields.specs.declared.records.RecordPhase.{RecordPhase}
use Rattle.word_fields.specs.declared.records.RecordPhase.TheVariants.{Idle, Generate, Executing, Wrapping, Completed}
use Rattle.word_fields.specs.Records.{record_phase}
use Rattle.normal_traits.specs.declared.lists.Entry.{Entry}
use Rattle.normal_traits.specs.declared.form.Found.{Found}
use Rattle.normal_traits.specs.declared.form.Found.TheVariants as found
use Rattle.normal_traits.specs.declared.form.Wrapped.{Wrapped}
use Rattle.normal_traits.specs.declared.form.Wrapped.TheVariants as wrapped
use Rattle.normal_traits.specs.NormalForm.{NormalForm}
use Rattle.cas_executor.specs.declared.fast_run.Execution.{Execution}
use Rattle.cas_executor.specs.declared.fast_run.Execution.TheVariants as execution
use Rattle.cas_executor.specs.SlowRuns.{SlowWalk}
use Rattle.cas_executor.specs.BlockReads.{ReadWalk}
use Rattle.help_queue.specs.Gathers.{is_open}
use Rattle.help_queue_laws.specs.declared.phases.Helping.TheVariants as at
use Rattle.help_queue_laws.proofs.Known.QueueWords.{not_both}
use Rattle.fast_slow_engine.specs.declared.phases.Generating.{Generating}
use Rattle.fast_slow_engine.specs.declared.phases.Generating.TheVariants.{Search, LookForBlock, Claim}
use Rattle.fast_slow_engine.specs.declared.help.Work.{Work}
use Rattle.fast_slow_engine.specs.declared.help.Work.TheVariants as work
use Rattle.fast_slow_engine.specs.Hands.{holds_none}
use Rattle.fast_slow_engine.specs.HelpTable.{filling, found_work, first_work, wrapped_work, executed_work, wrapping_up, given_work, read_work, generated_work, work_fed, again_if, contended, read_turn, work_turn, is_over}
use Rattle.fast_slow_engine.specs.HelpWords.{is_executing}
use Rattle.run_queue.specs.QueueViews.{work_view}
use Rattle.run_queue.specs.Fits.{GoesTo, IsEngagedWord, WorkFits}

generate_open : (word : ℕ) → record_phase word ≡ Generate → is_open (record_phase word) ≡ true
generate_open word h = ap is_open h

executing_is : (p : RecordPhase) → is_executing p ≡ true → p ≡ Executing
executing_is Idle h = absurd (not_both h refl)
executing_is Generate h = absurd (not_both h refl)
executing_is Executing h = refl
executing_is Wrapping h = absurd (not_both h refl)
executing_is Completed h = absurd (not_both h refl)

wrapping_is : (word : ℕ) → IsEngagedWord word → is_executing (record_phase word) ≡ false → record_phase word ≡ Wrapping
wrapping_is word h none = elim h [ inl executing ↦ absurd (not_both (ap is_executing executing) none) | inr wrapping ↦ wrapping ]

module _ {S W : Type 0} where
  -- work behind the look, on a record that fits it
  pub record Works (word : ℕ) (does : Work S W) : Type 0 where
    pub view : work_view does word ≡ at.Complete word
    pub fits : WorkFits word does

  works_if : (word : ℕ) (b : Bool) (x y : Work S W) → (b ≡ true → Works word x) → (b ≡ false → Works word y) → Works word (if b then x else y)
  works_if word true x y h k = h refl
  works_if word false x y h k = k refl

  -- the work is behind the look at the head
  abbrev pub IsBehind : Work S W → Type 0
  IsBehind work.Head = ⊥
  IsBehind _ = Unit {0}

  pub behind_view : (does : Work S W) (word : ℕ) → IsBehind does → work_view does word ≡ at.Complete word
  behind_view work.Head word h = absurd h
  behind_view work.Op word h = refl
  behind_view (work.Value op) word h = refl
  behind_view (work.Generate op s at) word h = refl
  behind_view (work.Fill stores made) word h = refl
  behind_view (work.Advance to) word h = refl
  behind_view (work.Read read) word h = refl
  behind_view (work.Execute run) word h = refl
  behind_view (work.Wrap wrap) word h = refl

  module _ (form : NormalForm S W) (word : ℕ) where
    works_first : (p : RecordPhase) → record_phase word ≡ p → is_open p ≡ true → Works word (first_work form p word)
    works_first Idle is opened = absurd (not_both opened refl)
    works_first Generate is opened = record { view = refl; fits = is }
    works_first Executing is opened = record { view = refl; fits = inl is }
    works_first Wrapping is opened = record { view = refl; fits = inr is }
    works_first Completed is opened = absurd (not_both opened refl)

    works_found : (what : Found) (op : Op) (s : S) (head : ℕ) (hand : Option ℕ) → record_phase word ≡ Generate → Works word (found_work form what op s head word hand)
    works_found found.Going op s head hand is = record { view = refl; fits = is }
    works_found found.Ready op s head hand is =
        works_if word (holds_none hand) (work.Generate op s LookForBlock) (filling form op s head word hand) (λ _. record { view = refl; fits = is }) (λ _. record { view = refl; fits = is })
    works_found (found.Answer outcome) op s head hand is = record { view = refl; fits = GoesTo.completes _ (generate_open word is) refl }
    works_found found.Contended op s head hand is = record { view = refl; fits = is }

    works_wrapped : (what : Wrapped) (wrap : W) → record_phase word ≡ Wrapping → Works word (wrapped_work what wrap word)
    works_wrapped wrapped.Going wrap is = record { view = refl; fits = is }
    works_wrapped (wrapped.Done outcome) wrap is = record { view = refl; fits = GoesTo.completes outcome (ap is_open is) refl }
    works_wrapped wrapped.Restart wrap is = record { view = refl; fits = GoesTo.restarts is refl }

    works_executed : (what : Execution) (run : SlowWalk) → record_phase word ≡ Executing → Works word (executed_work what run word)
    works_executed execution.Running run is = record { view = refl; fits = is }
    works_executed (execution.Stopped stop) run is = record { view = refl; fits = GoesTo.settles stop is refl }

    works_given : (op : Op) (entries : List Entry) → IsEngagedWord word → Works word (given_work form op entries word)
    works_given op entries is =
        works_if word (is_executing (record_phase word)) _ (wrapping_up form op entries word)
        (λ executes. record { view = refl; fits = executing_is (record_phase word) executes }) (λ wraps. works_wrapped _ _ (wrapping_is word is wraps))

    works_read : (read : ReadWalk) (given : Option (ℕ × ℕ × ArrayVec Entry)) → IsEngagedWord word → Works word (read_work form read given word)
    works_read read None is = record { view = refl; fits = is }
    works_read read (Some given) is = works_given _ _ is

    works_generated : (op : Op) (s : S) (step : Generating) (head : ℕ) (hand : Option ℕ) (cap : ℕ) (seen : Seen) → record_phase word ≡ Generate → Works word (generated_work form op s step head word hand cap seen)
    works_generated op s Search head hand cap seen is = works_found _ op _ head hand is
    works_generated op s LookForBlock head hand cap seen is =
        works_if word (nat_lt seen.before cap) _ _ (λ _. record { view = refl; fits = is }) (λ _. record { view = refl; fits = GoesTo.completes (Plain Exhausted) (generate_open word is) refl })
    works_generated op s Claim head hand cap seen is =
        works_if word (nat_lt seen.before cap) _ _ (λ _. record { view = refl; fits = is }) (λ _. record { view = refl; fits = GoesTo.completes (Plain Exhausted) (generate_open word is) refl })

    pub works_on : (does : Work S W) (head : ℕ) (hand : Option ℕ) (cap : ℕ) (seen : Seen) → WorkFits word does → Works word (work_fed form does head word hand cap seen)
    works_on work.Head head hand cap seen h = works_first (record_phase word) refl h
    works_on work.Op head hand cap seen h = record { view = refl; fits = h }
    works_on (work.Value op) head hand cap seen h = record { view = refl; fits = h }
    works_on (work.Generate op s step) head hand cap seen h = works_generated op s step head hand cap seen h
    works_on (work.Fill stores made) head hand cap seen h =
        works_if word (made + 1 == length stores.items) _ _ (λ _. record { view = refl; fits = GoesTo.executes _ h refl }) (λ _. record { view = refl; fits = h })
    works_on (work.Advance to) head hand cap seen h = record { view = refl; fits = h }
    works_on (work.Read read) head hand cap seen h = works_read _ _ h
    works_on (work.Execute run) head hand cap seen h = works_executed _ _ h
    works_on (work.Wrap wrap) head hand cap seen h = works_wrapped _ _ h

    -- ---- it doesn't end helping

    again_goes : (b : Bool) → is_over form (again_if form b) ≡ false
    again_goes true = refl
    again_goes false = refl

    contended_goes : (what : Found) → is_over form (contended form what) ≡ false
    contended_goes found.Going = refl
    contended_goes found.Ready = refl
    contended_goes (found.Answer outcome) = refl
    contended_goes found.Contended = refl

    read_goes : (given : Option (ℕ × ℕ × ArrayVec Entry)) → is_over form (read_turn form given word) ≡ false
    read_goes None = refl
    read_goes (Some given) = again_goes _

    generate_goes : (op : Op) (s : S) (step : Generating) (head : ℕ) (seen : Seen) → is_over form (work_turn form (work.Generate op s step) head word seen) ≡ false
    generate_goes op s Search head seen = contended_goes _
    generate_goes op s LookForBlock head seen = refl
    generate_goes op s Claim head seen = refl

    pub goes_on : (does : Work S W) (head : ℕ) (seen : Seen) → IsBehind does → is_over form (work_turn form does head word seen) ≡ false
    goes_on work.Head head seen h = absurd h
    goes_on work.Op head seen h = again_goes _
    goes_on (work.Value op) head seen h = again_goes _
    goes_on (work.Generate op s step) head seen h = generate_goes op s step head seen
    goes_on (work.Fill stores made) head seen h = refl
    goes_on (work.Advance to) head seen h = refl
    goes_on (work.Read read) head seen h = read_goes _
    goes_on (work.Execute run) head seen h = refl
    goes_on (work.Wrap wrap) head seen h = refl
