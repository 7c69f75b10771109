-- A helper that asks for no block goes to work that claims none, and keeps the block in hand or gives it to a record.
use Rattle.std.proofs.Common.{rules, ◌≡◌, refl, ℕ, ◌+◌, ◌==◌, ◌&&◌, Bool, true, false, if◌then◌else◌, ◌⊎◌, inl, inr, length, Option, Some, None}
use Rattle.lin_report.specs.declared.calls.Op.{Op}
use Rattle.step_memory.specs.declared.steps.Seen.{Seen}
use Rattle.word_fields.specs.declared.records.RecordPhase.{RecordPhase}
use Rattle.word_fields.specs.declared.records.RecordPhase.TheVariants as marks
use Rattle.word_fields.specs.Records.{record_number, record_phase}
use Rattle.arrayvec.specs.ArrayVec.{ArrayVec}
use Rattle.normal_traits.specs.declared.lists.Entry.{Entry}
use Rattle.normal_traits.specs.declared.form.Found.{Found}
use Rattle.normal_traits.specs.declared.form.Found.TheVariants as found
use Rattle.normal_traits.specs.declared.form.Wrapped.{Wrapped}
use Rattle.normal_traits.specs.declared.form.Wrapped.TheVariants as wrapped
use Rattle.normal_traits.specs.NormalForm.{NormalForm}
use Rattle.cas_executor.specs.declared.fast_run.Execution.{Execution}
use Rattle.cas_executor.specs.declared.fast_run.Execution.TheVariants as execution
use Rattle.cas_executor.specs.SlowRuns.{SlowWalk, slow_execution, slow_fed}
use Rattle.cas_executor.specs.BlockReads.{ReadWalk, read_fed, read_result}
use Rattle.fast_slow_engine.specs.declared.phases.Generating.TheVariants.{Search, LookForBlock, Claim}
use Rattle.fast_slow_engine.specs.declared.help.Helping.{Helping}
use Rattle.fast_slow_engine.specs.declared.help.Helping.TheVariants.{Record, Known, Remove}
use Rattle.fast_slow_engine.specs.declared.help.Work.{Work}
use Rattle.fast_slow_engine.specs.declared.help.Work.TheVariants as work
use Rattle.fast_slow_engine.specs.declared.help.WorkTurn.{WorkTurn}
use Rattle.fast_slow_engine.specs.declared.help.WorkTurn.TheVariants.{Going, Again, Over}
use Rattle.fast_slow_engine.specs.Hands.{block_of, holds_none}
use Rattle.fast_slow_engine.specs.HelpTable.{executed_work, filling, first_work, found_work, helping_fed, helping_hand, read_work, work_fed, work_hand, work_turn, worked, wrapped_work, wrapping_up}
use Rattle.fast_slow_engine.specs.HelpWords.{executing_word, is_executing}
use Rattle.help_queue.specs.Gathers.{is_open}
use Rattle.help_queue.specs.Removes.{remove_new}
use Rattle.run_laws.specs.Claims.{helping_asks, helping_claims, work_asks, work_claims}

kept_or_gone : (b : Bool) (hand : Option ℕ) → ((if b then None else hand) ≡ hand) ⊎ ((if b then None else hand) ≡ None)
kept_or_gone true hand = inr refl
kept_or_gone false hand = inl refl

module _ {S W : Type 0} where
  either : (b : Bool) (x y : Work S W) → work_claims x ≡ false → work_claims y ≡ false → work_claims (if b then x else y) ≡ false
  either true x y h k = h
  either false x y h k = k

  met_claims : (b : Bool) (x y : Helping S W) → helping_claims x ≡ false → helping_claims y ≡ false → helping_claims (if b then x else y) ≡ false
  met_claims true x y h k = h
  met_claims false x y h k = k

  hand_keeps : (does : Work S W) (hand : Option ℕ) (cap : ℕ) (seen : Seen) → work_asks does ≡ false → (work_hand does hand cap seen ≡ hand) ⊎ (work_hand does hand cap seen ≡ None)
  hand_keeps work.Head hand cap seen asks = inl refl
  hand_keeps work.Op hand cap seen asks = inl refl
  hand_keeps (work.Value op) hand cap seen asks = inl refl
  hand_keeps (work.Generate op s Search) hand cap seen asks = inl refl
  hand_keeps (work.Generate op s LookForBlock) hand cap seen asks = inl refl
  hand_keeps (work.Generate op s Claim) hand cap seen asks = absurd (search rules)
  hand_keeps (work.Fill stores made) hand cap seen asks = inl refl
  hand_keeps (work.Advance to) hand cap seen asks = kept_or_gone (seen.won && is_executing (record_phase to)) hand
  hand_keeps (work.Read read) hand cap seen asks = inl refl
  hand_keeps (work.Execute run) hand cap seen asks = inl refl
  hand_keeps (work.Wrap wrap) hand cap seen asks = inl refl

  pub hand_goes : (at : Helping S W) (hand : Option ℕ) (cap : ℕ) (seen : Seen) → helping_asks at ≡ false → (helping_hand at hand cap seen ≡ hand) ⊎ (helping_hand at hand cap seen ≡ None)
  hand_goes (Record known) hand cap seen asks = inl refl
  hand_goes (Known word does) hand cap seen asks = hand_keeps does hand cap seen asks
  hand_goes (Remove removal) hand cap seen asks = inl refl

  module _ (form : NormalForm S W) where
    first_claims : (phase : RecordPhase) (word : ℕ) → work_claims (first_work form phase word) ≡ false
    first_claims marks.Idle word = refl
    first_claims marks.Generate word = refl
    first_claims marks.Executing word = refl
    first_claims marks.Wrapping word = refl
    first_claims marks.Completed word = refl

    wrapped_claims : (what : Wrapped) (wrap : W) (word : ℕ) → work_claims {S = S} {W = W} (wrapped_work what wrap word) ≡ false
    wrapped_claims wrapped.Going wrap word = refl
    wrapped_claims (wrapped.Done outcome) wrap word = refl
    wrapped_claims wrapped.Restart wrap word = refl

    executed_claims : (what : Execution) (run : SlowWalk) (word : ℕ) → work_claims {S = S} {W = W} (executed_work what run word) ≡ false
    executed_claims execution.Running run word = refl
    executed_claims (execution.Stopped stop) run word = refl

    found_claims : (what : Found) (op : Op) (s : S) (head word : ℕ) (hand : Option ℕ) → work_claims (found_work form what op s head word hand) ≡ false
    found_claims found.Going op s head word hand = refl
    found_claims found.Ready op s head word hand = either (holds_none hand) (work.Generate op s LookForBlock) (filling form op s head word hand) refl refl
    found_claims (found.Answer outcome) op s head word hand = refl
    found_claims found.Contended op s head word hand = refl

    read_claims : (read : ReadWalk) (given : Option (ℕ × ℕ × ArrayVec Entry)) (word : ℕ) → work_claims (read_work form read given word) ≡ false
    read_claims read None word = refl
    read_claims read (Some given) word = either (is_executing (record_phase word)) _ (wrapping_up form _ given.2.items word) refl (wrapped_claims _ _ word)

    work_claims_none : (does : Work S W) (head word : ℕ) (hand : Option ℕ) (cap : ℕ) (seen : Seen) → work_asks does ≡ false → work_claims (work_fed form does head word hand cap seen) ≡ false
    work_claims_none work.Head head word hand cap seen asks = first_claims (record_phase word) word
    work_claims_none work.Op head word hand cap seen asks = refl
    work_claims_none (work.Value op) head word hand cap seen asks = refl
    work_claims_none (work.Generate op s Search) head word hand cap seen asks = found_claims (form.found_of s seen) op (form.feed_of s seen) head word hand
    work_claims_none (work.Generate op s LookForBlock) head word hand cap seen asks = absurd (search rules)
    work_claims_none (work.Generate op s Claim) head word hand cap seen asks = absurd (search rules)
    work_claims_none (work.Fill stores made) head word hand cap seen asks = either (made + 1 == length stores.items) (work.Advance (executing_word word (block_of hand))) (work.Fill stores (made + 1)) refl refl
    work_claims_none (work.Advance to) head word hand cap seen asks = refl
    work_claims_none (work.Read read) head word hand cap seen asks = read_claims (read_fed read seen) (read_result read seen) word
    work_claims_none (work.Execute run) head word hand cap seen asks = executed_claims (slow_execution run seen) (slow_fed run seen) word
    work_claims_none (work.Wrap wrap) head word hand cap seen asks = wrapped_claims (form.wrap_found_of wrap seen) (form.feed_wrap_of wrap seen) word

    worked_claims : (turn : WorkTurn) (word : ℕ) (does : Work S W) → work_claims does ≡ false → helping_claims (worked form turn word does) ≡ false
    worked_claims Going word does none = none
    worked_claims Again word does none = refl
    worked_claims Over word does none = none

    pub fed_claims_none : (at : Helping S W) (head seats : ℕ) (hand : Option ℕ) (cap : ℕ) (seen : Seen) → helping_asks at ≡ false → helping_claims (helping_fed form at head seats hand cap seen) ≡ false
    fed_claims_none (Record known) head seats hand cap seen asks = met_claims (is_open (record_phase seen.before)) (Known seen.before work.Head) (Remove (remove_new head (record_number seen.before) seats)) refl refl
    fed_claims_none (Known word does) head seats hand cap seen asks =
        worked_claims (work_turn form does head word seen) word (work_fed form does head word hand cap seen) (work_claims_none does head word hand cap seen asks)
    fed_claims_none (Remove removal) head seats hand cap seen asks = refl
