-- A step puts a block into the hand where it claims one, and takes it out where it names it.
use Rattle.std.proofs.Common.{◌≡◌, refl, ap, ℕ, ◌+◌, ◌==◌, ◌≤◌, Bool, true, false, if◌then◌else◌, length, Option, Some, None, arith}
use Rattle.std.specs.Prelude.{nat_lt, ◌&&◌}
use Rattle.std.proofs.lemmas.Bool.{and_parts}
use Rattle.lin_report.specs.declared.calls.Op.{Op}
use Rattle.lin_report.specs.declared.calls.Reply.TheVariants as reply
use Rattle.lin_report.specs.declared.calls.Outcome.{Outcome}
use Rattle.lin_report.specs.declared.calls.Outcome.TheVariants.{Plain}
use Rattle.step_memory.specs.declared.steps.Seen.{Seen}
use Rattle.arrayvec.specs.ArrayVec.{ArrayVec}
use Rattle.word_fields.specs.declared.records.RecordPhase.{RecordPhase}
use Rattle.word_fields.specs.declared.records.RecordPhase.TheVariants as marks
use Rattle.word_fields.specs.Records.{record_phase}
use Rattle.word_fields.proofs.RecordWords.{phase-word}
use Rattle.normal_traits.specs.declared.lists.Entry.{Entry}
use Rattle.normal_traits.specs.declared.form.Found.{Found}
use Rattle.normal_traits.specs.declared.form.Found.TheVariants as found
use Rattle.normal_traits.specs.declared.form.Wrapped.{Wrapped}
use Rattle.normal_traits.specs.declared.form.Wrapped.TheVariants as wrapped
use Rattle.normal_traits.specs.NormalForm.{NormalForm}
use Rattle.cas_executor.specs.declared.fast_run.Execution.{Execution}
use Rattle.cas_executor.specs.declared.fast_run.Execution.TheVariants as execution
use Rattle.cas_executor.specs.SlowRuns.{SlowWalk}
use Rattle.cas_executor.specs.BlockReads.{ReadWalk}
use Rattle.help_queue_laws.proofs.Known.QueueWords.{not_both}
use Rattle.fast_slow_engine.specs.declared.phases.Generating.TheVariants.{Search, LookForBlock, Claim}
use Rattle.fast_slow_engine.specs.declared.help.Work.{Work}
use Rattle.fast_slow_engine.specs.declared.help.Work.TheVariants as work
use Rattle.fast_slow_engine.specs.declared.help.WorkTurn.{WorkTurn}
use Rattle.fast_slow_engine.specs.declared.help.WorkTurn.TheVariants.{Going, Again, Over}
use Rattle.fast_slow_engine.specs.Hands.{holds_none}
use Rattle.fast_slow_engine.specs.HelpTable.{filling, found_work, first_work, wrapped_work, executed_work, wrapping_up, read_work, work_fed, work_hand, work_turn, worked}
use Rattle.fast_slow_engine.specs.HelpWords.{is_executing, told_word}
use Rattle.run_queue.specs.Rounds.{names_work, one_if}
use Rattle.run_queue.specs.HeldBlocks.{claims_work, in_hand, WorkHand, HelpingHand}

told_names : (word : ℕ) (outcome : Outcome) → is_executing (record_phase (told_word word outcome)) ≡ false
told_names word outcome = ap is_executing (phase-word marks.Completed _ _ _)

filled_hand : (hand : Option ℕ) → holds_none hand ≡ false → 1 ≤ in_hand hand
filled_hand None h = absurd cc
filled_hand (Some block) h = omega arith

module _ {S W : Type 0} where
  hand_if : (hand : Option ℕ) (b : Bool) (x y : Work S W) → (b ≡ true → WorkHand x hand) → (b ≡ false → WorkHand y hand) → WorkHand (if b then x else y) hand
  hand_if hand true x y h k = h refl
  hand_if hand false x y h k = k refl

  module _ (form : NormalForm S W) (word : ℕ) where
    hand_wrapped : (what : Wrapped) (wrap : W) (hand : Option ℕ) → WorkHand {S = S} {W = W} (wrapped_work what wrap word) hand
    hand_wrapped wrapped.Going wrap hand = tt
    hand_wrapped (wrapped.Done outcome) wrap hand = λ names. absurd (not_both names (told_names word outcome))
    hand_wrapped wrapped.Restart wrap hand = λ names. absurd (not_both names (ap is_executing (phase-word marks.Generate _ _ _)))

    hand_executed : (what : Execution) (run : SlowWalk) (hand : Option ℕ) → WorkHand (executed_work {S = S} {W = W} what run word) hand
    hand_executed execution.Running run hand = tt
    hand_executed (execution.Stopped stop) run hand = λ names. absurd (not_both names (ap is_executing (phase-word marks.Wrapping _ _ _)))

    hand_read : (read : ReadWalk) (given : Option (ℕ × ℕ × ArrayVec Entry)) (hand : Option ℕ) → WorkHand (read_work form read given word) hand
    hand_read read None hand = tt
    hand_read read (Some given) hand = hand_if hand (is_executing (record_phase word)) _ (wrapping_up form _ given.2.items word) (λ _. tt) (λ _. hand_wrapped _ _ hand)

    hand_first : (p : RecordPhase) (hand : Option ℕ) → WorkHand (first_work form p word) hand
    hand_first marks.Idle hand = tt
    hand_first marks.Generate hand = tt
    hand_first marks.Executing hand = tt
    hand_first marks.Wrapping hand = tt
    hand_first marks.Completed hand = tt

    hand_found : (what : Found) (op : Op) (s : S) (head : ℕ) (hand : Option ℕ) → WorkHand (found_work form what op s head word hand) hand
    hand_found found.Going op s head hand = tt
    hand_found found.Ready op s head hand = hand_if hand (holds_none hand) (work.Generate op s LookForBlock) (filling form op s head word hand) (λ _. tt) (λ some. filled_hand hand some)
    hand_found (found.Answer outcome) op s head hand = λ names. absurd (not_both names (told_names word outcome))
    hand_found found.Contended op s head hand = tt

    -- what the hand holds after the step, where the record is not loaded anew
    claimed_work : (b : Bool) (op : Op) (s : S) (head before : ℕ) (hand : Option ℕ) → WorkHand (if b then filling form op s head word (Some (before + 1)) else work.Advance (told_word word (Plain reply.Exhausted))) (if b then Some (before + 1) else hand)
    claimed_work true op s head before hand = omega arith
    claimed_work false op s head before hand = λ names. absurd (not_both names (told_names word (Plain reply.Exhausted)))

    worked_hand : (turn : WorkTurn) (does : Work S W) (hand : Option ℕ) → WorkHand does hand → HelpingHand (worked form turn word does) hand
    worked_hand Going does hand h = h
    worked_hand Again does hand h = tt
    worked_hand Over does hand h = h

    pub hand_on : (does : Work S W) (head : ℕ) (hand : Option ℕ) (cap : ℕ) (seen : Seen) → WorkHand does hand
        → HelpingHand (worked form (work_turn form does head word seen) word (work_fed form does head word hand cap seen)) (work_hand does hand cap seen)
    hand_on work.Head head hand cap seen h = worked_hand (work_turn form work.Head head word seen) (first_work form (record_phase word) word) hand (hand_first (record_phase word) hand)
    hand_on work.Op head hand cap seen h = worked_hand (work_turn form work.Op head word seen) _ hand tt
    hand_on (work.Value op) head hand cap seen h = worked_hand (work_turn form (work.Value op) head word seen) (work_fed form (work.Value op) head word hand cap seen) hand tt
    hand_on (work.Generate op s Search) head hand cap seen h = worked_hand (work_turn form (work.Generate op s Search) head word seen) (work_fed form (work.Generate op s Search) head word hand cap seen) hand (hand_found (form.found_of s seen) op (form.feed_of s seen) head hand)
    hand_on (work.Generate op s LookForBlock) head hand cap seen h =
        hand_if hand (nat_lt seen.before cap) (work.Generate op s Claim) (work.Advance (told_word word (Plain reply.Exhausted))) (λ _. tt) (λ _ names. absurd (not_both names (told_names word (Plain reply.Exhausted))))
    hand_on (work.Generate op s Claim) head hand cap seen h = claimed_work (nat_lt seen.before cap) op s head seen.before hand
    hand_on (work.Fill stores made) head hand cap seen h = hand_if hand (made + 1 == length stores.items) _ (work.Fill stores (made + 1)) (λ _ _. h) (λ _. h)
    hand_on (work.Advance to) head hand cap seen h = tt
    hand_on (work.Read read) head hand cap seen h = worked_hand (work_turn form (work.Read read) head word seen) (work_fed form (work.Read read) head word hand cap seen) hand (hand_read _ _ hand)
    hand_on (work.Execute run) head hand cap seen h = hand_executed _ _ hand
    hand_on (work.Wrap wrap) head hand cap seen h = hand_wrapped (form.wrap_found_of wrap seen) (form.feed_wrap_of wrap seen) hand

    -- a block comes by a claim, and goes by its name
    claim_count : (b : Bool) (before : ℕ) (hand : Option ℕ) → in_hand (if b then Some (before + 1) else hand) + 0 ≤ in_hand hand + one_if b
    claim_count true before None = omega arith
    claim_count true before (Some block) = omega arith
    claim_count false before hand = omega arith

    name_count : (b : Bool) (hand : Option ℕ) → (b ≡ true → 1 ≤ in_hand hand) → in_hand (if b then None else hand) + one_if b ≤ in_hand hand + 0
    name_count true hand some = let full = some refl in omega (arith, full)
    name_count false hand some = omega arith

    pub work_count : (does : Work S W) (hand : Option ℕ) (cap : ℕ) (seen : Seen) → WorkHand does hand → in_hand (work_hand does hand cap seen) + one_if (names_work does seen) ≤ in_hand hand + one_if (claims_work does && nat_lt seen.before cap)
    work_count work.Head hand cap seen h = omega arith
    work_count work.Op hand cap seen h = omega arith
    work_count (work.Value op) hand cap seen h = omega arith
    work_count (work.Generate op s Search) hand cap seen h = omega arith
    work_count (work.Generate op s LookForBlock) hand cap seen h = omega arith
    work_count (work.Generate op s Claim) hand cap seen h = claim_count (nat_lt seen.before cap) seen.before hand
    work_count (work.Fill stores made) hand cap seen h = omega arith
    work_count (work.Advance to) hand cap seen h = name_count (seen.won && is_executing (record_phase to)) hand (λ both. h (and_parts seen.won (is_executing (record_phase to)) both).1)
    work_count (work.Read read) hand cap seen h = omega arith
    work_count (work.Execute run) hand cap seen h = omega arith
    work_count (work.Wrap wrap) hand cap seen h = omega arith
