-- The list that a helper carries, after a step of its work.
use Rattle.std.proofs.Common.{◌≡◌, refl, ap, ℕ, ◌+◌, ◌==◌, nat_lt, if◌then◌else◌, Bool, true, false, length, Option, Some, None, inl, inr, rules}
use Rattle.arrayvec.specs.ArrayVec.{ArrayVec}
use Rattle.lin_report.specs.declared.calls.Op.{Op}
use Rattle.lin_report.specs.declared.calls.Outcome.{Outcome}
use Rattle.lin_report.specs.declared.calls.Outcome.TheVariants.{Plain}
use Rattle.lin_report.specs.declared.calls.Reply.TheVariants.{Exhausted}
use Rattle.step_memory.specs.declared.steps.Seen.{Seen}
use Rattle.word_fields.specs.declared.records.RecordPhase.{RecordPhase}
use Rattle.word_fields.specs.declared.records.RecordPhase.TheVariants as marks
use Rattle.word_fields.specs.Records.{record_phase}
use Rattle.word_fields.proofs.RecordWords.{phase-word}
use Rattle.normal_traits.specs.declared.form.Found.{Found}
use Rattle.normal_traits.specs.declared.form.Found.TheVariants as found
use Rattle.normal_traits.specs.declared.form.Wrapped.{Wrapped}
use Rattle.normal_traits.specs.declared.form.Wrapped.TheVariants as wrapped
use Rattle.normal_traits.specs.declared.lists.Entry.{Entry}
use Rattle.normal_traits.specs.NormalForm.{NormalForm}
use Rattle.cas_executor.specs.declared.fast_run.Execution.{Execution}
use Rattle.cas_executor.specs.declared.fast_run.Execution.TheVariants as execution
use Rattle.cas_executor.specs.SlowRuns.{SlowWalk, slow_execution, slow_fed}
use Rattle.cas_executor.specs.BlockReads.{ReadWalk, read_fed, read_result}
use Rattle.fast_slow_engine.specs.declared.phases.Generating.TheVariants.{Search, LookForBlock, Claim}
use Rattle.fast_slow_engine.specs.declared.help.Work.{Work}
use Rattle.fast_slow_engine.specs.declared.help.Work.TheVariants as work
use Rattle.fast_slow_engine.specs.declared.help.WorkTurn.{WorkTurn}
use Rattle.fast_slow_engine.specs.declared.help.WorkTurn.TheVariants.{Going, Again, Over}
use Rattle.fast_slow_engine.specs.Hands.{block_of}
use Rattle.fast_slow_engine.specs.HelpTable.{contended, executed_work, filling, first_work, found_work, is_over, read_work, work_fed, work_hand, work_turn, worked, wrapped_work, wrapping_up}
use Rattle.fast_slow_engine.specs.HelpWords.{executing_word, is_executing, told_word}
use Rattle.offered_blocks.specs.Blocks.{Offer}
use Rattle.helper_knowledge.specs.Carried.{Carried, OfSome, list_named}
use Rattle.helper_knowledge.specs.HelperStep.{call_in}
use Rattle.run_world.specs.SeatSteps.{filled_worked, named_if}
use Rattle.run_world.specs.Lists.{Advancing, CarriesHelp, CarriesWork, IsFilling}

-- a word that completes a call names no block
told_names : (word : ℕ) (outcome : Outcome) → is_executing (record_phase (told_word word outcome)) ≡ false
told_names word outcome = ap is_executing (phase-word marks.Completed _ _ _)

-- work that doesn't go on leaves no list
abbrev pub NoneUnless : {S : Type 0} → WorkTurn → Option (Offer S) → Type 0
NoneUnless Going filled = Unit {0}
NoneUnless Again filled = filled ≡ None
NoneUnless Over filled = filled ≡ None

none_any : (S : Type 0) (turn : WorkTurn) → NoneUnless {S = S} turn None
none_any S Going = tt
none_any S Again = refl
none_any S Over = refl

pub over_none : {S W : Type 0} (form : NormalForm S W) (turn : WorkTurn) (filled : Option (Offer S)) → is_over form turn ≡ true → NoneUnless turn filled → filled ≡ None
over_none form Going filled over none = absurd (search rules)
over_none form Again filled over none = none
over_none form Over filled over none = none

module _ {S W : Type 0} (form : NormalForm S W) (head word : ℕ) where
  either_work : (b : Bool) (x y : Work S W) (hand : Option ℕ) (filled : Option (Offer S)) → CarriesWork form x head word hand filled → CarriesWork form y head word hand filled → CarriesWork form (if b then x else y) head word hand filled
  either_work true x y hand filled h k = h
  either_work false x y hand filled h k = k

  told_carries : (outcome : Outcome) (hand : Option ℕ) → Advancing form head word hand (told_word word outcome) None
  told_carries outcome hand = inl (told_names word outcome, refl)

  wrapped_carries : (what : Wrapped) (wrap : W) (hand : Option ℕ) → CarriesWork form (wrapped_work what wrap word) head word hand None
  wrapped_carries wrapped.Going wrap hand = refl
  wrapped_carries (wrapped.Done outcome) wrap hand = told_carries outcome hand
  wrapped_carries wrapped.Restart wrap hand = inl (ap is_executing (phase-word marks.Generate _ _ _), refl)

  executed_carries : (what : Execution) (run : SlowWalk) (hand : Option ℕ) → CarriesWork form (executed_work what run word) head word hand None
  executed_carries execution.Running run hand = refl
  executed_carries (execution.Stopped stop) run hand = inl (ap is_executing (phase-word marks.Wrapping _ _ _), refl)

  first_carries : (phase : RecordPhase) (hand : Option ℕ) → CarriesWork form (first_work form phase word) head word hand None
  first_carries marks.Executing hand = refl
  first_carries marks.Wrapping hand = refl
  first_carries _ hand = refl

  read_carries : (read : ReadWalk) (given : Option (ℕ × ℕ × ArrayVec Entry)) (hand : Option ℕ) → CarriesWork form (read_work form read given word) head word hand None
  read_carries read None hand = refl
  read_carries read (Some given) hand = either_work (is_executing (record_phase word)) _ (wrapping_up form _ given.2.items word) hand None refl (wrapped_carries _ _ hand)

  -- the list that a ready search names
  abbrev listed_for : ℕ → S → ℕ → Op → Option ℕ → Offer S
  listed_for identity s since op hand = list_named form identity s since (call_in head word op) (block_of hand)

  filling_carries : (identity : ℕ) (s : S) (since : ℕ) (op : Op) (block : ℕ) → CarriesWork form (filling form op s head word (Some block)) head word (Some block) (Some (listed_for identity s since op (Some block)))
  filling_carries identity s since op block = record { carried = record { seat_is = refl; number_is = refl; hand_is = refl; entries = refl }; made = refl }

  found_carries : (what : Found) (identity : ℕ) (s : S) (since : ℕ) (op : Op) (hand : Option ℕ)
      → (let new = found_work form what op s head word hand in CarriesWork form new head word hand (named_if new (listed_for identity s since op hand)))
  found_carries found.Going identity s since op hand = refl
  found_carries found.Ready identity s since op None = refl
  found_carries found.Ready identity s since op (Some block) = filling_carries identity s since op block
  found_carries (found.Answer outcome) identity s since op hand = told_carries outcome hand
  found_carries found.Contended identity s since op hand = refl

  looked_carries : (b : Bool) (op : Op) (s : S) (hand : Option ℕ) (offer : Offer S)
      → (let new = if b then work.Generate op s Claim else work.Advance (told_word word (Plain Exhausted)) in CarriesWork form new head word hand (named_if new offer))
  looked_carries true op s hand offer = refl
  looked_carries false op s hand offer = told_carries (Plain Exhausted) hand

  claimed_carries : (b : Bool) (identity : ℕ) (s : S) (since : ℕ) (op : Op) (block : ℕ) (hand : Option ℕ)
      → (let new = if b then filling form op s head word (Some block) else work.Advance (told_word word (Plain Exhausted)) in
      let after = if b then Some block else hand in CarriesWork form new head word after (named_if new (listed_for identity s since op after)))
  claimed_carries true identity s since op block hand = filling_carries identity s since op block
  claimed_carries false identity s since op block hand = told_carries (Plain Exhausted) hand

  stored_carries : (b : Bool) (stores : ArrayVec (ℕ × ℕ)) (made : ℕ) (hand : Option ℕ) (filled : Option (Offer S)) → OfSome (IsFilling form head word hand stores) filled
      → CarriesWork form (if b then work.Advance (executing_word word (block_of hand)) else work.Fill stores made) head word hand filled
  stored_carries b stores made hand None is = absurd is
  stored_carries true stores made hand (Some offer) is = inr (record { carried = is.carried; names = ap (λ (h : Option ℕ). executing_word word (block_of h)) is.carried.hand_is })
  stored_carries false stores made hand (Some offer) is = is

  worked_carries : (turn : WorkTurn) (does : Work S W) (hand : Option ℕ) (filled : Option (Offer S)) → NoneUnless turn filled → CarriesWork form does head word hand filled → CarriesHelp form (worked form turn word does) head hand filled
  worked_carries Going does hand filled none is = is
  worked_carries Again does hand filled none is = none
  worked_carries Over does hand filled none is = is

  contended_none : (what : Found) (identity : ℕ) (s : S) (since : ℕ) (op : Op) (hand : Option ℕ)
      → NoneUnless (contended form what) (named_if (found_work form what op s head word hand) (listed_for identity s since op hand))
  contended_none found.Contended identity s since op hand = refl
  contended_none found.Going identity s since op hand = tt
  contended_none found.Ready identity s since op hand = tt
  contended_none (found.Answer outcome) identity s since op hand = tt

  module _ (identity : ℕ) (hand : Option ℕ) (cap : ℕ) (seen : Seen) (own : Carried S) where
    -- work that doesn't go on has none
    pub stops_none : (does : Work S W) → NoneUnless (work_turn form does head word seen) (filled_worked form identity does head word hand cap seen own)
    stops_none (work.Generate op s Search) = contended_none (form.found_of s seen) identity (form.feed_of s seen) own.since op hand
    stops_none (work.Generate op s LookForBlock) = tt
    stops_none (work.Generate op s Claim) = tt
    stops_none (work.Fill stores made) = tt
    stops_none does = none_any S (work_turn form does head word seen)

    -- what is carried after a step of the work, where helping goes on
    pub work_carries : (does : Work S W) → CarriesWork form does head word hand own.filled
        → CarriesHelp form (worked form (work_turn form does head word seen) word (work_fed form does head word hand cap seen)) head (work_hand does hand cap seen) (filled_worked form identity does head word hand cap seen own)
    work_carries work.Head is = worked_carries (work_turn form work.Head head word seen) _ hand None (none_any S (work_turn form work.Head head word seen)) (first_carries (record_phase word) hand)
    work_carries work.Op is = worked_carries (work_turn form work.Op head word seen) (work.Value seen.before) hand None (none_any S (work_turn form work.Op head word seen)) refl
    work_carries (work.Value op) is = worked_carries (work_turn form (work.Value op) head word seen) (work_fed form (work.Value op) head word hand cap seen) hand None (none_any S (work_turn form (work.Value op) head word seen)) refl
    work_carries (work.Generate op s Search) is =
        worked_carries (contended form (form.found_of s seen)) (found_work form (form.found_of s seen) op (form.feed_of s seen) head word hand) hand _
        (contended_none (form.found_of s seen) identity (form.feed_of s seen) own.since op hand) (found_carries (form.found_of s seen) identity (form.feed_of s seen) own.since op hand)
    work_carries (work.Generate op s LookForBlock) is = looked_carries (nat_lt seen.before cap) op s hand _
    work_carries (work.Generate op s Claim) is = claimed_carries (nat_lt seen.before cap) identity s own.since op (seen.before + 1) hand
    work_carries (work.Fill stores made) is = stored_carries (made + 1 == length stores.items) stores (made + 1) hand own.filled is
    work_carries (work.Advance to) is = refl
    work_carries (work.Read read) is = worked_carries (work_turn form (work.Read read) head word seen) (read_work form (read_fed read seen) (read_result read seen) word) hand None (none_any S (work_turn form (work.Read read) head word seen)) (read_carries (read_fed read seen) (read_result read seen) hand)
    work_carries (work.Execute run) is = executed_carries (slow_execution run seen) (slow_fed run seen) hand
    work_carries (work.Wrap wrap) is = wrapped_carries (form.wrap_found_of wrap seen) (form.feed_wrap_of wrap seen) hand
