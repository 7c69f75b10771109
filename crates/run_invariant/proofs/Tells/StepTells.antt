-- What the machine that moves tells after its step, phase by phase, where it told it of the world after the step.
use Rattle.std.proofs.Common.{◌≡◌, ◌∙◌, refl, sym, subst, ap, ℕ, ◌+◌, ◌%◌, ◌^◌, ◌<◌, ◌≤◌, ◌&&◌, min, nat_lt, if◌then◌else◌, Bool, true, false, Option, Some, None, arith}
use Rattle.std.proofs.Math.Nat.{mod-eq_of_lt}
use Rattle.arrayvec.specs.ArrayVec.{ArrayVec}
use Rattle.lin_report.specs.declared.calls.Outcome.{Outcome}
use Rattle.lin_report.specs.declared.calls.Outcome.TheVariants.{Plain, ValueOf}
use Rattle.lin_report.specs.declared.calls.Reply.TheVariants as reply
use Rattle.lin_report.specs.Object.{IsCommandOf}
use Rattle.step_memory.specs.declared.steps.Seen.{Seen}
use Rattle.node_arena.specs.declared.places.TheConstants.{NODE_VALUE}
use Rattle.node_arena.specs.MemoryMap.{block_at, node_place}
use Rattle.node_arena.proofs.PlacesApart.{block_at-node_place}
use Rattle.help_queue.specs.declared.enter.Entering.{Entering}
use Rattle.help_queue.specs.declared.enter.Entering.TheVariants as entering_to
use Rattle.help_queue.specs.Enters.{Owner, enter_fed, entering, outcome_or_done}
use Rattle.help_queue.specs.Gathers.{holds}
use Rattle.help_queue.specs.Heads.{head_of}
use Rattle.normal_traits.specs.declared.form.Found.{Found}
use Rattle.normal_traits.specs.declared.form.Found.TheVariants as found
use Rattle.normal_traits.specs.declared.form.Wrapped.{Wrapped}
use Rattle.normal_traits.specs.declared.form.Wrapped.TheVariants as wrapped
use Rattle.normal_traits.specs.World.{Listed, World}
use Rattle.normal_traits.specs.NormalForm.{NormalForm}
use Rattle.normal_traits.specs.Laws.{FoundWell, Laws, WrappedWell}
use Rattle.normal_traits.specs.Steps.{Requested}
use Rattle.cas_executor.specs.declared.fast_run.Execution.{Execution}
use Rattle.cas_executor.specs.declared.fast_run.Execution.TheVariants as execution
use Rattle.cas_executor.specs.FastRuns.{FastWalk, fast_execution, fast_fed}
use Rattle.fast_slow_engine.specs.declared.phases.Announcing.{Announcing}
use Rattle.fast_slow_engine.specs.declared.phases.Announcing.TheVariants as announcing
use Rattle.fast_slow_engine.specs.declared.phases.Phase.{Phase}
use Rattle.fast_slow_engine.specs.declared.phases.Phase.TheVariants as phase
use Rattle.fast_slow_engine.specs.declared.phases.Generating.TheVariants.{Search, LookForBlock, Claim}
use Rattle.fast_slow_engine.specs.declared.phases.Applying.TheVariants.{Fill, Execute}
use Rattle.fast_slow_engine.specs.declared.help.Help as helper
use Rattle.fast_slow_engine.specs.declared.help.Helping.TheVariants.{Record}
use Rattle.fast_slow_engine.specs.Hands.{holds_none}
use Rattle.fast_slow_engine.specs.HelpTable.{help_fed, helping_ends, helping_hand}
use Rattle.fast_slow_engine.specs.Mechs.{Mech}
use Rattle.fast_slow_engine.specs.PhaseTable.{announced, entered, executed, head_helped, helped, in_phase, may_search, offered, rests, searched, spent, stepped, told, tried, with_hand, wrapped_up}
use Rattle.offered_blocks.specs.Blocks.{Offer}
use Rattle.offered_blocks.specs.Records.{MadeBy, MadeNone, TellsRight}
use Rattle.offered_blocks.specs.Records.TellsRight.{observed, changed, refused}
use Rattle.move_kinds.specs.Moves.{Leaves}
use Rattle.helper_knowledge.specs.Callers.{Caller, called}
use Rattle.helper_knowledge.specs.Carried.{Carried, OfSome}
use Rattle.helper_knowledge.specs.HelperStep.{UsedSmall}
use Rattle.run_queue.specs.QueueLaws.{finished_with, outcome_in}
use Rattle.kept_knowledge.specs.Ghosts.{Held, SeatGhost, stopped_at, stopped_in}
use Rattle.kept_knowledge.specs.Lists.{IsHeld, IsOffering}
use Rattle.kept_knowledge.specs.SeatSteps.{begun_after, held_in, list_after, newly_held}
use Rattle.kept_knowledge.specs.Known.{KnowsRun, KnowsWrap}
use Rattle.kept_knowledge.specs.Moves.{Enters, RestsMove, StepsIn}
use Rattle.kept_knowledge.specs.Tells.{CountsIn, TellsIn}
use Rattle.run_invariant.proofs.Tells.NewChanges.{not_both}
use Rattle.run_invariant.proofs.Tells.OwnLists.{run_ends, wrap_goes}
use Rattle.run_invariant.proofs.Tells.Values.{AnswersWell, answer_small, change_small}

value_not : {A : Type 0} (reference : ℕ) → ValueOf reference ≡ Plain reply.Exhausted → A
value_not reference is = absurd cc

module _ {S W : Type 0} (form : NormalForm S W) (laws : Laws form) (after : World) (shape : form.shape after) (used : UsedSmall after) (one : Mech S W) (begun : ℕ) (carried : Carried S) where
  -- what the machine that moves tells where it becomes this, with what is left of a list
  abbrev Tells : Mech S W → Option (Held S) → Type 0
  Tells new list = TellsIn form new.phase one (record { begun = begun; held = held_in new.phase list; carried = carried }) after

  abbrev None_made : Type 0
  None_made = MadeNone after (called one)

  -- ---- a call that is told

  -- the value that is told is that of a node of a used block
  right_used : (reference : ℕ) → TellsRight form after (called one) begun (ValueOf reference) → after.used (block_at (node_place reference NODE_VALUE)) ≡ true
  right_used reference (observed right fixed made) = right.told.0
  right_used reference (changed list call by fixed made) = by.told.0
  right_used reference (refused is made) = value_not reference is

  pub told_tells : (outcome : Outcome) (mech : Mech S W) (list : Option (Held S)) → TellsRight form after (called one) begun outcome → Tells (told outcome mech) list
  told_tells (Plain answer) mech list right = right
  told_tells (ValueOf reference) mech list right =
      let block = used (block_at (node_place reference NODE_VALUE)) (right_used reference right) in
      let few : reference < 2 ^ 20 = omega (arith, block, block_at-node_place reference 1 (omega arith)) in
      let same : reference % 2 ^ 20 ≡ reference = mod-eq_of_lt few in
      subst (λ r. TellsRight form after (called one) begun (ValueOf r)) (sym same) right

  -- ---- searches

  tried_if : (b : Bool) (list : Option (Held S)) (mech : Mech S W) → None_made → Tells (if b then in_phase (phase.Generate (form.begin_of mech.op) Search) mech else in_phase (phase.Announce announcing.Value) mech) list
  tried_if true list mech made = made
  tried_if false list mech made = made

  tried_tells : (list : Option (Held S)) (mech : Mech S W) → None_made → Tells (tried form mech) list
  tried_tells list mech made = tried_if (may_search mech) list mech made

  -- a list that is named made no change where its call made none
  none_by : (list : Listed) → None_made → MadeBy after (called one) list
  none_by list made change among of = absurd (made change among of)

  readied_if : (b : Bool) (s : S) (mech : Mech S W) (held : Held S) → None_made → Tells (if b then in_phase (phase.Generate s LookForBlock) mech else offered form s mech) (Some held)
  readied_if true s mech held made = made
  readied_if false s mech held made = none_by held.list made

  searched_tells : (what : Found) (s fed : S) (since : ℕ) (mech : Mech S W) (held : Held S) → begun ≤ since → None_made → FoundWell form after one.op since fed what → Tells (searched form what s mech) (Some held)
  searched_tells found.Going s fed since mech held early made well = made
  searched_tells found.Ready s fed since mech held early made well = readied_if (form.needs_block mech.op && holds_none mech.hand) s mech held made
  searched_tells (found.Answer outcome) s fed since mech held early made well =
      let right = well.0 in
      told_tells outcome mech (Some held)
      (observed (record { count = right.count; not_before = (let late = right.not_before in omega (arith, late, early)); made = right.made; observes = right.observes; told = right.told }) well.1 made)
  searched_tells found.Contended s fed since mech held early made well = tried_tells (Some held) (record mech { failures = min (mech.failures + 1) mech.setup.limit }) made

  looked_tells : (b : Bool) (s : S) (mech : Mech S W) (list : Option (Held S)) → None_made → Tells (if b then in_phase (phase.Generate s Claim) mech else in_phase (phase.End reply.Exhausted) mech) list
  looked_tells true s mech list made = made
  looked_tells false s mech list made = refused refl made

  claimed_tells : (b : Bool) (s : S) (block : ℕ) (mech : Mech S W) (held : Held S) → None_made → Tells (if b then offered form s (with_hand (Some block) mech) else in_phase (phase.End reply.Exhausted) mech) (Some held)
  claimed_tells true s block mech held made = none_by held.list made
  claimed_tells false s block mech held made = refused refl made

  -- ---- lists

  wrapped_tells : (what : Wrapped) (w fed : W) (stop : ℕ) (mech : Mech S W) (held : Held S) → held.list.call ≡ called one → MadeBy after (called one) held.list → WrappedWell form after held.list stop fed what
      → Tells (wrapped_up form what w mech) (Some held)
  wrapped_tells wrapped.Going w fed stop mech held call made well = made
  wrapped_tells (wrapped.Done outcome) w fed stop mech held call made well = told_tells outcome mech (Some held) (changed held.list call well.0 well.1 made)
  wrapped_tells wrapped.Restart w fed stop mech held call made well =
      tried_tells (Some held) (record mech { failures = min (mech.failures + 1) mech.setup.limit })
      (λ change among of. laws.of_world.dead_unchanged after held.list change shape well among (made change among of))

  -- ---- the queue

  helped_tells : (drives : Bool) (mech : Mech S W) (list : Option (Held S)) → (drives ≡ false → None_made) → Tells (helped form drives mech) list
  helped_tells true mech list made = tt
  helped_tells false mech list made = tried_tells list mech (made refl)

  helps_tells : (drives : Bool) (help : helper.Help S W) (mech : Mech S W) (list : Option (Held S)) → (drives ≡ false → None_made) → Tells (in_phase (phase.Help drives help) mech) list
  helps_tells true help mech list made = tt
  helps_tells false help mech list made = made refl

  seat_tells : (b drives : Bool) (head : ℕ) (mech : Mech S W) (list : Option (Held S)) → (drives ≡ false → None_made)
      → Tells (if b then in_phase (phase.Help drives (record { head = head; seats = mech.setup.seats; at = Record None })) mech else helped form drives mech) list
  seat_tells true drives head mech list made = helps_tells drives _ mech list made
  seat_tells false drives head mech list made = helped_tells drives mech list made

  head_tells : (head : Option ℕ) (drives : Bool) (mech : Mech S W) (list : Option (Held S)) → (drives ≡ false → None_made) → Tells (head_helped form head drives mech) list
  head_tells None drives mech list made = helped_tells drives mech list made
  head_tells (Some head) drives mech list made = seat_tells (nat_lt head mech.setup.seats) drives head mech list made

  driven_tells : (b : Bool) (head : Option ℕ) (mech : Mech S W) (list : Option (Held S)) → Tells (if b then head_helped form head true mech else in_phase phase.Collect mech) list
  driven_tells true head mech list = head_tells head true mech list (λ off. not_both true refl off)
  driven_tells false head mech list = tt

  ended_tells : (b drives : Bool) (next : helper.Help S W) (mech : Mech S W) (list : Option (Held S)) → (drives ≡ false → None_made) → Tells (if b then helped form drives mech else in_phase (phase.Help drives next) mech) list
  ended_tells true drives next mech list made = helped_tells drives mech list made
  ended_tells false drives next mech list made = helps_tells drives next mech list made

  announced_tells : (step : Announcing) (mech : Mech S W) (list : Option (Held S)) → None_made → Tells (announced step mech) list
  announced_tells announcing.Value mech list made = made
  announced_tells announcing.Op mech list made = made
  announced_tells announcing.Record mech list made = tt

  entered_tells : (what : Entering) (owner : Owner) (mech : Mech S W) (list : Option (Held S)) → ((outcome : Outcome) → finished_with what ≡ Some outcome → TellsRight form after (called one) begun outcome) → Tells (entered what owner mech) list
  entered_tells entering_to.Running owner mech list right = tt
  entered_tells entering_to.Entered owner mech list right = tt
  entered_tells (entering_to.Finished outcome) owner mech list right = told_tells outcome mech list (right outcome refl)

  -- ---- the value that is told

  -- the value of a node that is told is in range
  value_small : AnswersWell form after → IsCommandOf form.object one.op → (reference : ℕ) → TellsRight form after (called one) begun (ValueOf reference) → after.words (node_place reference NODE_VALUE) < 2 ^ 32
  value_small well command reference (observed right fixed made) = answer_small form after one.op right.count _ well command (sym right.told.1)
  value_small well command reference (changed list call by fixed made) = change_small form after (record { list = list; reply = by.reply }) _ well by.change (sym by.told.1)
  value_small well command reference (refused is made) = value_not reference is

  as_plain : (reference word : ℕ) → reply.Value (after.words (node_place reference NODE_VALUE)) ≡ reply.Value word → TellsRight form after (called one) begun (ValueOf reference) → TellsRight form after (called one) begun (Plain (reply.Value word))
  as_plain reference word same (observed right fixed made) =
      observed (record { count = right.count; not_before = right.not_before; made = right.made; observes = right.observes; told = sym same ∙ right.told.1 }) tt made
  as_plain reference word same (changed list call by fixed made) = changed list call (record { reply = by.reply; change = by.change; told = sym same ∙ by.told.1 }) tt made
  as_plain reference word same (refused is made) = value_not reference is

  -- so the word that is loaded is the reply
  value_told : AnswersWell form after → IsCommandOf form.object one.op → (reference word : ℕ) → word ≡ after.words (node_place reference NODE_VALUE) → TellsRight form after (called one) begun (ValueOf reference)
      → TellsRight form after (called one) begun (Plain (reply.Value (word % 2 ^ 32)))
  value_told well command reference word is right =
      let few = value_small well command reference right in
      as_plain reference (word % 2 ^ 32) (ap reply.Value (sym is ∙ sym (mod-eq_of_lt (subst (λ n. n < 2 ^ 32) (sym is) few)))) right

module _ {S W : Type 0} (form : NormalForm S W) (laws : Laws form) (world after : World) (offers offers' : ℕ → Option (Offer S)) (callers : ℕ → Caller) (one : Mech S W) (own : SeatGhost S) (identity : ℕ) (seen : Seen)
    (leaves : Leaves form world after offers offers' None) (shape' : form.shape after) (used : UsedSmall after) (well : AnswersWell form after) where
  -- what is known of the seat after a step in this phase, where there are so many changes then
  abbrev own_after : Phase S W → ℕ → Carried S → SeatGhost S
  own_after p count carried = record { begun = begun_after p count own.begun; held = held_in (stepped form p seen one).phase (list_after form identity p seen own (stepped form p seen one)); carried = carried }

  abbrev TellsNow : ℕ → Carried S → Mech S W → Option (Held S) → Type 0
  TellsNow begun carried new list = Tells form laws after shape' used one begun carried new list

  -- a list of its own is executed
  run_own : (run : FastWalk) (stores : ArrayVec (ℕ × ℕ)) (held : Option (Held S)) (carried : Carried S) → form.shape world → OfSome (IsOffering form run stores one) held → OfSome (KnowsRun form world run) held
      → Enters form world after offers offers' run held seen → OfSome (λ (h : Held S). MadeBy after (called one) h.list) held
      → TellsNow own.begun carried (executed form (fast_execution run seen) (fast_fed run seen) stores one) (stopped_in (fast_execution run seen) held)
  run_own run stores None carried shape offering knows enters made = absurd made
  run_own run stores (Some held) carried shape offering knows enters made =
      by_end (fast_execution run seen) refl
    where
      by_end : (ends : Execution) → fast_execution run seen ≡ ends → TellsNow own.begun carried (executed form ends (fast_fed run seen) stores one) (stopped_in ends (Some held))
      by_end execution.Running is = made
      by_end (execution.Stopped stop) is =
          wrapped_tells form laws after shape' used one own.begun carried (form.wrap_begun_of one.op run.entries stop) (form.begin_wrap_of one.op run.entries stop) (form.begin_wrap_of one.op run.entries stop) stop (spent form stop one)
          (stopped_at (execution.Stopped stop) held) offering.held_by.call made (run_ends form laws world after offers offers' callers seen leaves shape shape' one run stores held stop offering knows enters is)

  -- and wrapped up
  wrap_own : (w : W) (held : Option (Held S)) (carried : Carried S) → form.shape world → OfSome (IsHeld form one) held → OfSome (KnowsWrap form world w) held → Requested form (form.wrap_request_of w) world after seen
      → OfSome (λ (h : Held S). MadeBy after (called one) h.list) held → TellsNow own.begun carried (wrapped_up form (form.wrap_found_of w seen) (form.feed_wrap_of w seen) one) held
  wrap_own w None carried shape is knows steps made = absurd made
  wrap_own w (Some held) carried shape is knows steps made =
      wrapped_tells form laws after shape' used one own.begun carried (form.wrap_found_of w seen) (form.feed_wrap_of w seen) (form.feed_wrap_of w seen) held.stop one held is.call made
      (wrap_goes form laws world after offers offers' callers seen leaves shape shape' w held knows steps)

  -- ---- all phases

  pub step_tells : (p : Phase S W) (own' : SeatGhost S) (count : ℕ) (carried : Carried S) → rests p ≡ false → CountsIn p own → RestsMove form world offers callers p one own
      → StepsIn form world after offers offers' p one own own' identity seen
      → ((outcome : Outcome) → outcome_in p seen ≡ Some outcome → TellsRight form after (called one) own.begun outcome)
      → ((reference : ℕ) → p ≡ phase.Value reference → seen.before ≡ after.words (node_place reference NODE_VALUE))
      → TellsIn form p one own after → TellsIn form (stepped form p seen one).phase one (own_after p count carried) after
  step_tells phase.Idle own' count carried runs counts rests steps ends loaded made = absurd cc
  step_tells phase.Begin own' count carried runs counts rests steps ends loaded made = made
  step_tells phase.Look own' count carried runs counts rests steps ends loaded made =
      head_tells form laws after shape' used one own.begun carried (head_of seen.before) false one own.held (λ off. made)
  step_tells (phase.Generate s Search) own' count carried runs counts rests steps ends loaded made =
      let fed = laws.search_fed world after seen s one.op own.carried.since rests.command rests.holds.shape rests.knows.0 rests.knows.1 steps.1 in
      searched_tells form laws after shape' used one own.begun carried (form.found_of s seen) (form.feed_of s seen) (form.feed_of s seen) own.carried.since one
      (newly_held form identity (form.feed_of s seen) own.carried.since (searched form (form.found_of s seen) (form.feed_of s seen) one)) counts made fed.1
  step_tells (phase.Generate s LookForBlock) own' count carried runs counts rests steps ends loaded made =
      looked_tells form laws after shape' used one own.begun carried (nat_lt seen.before one.setup.cap) s one _ made
  step_tells (phase.Generate s Claim) own' count carried runs counts rests steps ends loaded made =
      claimed_tells form laws after shape' used one own.begun carried (nat_lt seen.before one.setup.cap) s (seen.before + 1) one _ made
  step_tells (phase.Apply run stores (Fill k)) own' count carried runs counts rests steps ends loaded made = made
  step_tells (phase.Apply run stores Execute) own' count carried runs counts rests steps ends loaded made =
      run_own run stores own.held carried rests.holds.shape rests.lists rests.knows steps.1 made
  step_tells (phase.Wrap w) own' count carried runs counts rests steps ends loaded made = wrap_own w own.held carried rests.holds.shape rests.lists rests.knows steps.1 made
  step_tells (phase.Announce step) own' count carried runs counts rests steps ends loaded made = announced_tells form laws after shape' used one own.begun carried step one own.held made
  step_tells (phase.Enter owner) own' count carried runs counts rests steps ends loaded made =
      entered_tells form laws after shape' used one own.begun carried (entering owner seen) (enter_fed owner seen) one own.held ends
  step_tells phase.Drive own' count carried runs counts rests steps ends loaded made =
      driven_tells form laws after shape' used one own.begun carried (holds seen.before one.seat) (head_of seen.before) one own.held
  step_tells (phase.Help true help) own' count carried runs counts rests steps ends loaded made =
      ended_tells form laws after shape' used one own.begun carried (helping_ends form help.at help.head seen) true (help_fed form help one.hand one.setup.cap seen) (with_hand (helping_hand help.at one.hand one.setup.cap seen) one) own.held
      (λ off. not_both true refl off)
  step_tells (phase.Help false help) own' count carried runs counts rests steps ends loaded made =
      ended_tells form laws after shape' used one own.begun carried (helping_ends form help.at help.head seen) false (help_fed form help one.hand one.setup.cap seen) (with_hand (helping_hand help.at one.hand one.setup.cap seen) one) own.held
      (λ off. made)
  step_tells phase.Collect own' count carried runs counts rests steps ends loaded made =
      told_tells form laws after shape' used one own.begun carried (outcome_or_done seen.before) one own.held (ends (outcome_or_done seen.before) refl)
  step_tells (phase.Value reference) own' count carried runs counts rests steps ends loaded made =
      value_told form laws after shape' used one own.begun carried well rests.command reference seen.before (loaded reference refl) made
  step_tells (phase.End answer) own' count carried runs counts rests steps ends loaded made = tt
