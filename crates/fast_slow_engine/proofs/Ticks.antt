-- A step draws the ticks that its call has left, and writes its line at the last one.
use Rattle.std.proofs.Common.{rules, arith, ◌≡◌, refl, ℕ, ◌+◌, Bool, true, false, if◌then◌else◌, Some}
use Rattle.lin_report.specs.declared.calls.Reply.TheVariants as reply
use Rattle.lin_report.specs.declared.calls.Outcome.{Outcome}
use Rattle.lin_report.specs.declared.calls.Outcome.TheVariants.{Plain, ValueOf}
use Rattle.step_memory.specs.declared.steps.Seen.{Seen}
use Rattle.arrayvec.specs.ArrayVec.{ArrayVec}
use Rattle.normal_traits.specs.declared.form.Found.{Found}
use Rattle.normal_traits.specs.declared.form.Found.TheVariants as found
use Rattle.normal_traits.specs.declared.form.Wrapped.{Wrapped}
use Rattle.normal_traits.specs.declared.form.Wrapped.TheVariants as wrapped
use Rattle.normal_traits.specs.NormalForm.{NormalForm}
use Rattle.cas_executor.specs.declared.fast_run.Execution.{Execution}
use Rattle.cas_executor.specs.declared.fast_run.Execution.TheVariants.{Running, Stopped}
use Rattle.cas_executor.specs.FastRuns.{FastWalk, fast_execution, fast_fed}
use Rattle.fast_slow_engine.specs.declared.phases.Phase.{Phase}
use Rattle.fast_slow_engine.specs.declared.phases.Phase.TheVariants.{Idle, Begin, Look, Generate, Apply, Wrap, Announce, Enter, Drive, Help, Collect, Value, End}
use Rattle.fast_slow_engine.specs.declared.phases.Generating.{Generating}
use Rattle.fast_slow_engine.specs.declared.phases.Generating.TheVariants.{Search, LookForBlock, Claim}
use Rattle.fast_slow_engine.specs.declared.phases.Applying.{Applying}
use Rattle.fast_slow_engine.specs.declared.phases.Applying.TheVariants.{Fill, Execute}
use Rattle.fast_slow_engine.specs.Mechs.{Mech}
use Rattle.help_queue.specs.declared.enter.Entering.{Entering}
use Rattle.help_queue.specs.declared.enter.Entering.TheVariants as entering_to
use Rattle.help_queue.specs.Gathers.{holds}
use Rattle.help_queue.specs.Enters.{Owner, enter_fed, entering, outcome_or_done}
use Rattle.fast_slow_engine.specs.declared.phases.Announcing.{Announcing}
use Rattle.fast_slow_engine.specs.declared.phases.Announcing.TheVariants as announcing
use Rattle.fast_slow_engine.specs.declared.help.Help as helper
use Rattle.fast_slow_engine.specs.declared.help.Helping.TheVariants as helping
use Rattle.fast_slow_engine.specs.HelpTable.{help_fed, helping_hand, helping_ends}
use Rattle.help_queue.specs.Heads.{head_of}
use Rattle.fast_slow_engine.specs.PhaseTable.{may_search, tried, helped, head_helped, announced, entered, help_stepped, driven, with_hand}
use Rattle.fast_slow_engine.specs.Hands.{holds_none}
use Rattle.fast_slow_engine.specs.PhaseTable.{in_phase, told, offered, searched, spent, wrapped_up, executed, generated, applied, stepped, event_in, turn_in, rests, ends, ticks_left, lines_left}
use Rattle.std.specs.Prelude.{nat_lt, min, Option, None}
use Rattle.std.specs.Prelude.{length, ◌&&◌}
use Rattle.std.specs.Option.{option_to_list}
use Rattle.fast_slow_engine.specs.Runs.{returned}

module _ {S W : Type 0} where
  -- the call has begun, and has its end tick left
  record IsOpen (phase : Phase S W) : Type 0 where
    pub ticks : ticks_left phase ≡ 1
    pub lines : lines_left phase ≡ 1

  either : (b : Bool) (x y : Mech S W) → IsOpen x.phase → IsOpen y.phase → IsOpen (if b then x else y).phase
  either true x y h k = h
  either false x y h k = k

  at_step : (b : Bool) (run : FastWalk) (stores : ArrayVec (ℕ × ℕ)) (made next : Applying) → IsOpen (Apply run stores (if b then made else next))
  at_step b run stores made next = record { ticks = refl; lines = refl }

  open_told : (outcome : Outcome) (mech : Mech S W) → IsOpen (told outcome mech).phase
  open_told (Plain reply) mech = record { ticks = refl; lines = refl }
  open_told (ValueOf reference) mech = record { ticks = refl; lines = refl }

  module _ (form : NormalForm S W) where
    open_tried : (mech : Mech S W) → IsOpen (tried form mech).phase
    open_tried mech = either (may_search mech) (in_phase (Generate (form.begin_of mech.op) Search) mech) (in_phase (Announce announcing.Value) mech) (record { ticks = refl; lines = refl }) (record { ticks = refl; lines = refl })

    open_helped : (drives : Bool) (mech : Mech S W) → IsOpen (helped form drives mech).phase
    open_helped true mech = record { ticks = refl; lines = refl }
    open_helped false mech = open_tried mech

    open_head : (head : Option ℕ) (drives : Bool) (mech : Mech S W) → IsOpen (head_helped form head drives mech).phase
    open_head None drives mech = open_helped drives mech
    open_head (Some head) drives mech = either (nat_lt head mech.setup.seats) (in_phase (Help drives (record { head = head; seats = mech.setup.seats; at = helping.Record None })) mech) (helped form drives mech) (record { ticks = refl; lines = refl }) (open_helped drives mech)

    open_announced : (at : Announcing) (mech : Mech S W) → IsOpen (announced at mech).phase
    open_announced announcing.Value mech = record { ticks = refl; lines = refl }
    open_announced announcing.Op mech = record { ticks = refl; lines = refl }
    open_announced announcing.Record mech = record { ticks = refl; lines = refl }

    open_entered : (what : Entering) (owner : Owner) (mech : Mech S W) → IsOpen (entered what owner mech).phase
    open_entered entering_to.Running owner mech = record { ticks = refl; lines = refl }
    open_entered entering_to.Entered owner mech = record { ticks = refl; lines = refl }
    open_entered (entering_to.Finished outcome) owner mech = open_told outcome mech

    open_help : (drives : Bool) (help : helper.Help S W) (seen : Seen) (mech : Mech S W) → IsOpen (help_stepped form drives help seen mech).phase
    open_help drives help seen mech =
        let after = with_hand (helping_hand help.at mech.hand mech.setup.cap seen) mech in
        either (helping_ends form help.at help.head seen) (helped form drives after) (in_phase (Help drives (help_fed form help mech.hand mech.setup.cap seen)) after) (open_helped drives after) (record { ticks = refl; lines = refl })

    open_driven : (seen : Seen) (mech : Mech S W) → IsOpen (driven form seen mech).phase
    open_driven seen mech = either (holds seen.before mech.seat) (head_helped form (head_of seen.before) true mech) (in_phase Collect mech) (open_head (head_of seen.before) true mech) (record { ticks = refl; lines = refl })

    open_offered : (s : S) (mech : Mech S W) → IsOpen (offered form s mech).phase
    open_offered s mech = record { ticks = refl; lines = refl }

    open_searched : (what : Found) (s : S) (mech : Mech S W) → IsOpen (searched form what s mech).phase
    open_searched found.Going s mech = record { ticks = refl; lines = refl }
    open_searched found.Ready s mech = either (form.needs_block mech.op && holds_none mech.hand) (in_phase (Generate s LookForBlock) mech) (offered form s mech) (record { ticks = refl; lines = refl }) (open_offered s mech)
    open_searched (found.Answer outcome) s mech = open_told outcome mech
    open_searched found.Contended s mech = open_tried (record mech { failures = min (mech.failures + 1) mech.setup.limit })

    open_wrapped_up : (what : Wrapped) (w : W) (mech : Mech S W) → IsOpen (wrapped_up form what w mech).phase
    open_wrapped_up wrapped.Going w mech = record { ticks = refl; lines = refl }
    open_wrapped_up (wrapped.Done outcome) w mech = open_told outcome mech
    open_wrapped_up wrapped.Restart w mech = open_tried (record mech { failures = min (mech.failures + 1) mech.setup.limit })

    open_executed : (execution : Execution) (run : FastWalk) (stores : ArrayVec (ℕ × ℕ)) (mech : Mech S W) → IsOpen (executed form execution run stores mech).phase
    open_executed Running run stores mech = record { ticks = refl; lines = refl }
    open_executed (Stopped stop) run stores mech = open_wrapped_up (form.wrap_begun_of mech.op run.entries stop) (form.begin_wrap_of mech.op run.entries stop) (spent form stop mech)

    open_generated : (s : S) (at : Generating) (seen : Seen) (mech : Mech S W) → IsOpen (generated form s at seen mech).phase
    open_generated s Search seen mech = open_searched (form.found_of s seen) (form.feed_of s seen) mech
    open_generated s LookForBlock seen mech = either (nat_lt seen.before mech.setup.cap) (in_phase (Generate s Claim) mech) (in_phase (End reply.Exhausted) mech) (record { ticks = refl; lines = refl }) (record { ticks = refl; lines = refl })
    open_generated s Claim seen mech = either (nat_lt seen.before mech.setup.cap) (offered form s (with_hand (Some (seen.before + 1)) mech)) (in_phase (End reply.Exhausted) mech) (record { ticks = refl; lines = refl }) (record { ticks = refl; lines = refl })

    open_applied : (run : FastWalk) (stores : ArrayVec (ℕ × ℕ)) (at : Applying) (seen : Seen) (mech : Mech S W) → IsOpen (applied form run stores at seen mech).phase
    open_applied run stores (Fill made) seen mech = record { ticks = refl; lines = refl }
    open_applied run stores Execute seen mech = open_executed (fast_execution run seen) (fast_fed run seen) stores mech

    -- a step draws a tick where it is an event, and writes a line where the call returns
    pub record Draws (phase : Phase S W) (seen : Seen) (mech : Mech S W) : Type 0 where
      pub ticks : ticks_left (stepped form phase seen mech).phase + length (option_to_list (event_in phase mech)) ≡ ticks_left phase
      pub lines : lines_left (stepped form phase seen mech).phase + length (returned (turn_in phase seen mech)) ≡ lines_left phase

    goes_on : (phase : Phase S W) (h : IsOpen phase) → (ticks_left phase + 0 ≡ 1) × (lines_left phase + 0 ≡ 1)
    goes_on phase h = (omega (arith, h.ticks), omega (arith, h.lines))

    pub draws : (phase : Phase S W) (seen : Seen) (mech : Mech S W) → rests phase ≡ false → Draws phase seen mech
    draws Idle seen mech runs = absurd (search rules)
    draws Begin seen mech runs = record { ticks = refl; lines = refl }
    draws Look seen mech runs = let h = goes_on _ (open_head (head_of seen.before) false mech) in record { ticks = h.0; lines = h.1 }
    draws (Generate s at) seen mech runs = let h = goes_on _ (open_generated s at seen mech) in record { ticks = h.0; lines = h.1 }
    draws (Apply run stores at) seen mech runs = let h = goes_on _ (open_applied run stores at seen mech) in record { ticks = h.0; lines = h.1 }
    draws (Wrap w) seen mech runs = let h = goes_on _ (open_wrapped_up (form.wrap_found_of w seen) (form.feed_wrap_of w seen) mech) in record { ticks = h.0; lines = h.1 }
    draws (Announce at) seen mech runs = let h = goes_on _ (open_announced at mech) in record { ticks = h.0; lines = h.1 }
    draws (Enter owner) seen mech runs = let h = goes_on _ (open_entered (entering owner seen) (enter_fed owner seen) mech) in record { ticks = h.0; lines = h.1 }
    draws Drive seen mech runs = let h = goes_on _ (open_driven seen mech) in record { ticks = h.0; lines = h.1 }
    draws (Help drives help) seen mech runs = let h = goes_on _ (open_help drives help seen mech) in record { ticks = h.0; lines = h.1 }
    draws Collect seen mech runs = let h = goes_on _ (open_told (outcome_or_done seen.before) mech) in record { ticks = h.0; lines = h.1 }
    draws (Value reference) seen mech runs = record { ticks = refl; lines = refl }
    draws (End reply) seen mech runs = record { ticks = refl; lines = refl }

    running : (phase : Phase S W) → IsOpen phase → rests phase ≡ false
    running Idle h = absurd (omega (arith, h.ticks))
    running Begin h = refl
    running Look h = refl
    running (Generate s at) h = refl
    running (Apply run stores at) h = refl
    running (Wrap w) h = refl
    running (Announce at) h = refl
    running (Enter owner) h = refl
    running Drive h = refl
    running (Help drives help) h = refl
    running Collect h = refl
    running (Value reference) h = refl
    running (End reply) h = refl

    -- a call runs on after each step but that of its end
    pub runs_on : (phase : Phase S W) (seen : Seen) (mech : Mech S W) → rests phase ≡ false → ends phase ≡ false → rests (stepped form phase seen mech).phase ≡ false
    runs_on Idle seen mech runs on = absurd (search rules)
    runs_on Begin seen mech runs on = refl
    runs_on Look seen mech runs on = running _ (open_head (head_of seen.before) false mech)
    runs_on (Generate s at) seen mech runs on = running _ (open_generated s at seen mech)
    runs_on (Apply run stores at) seen mech runs on = running _ (open_applied run stores at seen mech)
    runs_on (Wrap w) seen mech runs on = running _ (open_wrapped_up (form.wrap_found_of w seen) (form.feed_wrap_of w seen) mech)
    runs_on (Announce at) seen mech runs on = running _ (open_announced at mech)
    runs_on (Enter owner) seen mech runs on = running _ (open_entered (entering owner seen) (enter_fed owner seen) mech)
    runs_on Drive seen mech runs on = running _ (open_driven seen mech)
    runs_on (Help drives help) seen mech runs on = running _ (open_help drives help seen mech)
    runs_on Collect seen mech runs on = running _ (open_told (outcome_or_done seen.before) mech)
    runs_on (Value reference) seen mech runs on = refl
    runs_on (End reply) seen mech runs on = absurd (search rules)
