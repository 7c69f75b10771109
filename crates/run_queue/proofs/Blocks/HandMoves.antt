-- What the step of each phase does to the hand: names and hands together grow at most by what is claimed.
use Rattle.std.proofs.Common.{◌≡◌, refl, ap, ℕ, ◌+◌, ◌≤◌, Bool, true, false, if◌then◌else◌, Option, Some, None, arith}
use Rattle.std.specs.Prelude.{nat_lt, ◌&&◌, min}
use Rattle.lin_report.specs.declared.calls.Reply.TheVariants as reply
use Rattle.lin_report.specs.declared.calls.Outcome.{Outcome}
use Rattle.lin_report.specs.declared.calls.Outcome.TheVariants.{Plain, ValueOf}
use Rattle.step_memory.specs.declared.steps.Seen.{Seen}
use Rattle.arrayvec.specs.ArrayVec.{ArrayVec}
use Rattle.normal_traits.specs.declared.form.Found.{Found}
use Rattle.normal_traits.specs.declared.form.Found.TheVariants as found
use Rattle.normal_traits.specs.declared.form.Wrapped.{Wrapped}
use Rattle.normal_traits.specs.declared.form.Wrapped.TheVariants as wrapped
use Rattle.normal_traits.specs.NormalForm.{NormalForm}
use Rattle.cas_executor.specs.declared.fast_run.Execution.{Execution}
use Rattle.cas_executor.specs.declared.fast_run.Execution.TheVariants.{Running, Stopped}
use Rattle.cas_executor.specs.FastRuns.{FastWalk}
use Rattle.help_queue.specs.declared.enter.Entering.{Entering}
use Rattle.help_queue.specs.declared.enter.Entering.TheVariants as entering_to
use Rattle.help_queue.specs.Enters.{Owner}
use Rattle.help_queue.specs.Gathers.{holds, is_open}
use Rattle.word_fields.specs.Records.{record_phase, record_number}
use Rattle.help_queue.specs.Removes.{remove_new}
use Rattle.fast_slow_engine.specs.declared.phases.Phase.{Phase}
use Rattle.fast_slow_engine.specs.declared.phases.Phase.TheVariants as phase
use Rattle.fast_slow_engine.specs.declared.phases.Announcing.{Announcing}
use Rattle.fast_slow_engine.specs.declared.phases.Announcing.TheVariants as announcing
use Rattle.fast_slow_engine.specs.declared.phases.Generating.{Generating}
use Rattle.fast_slow_engine.specs.declared.phases.Generating.TheVariants.{Search, LookForBlock, Claim}
use Rattle.fast_slow_engine.specs.declared.phases.Applying.{Applying}
use Rattle.fast_slow_engine.specs.declared.phases.Applying.TheVariants.{Fill, Execute}
use Rattle.fast_slow_engine.specs.declared.help.Help.{Help}
use Rattle.fast_slow_engine.specs.declared.help.Helping.{Helping}
use Rattle.fast_slow_engine.specs.declared.help.Helping.TheVariants.{Record, Known, Remove}
use Rattle.fast_slow_engine.specs.declared.help.Work.TheVariants as work
use Rattle.fast_slow_engine.specs.Mechs.{Mech}
use Rattle.fast_slow_engine.specs.HelpTable.{helping_fed, helping_hand, helping_ends}
use Rattle.help_queue.specs.Heads.{head_of}
use Rattle.fast_slow_engine.specs.PhaseTable.{in_phase, with_hand, told, may_search, tried, failed, offered, searched, wrapped_up, executed, generated, applied, announced, entered, helped, head_helped, help_stepped, stepped}
use Rattle.run_queue.specs.Rounds.{one_if, names_in, names_helping}
use Rattle.run_queue.specs.HeldBlocks.{in_hand, claims_in, claims_helping, HelpingHand, PhaseHand}
use Rattle.run_queue.proofs.Blocks.HandSteps.{hand_on, work_count}

module _ {S W : Type 0} where
  -- the machine has at most so many blocks in hand, and one where its phase needs it
  pub record Holds (k : ℕ) (mech : Mech S W) : Type 0 where
    pub most : in_hand mech.hand ≤ k
    pub fits : PhaseHand mech.phase mech.hand

  holds_if : (k : ℕ) (b : Bool) (x y : Mech S W) → Holds k x → Holds k y → Holds k (if b then x else y)
  holds_if k true x y h g = h
  holds_if k false x y h g = g

  holds_told : (k : ℕ) (outcome : Outcome) (mech : Mech S W) → in_hand mech.hand ≤ k → Holds k (told outcome mech)
  holds_told k (Plain reply) mech h = record { most = h; fits = tt }
  holds_told k (ValueOf reference) mech h = record { most = h; fits = tt }

  holds_announced : (k : ℕ) (at : Announcing) (mech : Mech S W) → in_hand mech.hand ≤ k → Holds k (announced at mech)
  holds_announced k announcing.Value mech h = record { most = h; fits = tt }
  holds_announced k announcing.Op mech h = record { most = h; fits = tt }
  holds_announced k announcing.Record mech h = record { most = h; fits = tt }

  holds_entered : (k : ℕ) (what : Entering) (owner : Owner) (mech : Mech S W) → in_hand mech.hand ≤ k → Holds k (entered what owner mech)
  holds_entered k entering_to.Running owner mech h = record { most = h; fits = tt }
  holds_entered k entering_to.Entered owner mech h = record { most = h; fits = tt }
  holds_entered k (entering_to.Finished outcome) owner mech h = holds_told k outcome mech h

  module _ (form : NormalForm S W) where
    holds_tried : (k : ℕ) (mech : Mech S W) → in_hand mech.hand ≤ k → Holds k (tried form mech)
    holds_tried k mech h = holds_if k (may_search mech) (in_phase (phase.Generate (form.begin_of mech.op) Search) mech) (in_phase (phase.Announce announcing.Value) mech) (record { most = h; fits = tt }) (record { most = h; fits = tt })

    holds_failed : (k : ℕ) (mech : Mech S W) → in_hand mech.hand ≤ k → Holds k (failed form mech)
    holds_failed k mech h = holds_tried k (record mech { failures = min (mech.failures + 1) mech.setup.limit }) h

    holds_searched : (k : ℕ) (what : Found) (s : S) (mech : Mech S W) → in_hand mech.hand ≤ k → Holds k (searched form what s mech)
    holds_searched k found.Going s mech h = record { most = h; fits = tt }
    holds_searched k found.Ready s mech h = holds_if k _ (in_phase (phase.Generate s LookForBlock) mech) (offered form s mech) (record { most = h; fits = tt }) (record { most = h; fits = tt })
    holds_searched k (found.Answer outcome) s mech h = holds_told k outcome mech h
    holds_searched k found.Contended s mech h = holds_failed k mech h

    holds_wrapped : (k : ℕ) (what : Wrapped) (wrap : W) (mech : Mech S W) → in_hand mech.hand ≤ k → Holds k (wrapped_up form what wrap mech)
    holds_wrapped k wrapped.Going wrap mech h = record { most = h; fits = tt }
    holds_wrapped k (wrapped.Done outcome) wrap mech h = holds_told k outcome mech h
    holds_wrapped k wrapped.Restart wrap mech h = holds_failed k mech h

    holds_spent : (k : ℕ) (b : Bool) (what : Wrapped) (wrap : W) (mech : Mech S W) → in_hand mech.hand ≤ k → Holds k (wrapped_up form what wrap (if b then with_hand None mech else mech))
    holds_spent k true what wrap mech h = holds_wrapped k what wrap (with_hand None mech) (omega arith)
    holds_spent k false what wrap mech h = holds_wrapped k what wrap mech h

    holds_executed : (k : ℕ) (what : Execution) (run : FastWalk) (stores : ArrayVec (ℕ × ℕ)) (mech : Mech S W) → in_hand mech.hand ≤ k → Holds k (executed form what run stores mech)
    holds_executed k Running run stores mech h = record { most = h; fits = tt }
    holds_executed k (Stopped stop) run stores mech h = holds_spent k (nat_lt 0 stop && form.needs_block mech.op) _ _ mech h

    holds_applied : (k : ℕ) (run : FastWalk) (stores : ArrayVec (ℕ × ℕ)) (step : Applying) (seen : Seen) (mech : Mech S W) → in_hand mech.hand ≤ k → Holds k (applied form run stores step seen mech)
    holds_applied k run stores (Fill made) seen mech h = record { most = h; fits = tt }
    holds_applied k run stores Execute seen mech h = holds_executed k _ _ stores mech h

    claimed : (b : Bool) (s : S) (before : ℕ) (mech : Mech S W) → Holds (in_hand mech.hand + one_if b) (if b then offered form s (with_hand (Some (before + 1)) mech) else in_phase (phase.End reply.Exhausted) mech)
    claimed true s before mech = record { most = omega arith; fits = tt }
    claimed false s before mech = record { most = omega arith; fits = tt }

    holds_generated : (s : S) (step : Generating) (seen : Seen) (mech : Mech S W) → Holds (in_hand mech.hand + one_if (claims_in {S = S} {W = W} (phase.Generate s step) && nat_lt seen.before mech.setup.cap)) (generated form s step seen mech)
    holds_generated s Search seen mech = holds_searched (in_hand mech.hand + 0) (form.found_of s seen) (form.feed_of s seen) mech (omega arith)
    holds_generated s LookForBlock seen mech =
        holds_if (in_hand mech.hand + 0) (nat_lt seen.before mech.setup.cap) (in_phase (phase.Generate s Claim) mech) (in_phase (phase.End reply.Exhausted) mech) (record { most = omega arith; fits = tt }) (record { most = omega arith; fits = tt })
    holds_generated s Claim seen mech = claimed (nat_lt seen.before mech.setup.cap) s seen.before mech

    holds_helped : (k : ℕ) (drives : Bool) (mech : Mech S W) → in_hand mech.hand ≤ k → Holds k (helped form drives mech)
    holds_helped k true mech h = record { most = h; fits = tt }
    holds_helped k false mech h = holds_tried k mech h

    holds_head : (k : ℕ) (head : Option ℕ) (drives : Bool) (mech : Mech S W) → in_hand mech.hand ≤ k → Holds k (head_helped form head drives mech)
    holds_head k None drives mech h = holds_helped k drives mech h
    holds_head k (Some head) drives mech h =
        holds_if k (nat_lt head mech.setup.seats) (in_phase (phase.Help drives (record { head = head; seats = mech.setup.seats; at = Record None })) mech) (helped form drives mech) (record { most = h; fits = tt }) (holds_helped k drives mech h)

    -- ---- helping

    met_hand : (b : Bool) (word head seats : ℕ) (hand : Option ℕ) → HelpingHand {S = S} {W = W} (if b then Known word work.Head else Remove (remove_new head (record_number word) seats)) hand
    met_hand true word head seats hand = tt
    met_hand false word head seats hand = tt

    helping_hand_on : (at : Helping S W) (head seats : ℕ) (hand : Option ℕ) (cap : ℕ) (seen : Seen) → HelpingHand at hand → HelpingHand (helping_fed form at head seats hand cap seen) (helping_hand at hand cap seen)
    helping_hand_on (Record known) head seats hand cap seen h = met_hand (is_open (record_phase seen.before)) seen.before head seats hand
    helping_hand_on (Known word does) head seats hand cap seen h = hand_on form word does head hand cap seen h
    helping_hand_on (Remove removal) head seats hand cap seen h = tt

    helping_count : (at : Helping S W) (hand : Option ℕ) (cap : ℕ) (seen : Seen) → HelpingHand at hand → in_hand (helping_hand at hand cap seen) + one_if (names_helping at seen) ≤ in_hand hand + one_if (claims_helping at && nat_lt seen.before cap)
    helping_count (Record known) hand cap seen h = omega arith
    helping_count (Known word does) hand cap seen h = work_count form word does hand cap seen h
    helping_count (Remove removal) hand cap seen h = omega arith

    -- ---- all phases

    -- what a step does to the hand
    pub record HandStep (p : Phase S W) (seen : Seen) (mech new : Mech S W) : Type 0 where
      pub count : in_hand new.hand + one_if (names_in p seen) ≤ in_hand mech.hand + one_if (claims_in p && nat_lt seen.before mech.setup.cap)
      pub fits : PhaseHand new.phase new.hand

    quiet : (seen : Seen) (mech new : Mech S W) (p : Phase S W) → names_in p seen ≡ false → Holds (in_hand mech.hand + one_if (claims_in p && nat_lt seen.before mech.setup.cap)) new → HandStep p seen mech new
    quiet seen mech new p none h =
        let most = h.most in
        let named : one_if (names_in p seen) ≡ 0 = ap one_if none in
        record { count = omega (arith, most, named); fits = h.fits }

    help_hands : (drives : Bool) (help : Help S W) (seen : Seen) (mech : Mech S W) → HelpingHand help.at mech.hand → HandStep (phase.Help drives help) seen mech (help_stepped form drives help seen mech)
    help_hands drives help seen mech h =
        let after = with_hand (helping_hand help.at mech.hand mech.setup.cap seen) mech in
        let count = helping_count help.at mech.hand mech.setup.cap seen h in
        let held : Holds (in_hand after.hand) (help_stepped form drives help seen mech) =
        holds_if (in_hand after.hand) (helping_ends form help.at help.head seen) (helped form drives after) _ (holds_helped (in_hand after.hand) drives after (omega arith))
        (record { most = omega arith; fits = helping_hand_on help.at help.head help.seats mech.hand mech.setup.cap seen h }) in
        let most = held.most in
        record { count = omega (arith, count, most); fits = held.fits }

    pub phase_hands : (p : Phase S W) (seen : Seen) (mech : Mech S W) → PhaseHand p mech.hand → PhaseHand mech.phase mech.hand → HandStep p seen mech (stepped form p seen mech)
    phase_hands phase.Idle seen mech h own = record { count = omega arith; fits = own }
    phase_hands phase.Begin seen mech h own = record { count = omega arith; fits = tt }
    phase_hands phase.Look seen mech h own = quiet seen mech _ phase.Look refl (holds_head (in_hand mech.hand + 0) (head_of seen.before) false mech (omega arith))
    phase_hands (phase.Generate s step) seen mech h own = quiet seen mech _ (phase.Generate s step) refl (holds_generated s step seen mech)
    phase_hands (phase.Apply run stores step) seen mech h own = quiet seen mech _ (phase.Apply run stores step) refl (holds_applied (in_hand mech.hand + 0) run stores step seen mech (omega arith))
    phase_hands (phase.Wrap wrap) seen mech h own = quiet seen mech _ (phase.Wrap wrap) refl (holds_wrapped (in_hand mech.hand + 0) (form.wrap_found_of wrap seen) (form.feed_wrap_of wrap seen) mech (omega arith))
    phase_hands (phase.Announce step) seen mech h own = quiet seen mech _ (phase.Announce step) refl (holds_announced (in_hand mech.hand + 0) step mech (omega arith))
    phase_hands (phase.Enter owner) seen mech h own = quiet seen mech _ (phase.Enter owner) refl (holds_entered (in_hand mech.hand + 0) _ _ mech (omega arith))
    phase_hands phase.Drive seen mech h own =
        quiet seen mech _ phase.Drive refl (holds_if (in_hand mech.hand + 0) (holds seen.before mech.seat) (head_helped form (head_of seen.before) true mech) (in_phase phase.Collect mech) (holds_head (in_hand mech.hand + 0) (head_of seen.before) true mech (omega arith)) (record { most = omega arith; fits = tt }))
    phase_hands (phase.Help drives help) seen mech h own = help_hands drives help seen mech h
    phase_hands phase.Collect seen mech h own = quiet seen mech _ phase.Collect refl (holds_told (in_hand mech.hand + 0) _ mech (omega arith))
    phase_hands (phase.Value reference) seen mech h own = record { count = omega arith; fits = tt }
    phase_hands (phase.End reply) seen mech h own = record { count = omega arith; fits = tt }
