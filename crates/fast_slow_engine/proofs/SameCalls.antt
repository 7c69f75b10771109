-- A step stays with its call.
use Rattle.std.proofs.Common.{◌≡◌, ◌∙◌, refl, sym, subst, ℕ, Option, Some, None, Bool, true, false, if◌then◌else◌}
use Rattle.lin_report.specs.declared.calls.Outcome.{Outcome}
use Rattle.lin_report.specs.declared.calls.Outcome.TheVariants.{Plain, ValueOf}
use Rattle.step_memory.specs.declared.steps.Seen.{Seen}
use Rattle.arrayvec.specs.ArrayVec.{ArrayVec}
use Rattle.normal_traits.specs.declared.form.Found.{Found}
use Rattle.normal_traits.specs.declared.form.Found.TheVariants as found
use Rattle.normal_traits.specs.declared.form.Wrapped.{Wrapped}
use Rattle.normal_traits.specs.declared.form.Wrapped.TheVariants as wrapped
use Rattle.normal_traits.specs.NormalForm.{NormalForm}
use Rattle.cas_executor.specs.declared.fast_run.Execution.{Execution}
use Rattle.cas_executor.specs.declared.fast_run.Execution.TheVariants.{Running, Stopped}
use Rattle.cas_executor.specs.FastRuns.{FastWalk}
use Rattle.fast_slow_engine.specs.declared.phases.Phase.{Phase}
use Rattle.fast_slow_engine.specs.declared.phases.Phase.TheVariants.{Idle, Begin, Look, Generate, Apply, Wrap, Announce, Enter, Drive, Help, Collect, Value, End}
use Rattle.fast_slow_engine.specs.declared.phases.Generating.{Generating}
use Rattle.fast_slow_engine.specs.declared.phases.Generating.TheVariants.{Search, LookForBlock, Claim}
use Rattle.fast_slow_engine.specs.declared.phases.Applying.{Applying}
use Rattle.fast_slow_engine.specs.declared.phases.Applying.TheVariants.{Fill, Execute}
use Rattle.help_queue.specs.declared.enter.Entering.{Entering}
use Rattle.help_queue.specs.declared.enter.Entering.TheVariants as entering_to
use Rattle.help_queue.specs.Enters.{Owner}
use Rattle.fast_slow_engine.specs.declared.phases.Announcing.{Announcing}
use Rattle.fast_slow_engine.specs.declared.phases.Announcing.TheVariants as announcing
use Rattle.fast_slow_engine.specs.declared.help.Help as helper
use Rattle.fast_slow_engine.specs.HelpTable.{helping_hand}
use Rattle.fast_slow_engine.specs.PhaseTable.{tried, helped, head_helped, announced, entered, help_stepped, with_hand}
use Rattle.fast_slow_engine.specs.Mechs.{Mech, SameCall}
use Rattle.fast_slow_engine.specs.PhaseTable.{in_phase, told, failed, offered, searched, spent, wrapped_up, executed, generated, applied, stepped, mech_fed}

module _ {S W : Type 0} where
  same : (mech : Mech S W) (phase : Phase S W) → SameCall (in_phase phase mech) mech
  same mech phase = record { setup = refl; seat = refl; number = refl; op = refl }

  then_same : {a b c : Mech S W} → SameCall a b → SameCall b c → SameCall a c
  then_same h k = record { setup = h.setup ∙ k.setup; seat = h.seat ∙ k.seat; number = h.number ∙ k.number; op = h.op ∙ k.op }

  either : (b : Bool) {x y m : Mech S W} → SameCall x m → SameCall y m → SameCall (if b then x else y) m
  either true h k = h
  either false h k = k

  same_told : (outcome : Outcome) (mech : Mech S W) → SameCall (told outcome mech) mech
  same_told (Plain reply) mech = same mech (End reply)
  same_told (ValueOf reference) mech = record { setup = refl; seat = refl; number = refl; op = refl }

  module _ (form : NormalForm S W) where
    same_tried : (mech : Mech S W) → SameCall (tried form mech) mech
    same_tried mech = either _ (same mech _) (same mech _)

    same_failed : (mech : Mech S W) → SameCall (failed form mech) mech
    same_failed mech = either _ (record { setup = refl; seat = refl; number = refl; op = refl }) (record { setup = refl; seat = refl; number = refl; op = refl })

    same_helped : (drives : Bool) (mech : Mech S W) → SameCall (helped form drives mech) mech
    same_helped drives mech = either _ (same mech _) (same_tried mech)

    same_head : (head : Option ℕ) (drives : Bool) (mech : Mech S W) → SameCall (head_helped form head drives mech) mech
    same_head None drives mech = same_helped drives mech
    same_head (Some head) drives mech = either _ (same mech _) (same_helped drives mech)

    same_announced : (at : Announcing) (mech : Mech S W) → SameCall (announced at mech) mech
    same_announced announcing.Value mech = same mech _
    same_announced announcing.Op mech = same mech _
    same_announced announcing.Record mech = record { setup = refl; seat = refl; number = refl; op = refl }

    same_entered : (what : Entering) (owner : Owner) (mech : Mech S W) → SameCall (entered what owner mech) mech
    same_entered entering_to.Running owner mech = same mech _
    same_entered entering_to.Entered owner mech = same mech _
    same_entered (entering_to.Finished outcome) owner mech = same_told outcome mech

    same_help : (drives : Bool) (help : helper.Help S W) (seen : Seen) (mech : Mech S W) → SameCall (help_stepped form drives help seen mech) mech
    same_help drives help seen mech =
        let after = with_hand (helping_hand help.at mech.hand mech.setup.cap seen) mech in
        let hand : SameCall after mech = record { setup = refl; seat = refl; number = refl; op = refl } in
        either _ (then_same (same_helped drives after) hand) (then_same (same after _) hand)

    same_offered : (s : S) (mech : Mech S W) → SameCall (offered form s mech) mech
    same_offered s mech = record { setup = refl; seat = refl; number = refl; op = refl }

    same_searched : (what : Found) (s : S) (mech : Mech S W) → SameCall (searched form what s mech) mech
    same_searched found.Going s mech = same mech (Generate s Search)
    same_searched found.Ready s mech = either _ (same mech (Generate s LookForBlock)) (same_offered s mech)
    same_searched (found.Answer outcome) s mech = same_told outcome mech
    same_searched found.Contended s mech = same_failed mech

    same_wrapped_up : (what : Wrapped) (w : W) (mech : Mech S W) → SameCall (wrapped_up form what w mech) mech
    same_wrapped_up wrapped.Going w mech = same mech (Wrap w)
    same_wrapped_up (wrapped.Done outcome) w mech = same_told outcome mech
    same_wrapped_up wrapped.Restart w mech = same_failed mech

    same_spent : (stop : ℕ) (mech : Mech S W) → SameCall (spent form stop mech) mech
    same_spent stop mech = either _ (record { setup = refl; seat = refl; number = refl; op = refl }) (record { setup = refl; seat = refl; number = refl; op = refl })

    same_executed : (execution : Execution) (run : FastWalk) (stores : ArrayVec (ℕ × ℕ)) (mech : Mech S W) → SameCall (executed form execution run stores mech) mech
    same_executed Running run stores mech = same mech (Apply run stores Execute)
    same_executed (Stopped stop) run stores mech = then_same (same_wrapped_up _ _ _) (same_spent stop mech)

    same_generated : (s : S) (at : Generating) (seen : Seen) (mech : Mech S W) → SameCall (generated form s at seen mech) mech
    same_generated s Search seen mech = same_searched _ _ mech
    same_generated s LookForBlock seen mech = either _ (same mech _) (same mech _)
    same_generated s Claim seen mech = either _ (record { setup = refl; seat = refl; number = refl; op = refl }) (same mech _)

    same_applied : (run : FastWalk) (stores : ArrayVec (ℕ × ℕ)) (at : Applying) (seen : Seen) (mech : Mech S W) → SameCall (applied form run stores at seen mech) mech
    same_applied run stores (Fill made) seen mech = same mech _
    same_applied run stores Execute seen mech = same_executed _ _ stores mech

    same_stepped : (phase : Phase S W) (seen : Seen) (mech : Mech S W) → SameCall (stepped form phase seen mech) mech
    same_stepped Idle seen mech = record { setup = refl; seat = refl; number = refl; op = refl }
    same_stepped Begin seen mech = record { setup = refl; seat = refl; number = refl; op = refl }
    same_stepped Look seen mech = same_head _ false mech
    same_stepped (Generate s at) seen mech = same_generated s at seen mech
    same_stepped (Apply run stores at) seen mech = same_applied run stores at seen mech
    same_stepped (Wrap w) seen mech = same_wrapped_up _ _ mech
    same_stepped (Announce at) seen mech = same_announced at mech
    same_stepped (Enter owner) seen mech = same_entered _ _ mech
    same_stepped Drive seen mech = either _ (same_head _ true mech) (same mech _)
    same_stepped (Help drives help) seen mech = same_help drives help seen mech
    same_stepped Collect seen mech = same_told _ mech
    same_stepped (Value reference) seen mech = same mech _
    same_stepped (End reply) seen mech = same mech _

    -- a fed machine stays with its call
    pub same_fed : (mech : Mech S W) (seen : Seen) → SameCall (mech_fed form mech seen) mech
    same_fed mech seen = same_stepped mech.phase seen mech

    -- the same, of a machine that is known to be fed
    pub same_as_fed : (new mech : Mech S W) (seen : Seen) → new ≡ mech_fed form mech seen → SameCall new mech
    same_as_fed new mech seen h = subst (λ m. SameCall m mech) (sym h) (same_fed mech seen)
