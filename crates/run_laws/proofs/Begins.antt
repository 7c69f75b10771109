-- A step that draws no begin tick keeps that of its call.
use Rattle.std.proofs.Common.{rules, ◌≡◌, ◌∙◌, refl, ℕ, ◌+◌, min, Bool, true, false, if◌then◌else◌, Option, Some, None}
use Rattle.lin_report.specs.declared.calls.Outcome.{Outcome}
use Rattle.lin_report.specs.declared.calls.Outcome.TheVariants.{Plain, ValueOf}
use Rattle.step_memory.specs.declared.steps.Seen.{Seen}
use Rattle.arrayvec.specs.ArrayVec.{ArrayVec}
use Rattle.normal_traits.specs.declared.form.Found.{Found}
use Rattle.normal_traits.specs.declared.form.Found.TheVariants as found
use Rattle.normal_traits.specs.declared.form.Wrapped.{Wrapped}
use Rattle.normal_traits.specs.declared.form.Wrapped.TheVariants as wrapped
use Rattle.normal_traits.specs.NormalForm.{NormalForm}
use Rattle.cas_executor.specs.declared.fast_run.Execution.{Execution}
use Rattle.cas_executor.specs.declared.fast_run.Execution.TheVariants.{Running, Stopped}
use Rattle.cas_executor.specs.FastRuns.{FastWalk}
use Rattle.fast_slow_engine.specs.declared.phases.Phase.{Phase}
use Rattle.fast_slow_engine.specs.declared.phases.Phase.TheVariants.{Idle, Begin, Look, Generate, Apply, Wrap, Announce, Enter, Drive, Help, Collect, Value, End}
use Rattle.fast_slow_engine.specs.declared.phases.Generating.{Generating}
use Rattle.fast_slow_engine.specs.declared.phases.Generating.TheVariants.{Search, LookForBlock, Claim}
use Rattle.fast_slow_engine.specs.declared.phases.Applying.{Applying}
use Rattle.fast_slow_engine.specs.declared.phases.Applying.TheVariants.{Fill, Execute}
use Rattle.fast_slow_engine.specs.declared.phases.Announcing.{Announcing}
use Rattle.fast_slow_engine.specs.declared.phases.Announcing.TheVariants as announcing
use Rattle.fast_slow_engine.specs.declared.help.Help as helper
use Rattle.help_queue.specs.declared.enter.Entering.{Entering}
use Rattle.help_queue.specs.declared.enter.Entering.TheVariants as entering_to
use Rattle.help_queue.specs.Enters.{Owner}
use Rattle.fast_slow_engine.specs.HelpTable.{helping_hand}
use Rattle.fast_slow_engine.specs.Mechs.{Mech}
use Rattle.fast_slow_engine.specs.PhaseTable.{told, tried, helped, head_helped, announced, entered, help_stepped, driven, searched, spent, wrapped_up, executed, generated, applied, stepped, with_hand}
use Rattle.run_laws.specs.Ticks.{draws_tick}

module _ {S W : Type 0} where
  either : (b : Bool) (x y m : Mech S W) → x.begin ≡ m.begin → y.begin ≡ m.begin → (if b then x else y).begin ≡ m.begin
  either true x y m h k = h
  either false x y m h k = k

  begin_told : (outcome : Outcome) (mech : Mech S W) → (told outcome mech).begin ≡ mech.begin
  begin_told (Plain reply) mech = refl
  begin_told (ValueOf reference) mech = refl

  begin_announced : (at : Announcing) (mech : Mech S W) → (announced at mech).begin ≡ mech.begin
  begin_announced announcing.Value mech = refl
  begin_announced announcing.Op mech = refl
  begin_announced announcing.Record mech = refl

  begin_entered : (what : Entering) (owner : Owner) (mech : Mech S W) → (entered what owner mech).begin ≡ mech.begin
  begin_entered entering_to.Running owner mech = refl
  begin_entered entering_to.Entered owner mech = refl
  begin_entered (entering_to.Finished outcome) owner mech = begin_told outcome mech

  module _ (form : NormalForm S W) where
    begin_tried : (mech : Mech S W) → (tried form mech).begin ≡ mech.begin
    begin_tried mech = either _ _ _ mech refl refl

    begin_helped : (drives : Bool) (mech : Mech S W) → (helped form drives mech).begin ≡ mech.begin
    begin_helped true mech = refl
    begin_helped false mech = begin_tried mech

    begin_head : (head : Option ℕ) (drives : Bool) (mech : Mech S W) → (head_helped form head drives mech).begin ≡ mech.begin
    begin_head None drives mech = begin_helped drives mech
    begin_head (Some head) drives mech = either _ _ _ mech refl (begin_helped drives mech)

    begin_help : (drives : Bool) (help : helper.Help S W) (seen : Seen) (mech : Mech S W) → (help_stepped form drives help seen mech).begin ≡ mech.begin
    begin_help drives help seen mech = either _ _ _ mech (begin_helped drives (with_hand (helping_hand help.at mech.hand mech.setup.cap seen) mech)) refl

    begin_driven : (seen : Seen) (mech : Mech S W) → (driven form seen mech).begin ≡ mech.begin
    begin_driven seen mech = either _ _ _ mech (begin_head _ true mech) refl

    begin_searched : (what : Found) (s : S) (mech : Mech S W) → (searched form what s mech).begin ≡ mech.begin
    begin_searched found.Going s mech = refl
    begin_searched found.Ready s mech = either _ _ _ mech refl refl
    begin_searched (found.Answer outcome) s mech = begin_told outcome mech
    begin_searched found.Contended s mech = begin_tried (record mech { failures = min (mech.failures + 1) mech.setup.limit })

    begin_wrapped_up : (what : Wrapped) (w : W) (mech : Mech S W) → (wrapped_up form what w mech).begin ≡ mech.begin
    begin_wrapped_up wrapped.Going w mech = refl
    begin_wrapped_up (wrapped.Done outcome) w mech = begin_told outcome mech
    begin_wrapped_up wrapped.Restart w mech = begin_tried (record mech { failures = min (mech.failures + 1) mech.setup.limit })

    begin_spent : (stop : ℕ) (mech : Mech S W) → (spent form stop mech).begin ≡ mech.begin
    begin_spent stop mech = either _ _ _ mech refl refl

    begin_executed : (execution : Execution) (run : FastWalk) (stores : ArrayVec (ℕ × ℕ)) (mech : Mech S W) → (executed form execution run stores mech).begin ≡ mech.begin
    begin_executed Running run stores mech = refl
    begin_executed (Stopped stop) run stores mech = begin_wrapped_up (form.wrap_begun_of mech.op run.entries stop) (form.begin_wrap_of mech.op run.entries stop) (spent form stop mech) ∙ begin_spent stop mech

    begin_generated : (s : S) (at : Generating) (seen : Seen) (mech : Mech S W) → (generated form s at seen mech).begin ≡ mech.begin
    begin_generated s Search seen mech = begin_searched (form.found_of s seen) (form.feed_of s seen) mech
    begin_generated s LookForBlock seen mech = either _ _ _ mech refl refl
    begin_generated s Claim seen mech = either _ _ _ mech refl refl

    begin_applied : (run : FastWalk) (stores : ArrayVec (ℕ × ℕ)) (at : Applying) (seen : Seen) (mech : Mech S W) → (applied form run stores at seen mech).begin ≡ mech.begin
    begin_applied run stores (Fill made) seen mech = refl
    begin_applied run stores Execute seen mech = begin_executed _ _ stores mech

    -- it does in each phase but the one that draws it
    pub begin_stays : (phase : Phase S W) (seen : Seen) (mech : Mech S W) → draws_tick phase ≡ false → (stepped form phase seen mech).begin ≡ mech.begin
    begin_stays Idle seen mech quiet = refl
    begin_stays Begin seen mech quiet = absurd (search rules)
    begin_stays Look seen mech quiet = begin_head _ false mech
    begin_stays (Generate s at) seen mech quiet = begin_generated s at seen mech
    begin_stays (Apply run stores at) seen mech quiet = begin_applied run stores at seen mech
    begin_stays (Wrap w) seen mech quiet = begin_wrapped_up (form.wrap_found_of w seen) (form.feed_wrap_of w seen) mech
    begin_stays (Announce at) seen mech quiet = begin_announced at mech
    begin_stays (Enter owner) seen mech quiet = begin_entered _ _ mech
    begin_stays Drive seen mech quiet = begin_driven seen mech
    begin_stays (Help drives help) seen mech quiet = begin_help drives help seen mech
    begin_stays Collect seen mech quiet = begin_told _ mech
    begin_stays (Value reference) seen mech quiet = refl
    begin_stays (End reply) seen mech quiet = refl
