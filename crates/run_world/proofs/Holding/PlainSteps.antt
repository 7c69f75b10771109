-- Steps to a phase without a list: what holds in each such phase holds where they lead.
use Rattle.std.proofs.Common.{◌≡◌, refl, ℕ, ◌+◌, min, nat_lt, if◌then◌else◌, Bool, true, false, Option, Some, None}
use Rattle.lin_report.specs.declared.calls.Outcome.{Outcome}
use Rattle.lin_report.specs.declared.calls.Outcome.TheVariants.{Plain, ValueOf}
use Rattle.lin_report.specs.declared.calls.Reply.{Reply}
use Rattle.step_memory.specs.declared.steps.Seen.{Seen}
use Rattle.help_queue.specs.declared.enter.Entering.{Entering}
use Rattle.help_queue.specs.declared.enter.Entering.TheVariants as entering_to
use Rattle.help_queue.specs.Enters.{Owner, enter_fed, entering, outcome_or_done}
use Rattle.help_queue.specs.Gathers.{holds}
use Rattle.help_queue.specs.Heads.{head_of}
use Rattle.normal_traits.specs.NormalForm.{NormalForm}
use Rattle.fast_slow_engine.specs.declared.phases.Announcing.{Announcing}
use Rattle.fast_slow_engine.specs.declared.phases.Announcing.TheVariants as announcing
use Rattle.fast_slow_engine.specs.declared.phases.Generating.TheVariants.{Search}
use Rattle.fast_slow_engine.specs.declared.phases.Phase.{Phase}
use Rattle.fast_slow_engine.specs.declared.phases.Phase.TheVariants.{Idle, Begin, Look, Generate, Apply, Wrap, Announce, Enter, Drive, Help, Collect, Value, End}
use Rattle.fast_slow_engine.specs.declared.help.Help as helper
use Rattle.fast_slow_engine.specs.declared.help.Helping.TheVariants as helping
use Rattle.fast_slow_engine.specs.HelpTable.{help_fed, helping_ends, helping_hand}
use Rattle.fast_slow_engine.specs.Mechs.{Mech}
use Rattle.fast_slow_engine.specs.PhaseTable.{announced, entered, failed, head_helped, helped, in_phase, may_search, stepped, told, tried, with_hand}

-- this holds of each phase in which a call has no list and asks for no block
pub record HoldsPlain {S W : Type 0} (P : Phase S W → Type 0) : Type 0 where
  pub idle : P Idle
  pub look : P Look
  pub searches : (s : S) → P (Generate s Search)
  pub announces : (at : Announcing) → P (Announce at)
  pub enters : (owner : Owner) → P (Enter owner)
  pub drives : P Drive
  pub helps : (drives : Bool) (head seats : ℕ) → P (Help drives (record { head = head; seats = seats; at = helping.Record None }))
  pub collects : P Collect
  pub values : (reference : ℕ) → P (Value reference)
  pub ends : (reply : Reply) → P (End reply)

-- these steps lead to such a phase
abbrev pub LeadsPlain : {S W : Type 0} → Phase S W → Type 0
LeadsPlain Idle = ⊥
LeadsPlain (Generate s at) = ⊥
LeadsPlain (Apply run stores at) = ⊥
LeadsPlain (Wrap w) = ⊥
LeadsPlain (Help drives help) = ⊥
LeadsPlain _ = Unit {0}

module _ {S W : Type 0} (P : Phase S W → Type 0) (is : HoldsPlain P) where
  pub either_plain : (b : Bool) (x y : Mech S W) → P x.phase → P y.phase → P (if b then x else y).phase
  either_plain true x y h k = h
  either_plain false x y h k = k

  pub told_plain : (outcome : Outcome) (mech : Mech S W) → P (told outcome mech).phase
  told_plain (Plain reply) mech = is.ends reply
  told_plain (ValueOf reference) mech = is.values _

  announced_plain : (at : Announcing) (mech : Mech S W) → P (announced at mech).phase
  announced_plain announcing.Value mech = is.announces announcing.Op
  announced_plain announcing.Op mech = is.announces announcing.Record
  announced_plain announcing.Record mech = is.enters _

  entered_plain : (what : Entering) (owner : Owner) (mech : Mech S W) → P (entered what owner mech).phase
  entered_plain entering_to.Running owner mech = is.enters owner
  entered_plain entering_to.Entered owner mech = is.drives
  entered_plain (entering_to.Finished outcome) owner mech = told_plain outcome mech

  module _ (form : NormalForm S W) where
    tried_plain : (mech : Mech S W) → P (tried form mech).phase
    tried_plain mech = either_plain (may_search mech) (in_phase (Generate (form.begin_of mech.op) Search) mech) (in_phase (Announce announcing.Value) mech) (is.searches _) (is.announces announcing.Value)

    -- a call that failed searches anew, or is announced
    pub failed_plain : (mech : Mech S W) → P (failed form mech).phase
    failed_plain mech = tried_plain (record mech { failures = min (mech.failures + 1) mech.setup.limit })

    pub helped_plain : (drives : Bool) (mech : Mech S W) → P (helped form drives mech).phase
    helped_plain true mech = is.drives
    helped_plain false mech = tried_plain mech

    head_plain : (head : Option ℕ) (drives : Bool) (mech : Mech S W) → P (head_helped form head drives mech).phase
    head_plain None drives mech = helped_plain drives mech
    head_plain (Some head) drives mech =
        either_plain (nat_lt head mech.setup.seats) (in_phase (Help drives (record { head = head; seats = mech.setup.seats; at = helping.Record None })) mech) (helped form drives mech) (is.helps drives head mech.setup.seats) (helped_plain drives mech)

    -- the look at the queue word, and each step of publishing
    pub leads_plain : (phase : Phase S W) (seen : Seen) (mech : Mech S W) → LeadsPlain phase → P (stepped form phase seen mech).phase
    leads_plain Idle seen mech leads = absurd leads
    leads_plain Begin seen mech leads = is.look
    leads_plain Look seen mech leads = head_plain (head_of seen.before) false mech
    leads_plain (Generate s at) seen mech leads = absurd leads
    leads_plain (Apply run stores at) seen mech leads = absurd leads
    leads_plain (Wrap w) seen mech leads = absurd leads
    leads_plain (Announce at) seen mech leads = announced_plain at mech
    leads_plain (Enter owner) seen mech leads = entered_plain (entering owner seen) (enter_fed owner seen) mech
    leads_plain Drive seen mech leads = either_plain (holds seen.before mech.seat) (head_helped form (head_of seen.before) true mech) (in_phase Collect mech) (head_plain (head_of seen.before) true mech) is.collects
    leads_plain (Help drives help) seen mech leads = absurd leads
    leads_plain Collect seen mech leads = told_plain (outcome_or_done seen.before) mech
    leads_plain (Value reference) seen mech leads = is.ends _
    leads_plain (End reply) seen mech leads = is.idle

    -- and of helping, where it goes on to such a phase too
    pub help_plain : (drives : Bool) (help : helper.Help S W) (seen : Seen) (mech : Mech S W) → (helping_ends form help.at help.head seen ≡ false → P (Help drives (help_fed form help mech.hand mech.setup.cap seen)))
        → P (stepped form (Help drives help) seen mech).phase
    help_plain drives help seen mech goes =
        by_end (helping_ends form help.at help.head seen) refl
      where
        by_end : (b : Bool) → helping_ends form help.at help.head seen ≡ b
            → P (if b then helped form drives (with_hand (helping_hand help.at mech.hand mech.setup.cap seen) mech) else in_phase (Help drives (help_fed form help mech.hand mech.setup.cap seen)) (with_hand (helping_hand help.at mech.hand mech.setup.cap seen) mech)).phase
        by_end true ends = helped_plain drives (with_hand (helping_hand help.at mech.hand mech.setup.cap seen) mech)
        by_end false goes_on = goes goes_on
