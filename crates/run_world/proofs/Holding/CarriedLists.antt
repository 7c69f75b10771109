-- The list that a helper carries is of the head's call, with the block in hand.
use Rattle.std.proofs.Common.{◌≡◌, refl, sym, subst, ℕ, ◌+◌, ◌&&◌, nat_lt, if◌then◌else◌, Bool, true, false, [], ◌∷◌, length, Option, Some, None, rules}
use Rattle.lin_report.specs.declared.calls.Op.{Op}
use Rattle.lin_report.specs.declared.calls.Reply.TheVariants.{Exhausted}
use Rattle.step_memory.specs.declared.steps.Seen.{Seen}
use Rattle.word_fields.specs.Records.{record_number, record_phase}
use Rattle.arrayvec.specs.ArrayVec.{ArrayVec}
use Rattle.normal_traits.specs.declared.form.Found.{Found}
use Rattle.normal_traits.specs.declared.form.Found.TheVariants as found
use Rattle.normal_traits.specs.declared.form.Wrapped.{Wrapped}
use Rattle.normal_traits.specs.declared.form.Wrapped.TheVariants as wrapped
use Rattle.normal_traits.specs.NormalForm.{NormalForm}
use Rattle.cas_executor.specs.declared.fast_run.Execution.{Execution}
use Rattle.cas_executor.specs.declared.fast_run.Execution.TheVariants.{Running, Stopped}
use Rattle.cas_executor.specs.FastRuns.{FastWalk, fast_execution, fast_fed}
use Rattle.help_queue.specs.Gathers.{is_open}
use Rattle.help_queue.specs.Removes.{remove_new}
use Rattle.fast_slow_engine.specs.declared.phases.Phase.{Phase}
use Rattle.fast_slow_engine.specs.declared.phases.Phase.TheVariants.{Idle, Generate, Apply, Wrap, Help, End}
use Rattle.fast_slow_engine.specs.declared.phases.Generating.TheVariants.{Search, LookForBlock, Claim}
use Rattle.fast_slow_engine.specs.declared.phases.Applying.TheVariants.{Fill, Execute}
use Rattle.fast_slow_engine.specs.declared.help.Help as helper
use Rattle.fast_slow_engine.specs.declared.help.Helping.{Helping}
use Rattle.fast_slow_engine.specs.declared.help.Helping.TheVariants.{Record, Known, Remove}
use Rattle.fast_slow_engine.specs.declared.help.Work.TheVariants as work
use Rattle.fast_slow_engine.specs.Hands.{holds_none}
use Rattle.fast_slow_engine.specs.HelpTable.{help_fed, helping_ends, helping_fed, helping_hand, work_turn}
use Rattle.fast_slow_engine.specs.Mechs.{Mech}
use Rattle.fast_slow_engine.specs.PhaseTable.{executed, helped, in_phase, offered, rests, searched, spent, stepped, with_hand, wrapped_up}
use Rattle.fast_slow_engine.specs.Runs.{CanMove, begun}
use Rattle.offered_blocks.specs.Blocks.{Offer}
use Rattle.helper_knowledge.specs.Carried.{Carried}
use Rattle.run_laws.proofs.MachinesKept.{new_mech}
use Rattle.run_world.specs.SeatSteps.{filled_after, filled_helped}
use Rattle.run_world.specs.Lists.{CarriedHeld, CarriesHelp, CarriesIn}
use Rattle.run_world.specs.RunGhosts.{ghost_of}
use Rattle.run_world.proofs.Holding.CarriedWork.{over_none, stops_none, work_carries}
use Rattle.run_world.proofs.Holding.PlainSteps.{HoldsPlain, failed_plain, helped_plain, leads_plain, told_plain}
use Rattle.run_world.proofs.Words.Moved.{seen_by}
use Rattle.run_world.proofs.Words.Seats.{seats_keep}

module _ {S W : Type 0} (form : NormalForm S W) where
  -- a machine in this phase carries none
  abbrev Bare : Phase S W → Type 0
  Bare phase = (hand : Option ℕ) → CarriesIn form phase hand None

  bare : HoldsPlain Bare
  bare = record {
    idle = λ hand. refl;
    look = λ hand. refl;
    searches = λ s hand. refl;
    announces = λ at hand. refl;
    enters = λ owner hand. refl;
    drives = λ hand. refl;
    helps = λ drives head seats hand. refl;
    collects = λ hand. refl;
    values = λ reference hand. refl;
    ends = λ reply hand. refl;
  }

  -- ---- the steps of a list of the own call

  either_bare : (b : Bool) (x y : Mech S W) → Bare x.phase → Bare y.phase → Bare (if b then x else y).phase
  either_bare true x y h k = h
  either_bare false x y h k = k

  searched_bare : (what : Found) (s : S) (mech : Mech S W) → Bare (searched form what s mech).phase
  searched_bare found.Going s mech = λ hand. refl
  searched_bare found.Ready s mech = either_bare (form.needs_block mech.op && holds_none mech.hand) (in_phase (Generate s LookForBlock) mech) (offered form s mech) (λ hand. refl) (λ hand. refl)
  searched_bare (found.Answer outcome) s mech = told_plain Bare bare outcome mech
  searched_bare found.Contended s mech = failed_plain Bare bare form mech

  wrapped_bare : (what : Wrapped) (w : W) (mech : Mech S W) → Bare (wrapped_up form what w mech).phase
  wrapped_bare wrapped.Going w mech = λ hand. refl
  wrapped_bare (wrapped.Done outcome) w mech = told_plain Bare bare outcome mech
  wrapped_bare wrapped.Restart w mech = failed_plain Bare bare form mech

  executed_bare : (execution : Execution) (run : FastWalk) (stores : ArrayVec (ℕ × ℕ)) (mech : Mech S W) → Bare (executed form execution run stores mech).phase
  executed_bare Running run stores mech = λ hand. refl
  executed_bare (Stopped stop) run stores mech = wrapped_bare (form.wrap_begun_of mech.op run.entries stop) (form.begin_wrap_of mech.op run.entries stop) (spent form stop mech)

  -- ---- helping

  met_carries : (b : Bool) (word head seats : ℕ) (hand : Option ℕ) → CarriesHelp form (if b then Known word work.Head else Remove (remove_new head (record_number word) seats)) head hand None
  met_carries true word head seats hand = refl
  met_carries false word head seats hand = refl

  -- where helping goes on
  helping_carries : (identity : ℕ) (at : Helping S W) (head seats : ℕ) (hand : Option ℕ) (cap : ℕ) (seen : Seen) (own : Carried S) → CarriesHelp form at head hand own.filled
      → CarriesHelp form (helping_fed form at head seats hand cap seen) head (helping_hand at hand cap seen) (filled_helped form identity at head hand cap seen own)
  helping_carries identity (Record known) head seats hand cap seen own is = met_carries (is_open (record_phase seen.before)) seen.before head seats hand
  helping_carries identity (Known word does) head seats hand cap seen own is = work_carries form head word identity hand cap seen own does is
  helping_carries identity (Remove removal) head seats hand cap seen own is = refl

  -- where it ends nothing is carried
  pub ends_none : (identity : ℕ) (at : Helping S W) (head : ℕ) (hand : Option ℕ) (cap : ℕ) (seen : Seen) (own : Carried S) → helping_ends form at head seen ≡ true → filled_helped form identity at head hand cap seen own ≡ None
  ends_none identity (Known word does) head hand cap seen own ends = over_none form (work_turn form does head word seen) _ ends (stops_none form head word identity hand cap seen own does)
  ends_none identity _ head hand cap seen own ends = refl

  help_carries : (b : Bool) (identity : ℕ) (drives : Bool) (help : helper.Help S W) (mech : Mech S W) (seen : Seen) (own : Carried S) → helping_ends form help.at help.head seen ≡ b → CarriesHelp form help.at help.head mech.hand own.filled
      → (let after = with_hand (helping_hand help.at mech.hand mech.setup.cap seen) mech in
      let new = if b then helped form drives after else in_phase (Help drives (help_fed form help mech.hand mech.setup.cap seen)) after in
      CarriesIn form new.phase new.hand (filled_helped form identity help.at help.head mech.hand mech.setup.cap seen own))
  help_carries true identity drives help mech seen own ends is =
      let after = with_hand (helping_hand help.at mech.hand mech.setup.cap seen) mech in
      let none = ends_none identity help.at help.head mech.hand mech.setup.cap seen own ends in
      subst (λ f. CarriesIn form (helped form drives after).phase (helped form drives after).hand f) (sym none) (helped_plain Bare bare form drives after (helped form drives after).hand)
  help_carries false identity drives help mech seen own ends is = helping_carries identity help.at help.head help.seats mech.hand mech.setup.cap seen own is

  -- ---- all phases

  step_carries : (phase : Phase S W) (identity : ℕ) (mech : Mech S W) (seen : Seen) (own : Carried S) → mech.phase ≡ phase → CarriesIn form phase mech.hand own.filled
      → (let new = stepped form phase seen mech in CarriesIn form new.phase new.hand (filled_after form identity phase mech.hand mech.setup.cap seen own))
  step_carries Idle identity mech seen own at is = subst (λ (p : Phase S W). CarriesIn form p mech.hand None) (sym at) refl
  step_carries (Generate s Search) identity mech seen own at is = searched_bare (form.found_of s seen) (form.feed_of s seen) mech (stepped form (Generate s Search) seen mech).hand
  step_carries (Generate s LookForBlock) identity mech seen own at is = either_bare (nat_lt seen.before mech.setup.cap) (in_phase (Generate s Claim) mech) (in_phase (End Exhausted) mech) (λ hand. refl) (λ hand. refl) (stepped form (Generate s LookForBlock) seen mech).hand
  step_carries (Generate s Claim) identity mech seen own at is = either_bare (nat_lt seen.before mech.setup.cap) (offered form s (with_hand (Some (seen.before + 1)) mech)) (in_phase (End Exhausted) mech) (λ hand. refl) (λ hand. refl) (stepped form (Generate s Claim) seen mech).hand
  step_carries (Apply run stores (Fill made)) identity mech seen own at is = refl
  step_carries (Apply run stores Execute) identity mech seen own at is = executed_bare (fast_execution run seen) (fast_fed run seen) stores mech (stepped form (Apply run stores Execute) seen mech).hand
  step_carries (Wrap w) identity mech seen own at is = wrapped_bare (form.wrap_found_of w seen) (form.feed_wrap_of w seen) mech (stepped form (Wrap w) seen mech).hand
  step_carries (Help drives help) identity mech seen own at is = help_carries (helping_ends form help.at help.head seen) identity drives help mech seen own refl is
  step_carries phase identity mech seen own at is = leads_plain Bare bare form phase seen mech tt (stepped form phase seen mech).hand

  rest_carries : (phase : Phase S W) (hand : Option ℕ) (filled : Option (Offer S)) → rests phase ≡ true → CarriesIn form phase hand filled → filled ≡ None
  rest_carries (Help drives help) hand filled free is = absurd (search rules)
  rest_carries _ hand filled free is = is

  pub begun_carries : (begins : Option Op) (mech : Mech S W) (filled : Option (Offer S)) → CanMove form begins mech → CarriesIn form mech.phase mech.hand filled → CarriesIn form (begun begins mech).phase (begun begins mech).hand filled
  begun_carries None mech filled can is = is
  begun_carries (Some op) mech filled can is = rest_carries mech.phase mech.hand filled can.0 is

  pub carried_held : CarriedHeld form
  carried_held setup [] are = λ seat mech at. subst (λ (m : Mech S W). CarriesIn form m.phase m.hand None) (sym (new_mech form setup seat mech at)) refl
  carried_held setup (move ∷ older) are =
      let is = are.1 in
      let own = (ghost_of form setup older).seats move.seat in
      let each = carried_held setup older are.0 in
      let one = begun move.begins is.mech in
      seats_keep form (λ seat mech ghost. CarriesIn form mech.phase mech.hand ghost.carried.filled) setup older move is each
      (step_carries one.phase (length older) one (seen_by form setup older move is.mech) own.carried refl (begun_carries move.begins is.mech own.carried.filled is.can (each move.seat is.mech is.seated)))
