-- The list that a seat holds is that of its machine.
use Rattle.std.proofs.Common.{◌≡◌, ◌∙◌, refl, sym, subst, ℕ, ◌&&◌, nat_lt, if◌then◌else◌, Bool, true, false, [], ◌∷◌, length, Option, Some, None, rules}
use Rattle.lin_report.specs.declared.calls.Op.{Op}
use Rattle.lin_report.specs.declared.calls.Outcome.{Outcome}
use Rattle.lin_report.specs.declared.calls.Outcome.TheVariants as outcome
use Rattle.lin_report.specs.declared.calls.Reply.TheVariants.{Exhausted}
use Rattle.step_memory.specs.declared.steps.Seen.{Seen}
use Rattle.arrayvec.specs.ArrayVec.{ArrayVec}
use Rattle.normal_traits.specs.declared.form.Found.{Found}
use Rattle.normal_traits.specs.declared.form.Found.TheVariants as found
use Rattle.normal_traits.specs.declared.form.Wrapped.{Wrapped}
use Rattle.normal_traits.specs.declared.form.Wrapped.TheVariants as wrapped
use Rattle.normal_traits.specs.NormalForm.{NormalForm}
use Rattle.cas_executor.specs.declared.fast_run.Execution.{Execution}
use Rattle.cas_executor.specs.declared.fast_run.Execution.TheVariants.{Running, Stopped}
use Rattle.cas_executor.specs.FastRuns.{FastWalk, fast_execution, fast_fed}
use Rattle.fast_slow_engine.specs.declared.phases.Phase.{Phase}
use Rattle.fast_slow_engine.specs.declared.phases.Phase.TheVariants.{Idle, Generate, Apply, Wrap, Help, End}
use Rattle.fast_slow_engine.specs.declared.phases.Generating.TheVariants.{Search, LookForBlock, Claim}
use Rattle.fast_slow_engine.specs.declared.phases.Applying.{Applying}
use Rattle.fast_slow_engine.specs.declared.phases.Applying.TheVariants.{Fill, Execute}
use Rattle.fast_slow_engine.specs.Mechs.{Mech}
use Rattle.fast_slow_engine.specs.Hands.{holds_none}
use Rattle.fast_slow_engine.specs.PhaseTable.{executed, failed, in_phase, offered, rests, searched, spent, stepped, told, with_hand, wrapped_up}
use Rattle.fast_slow_engine.specs.Runs.{CanMove, begun}
use Rattle.helper_knowledge.specs.Carried.{OfSome}
use Rattle.run_laws.proofs.MachinesKept.{new_mech}
use Rattle.run_world.specs.Ghosts.{Held, SeatGhost, stopped_in}
use Rattle.run_world.specs.SeatSteps.{held_in, list_after, newly_held}
use Rattle.run_world.specs.Lists.{IsHeld, IsOffering, HoldsIn, ListsHeld}
use Rattle.run_world.specs.RunGhosts.{ghost_of}
use Rattle.run_world.proofs.Holding.PlainSteps.{HoldsPlain, failed_plain, help_plain, leads_plain}
use Rattle.run_world.proofs.Words.Moved.{seen_by}
use Rattle.run_world.proofs.Words.Seats.{seats_keep}

module _ {S W : Type 0} (form : NormalForm S W) where
  -- a machine holds what is left of this list in its phase
  abbrev Keeps : Mech S W → Option (Held S) → Type 0
  Keeps mech list = HoldsIn form mech.phase mech (held_in mech.phase list)

  -- a machine in a plain phase holds none
  abbrev Plain : Phase S W → Type 0
  Plain phase = (mech : Mech S W) (list : Option (Held S)) → HoldsIn form phase mech (held_in phase list)

  plain : HoldsPlain Plain
  plain = record {
    idle = λ mech list. refl;
    look = λ mech list. refl;
    searches = λ s mech list. refl;
    announces = λ at mech list. refl;
    enters = λ owner mech list. refl;
    drives = λ mech list. refl;
    helps = λ drives head seats mech list. refl;
    collects = λ mech list. refl;
    values = λ reference mech list. refl;
    ends = λ reply mech list. refl;
  }

  told_keeps : (what : Outcome) (mech : Mech S W) (list : Option (Held S)) → Keeps (told what mech) list
  told_keeps (outcome.Plain reply) mech list = refl
  told_keeps (outcome.ValueOf reference) mech list = refl

  -- a list that is named is that of its machine
  named_keeps : (identity since : ℕ) (s : S) (mech : Mech S W) → Keeps (offered form s mech) (Some (newly_held form identity s since (offered form s mech)))
  named_keeps identity since s mech = record { held_by = record { call = refl; entries = refl }; block = refl; entries = refl; made = refl }

  readied_keeps : (b : Bool) (identity since : ℕ) (s : S) (mech : Mech S W)
      → (let new = if b then in_phase (Generate s LookForBlock) mech else offered form s mech in Keeps new (Some (newly_held form identity s since new)))
  readied_keeps true identity since s mech = refl
  readied_keeps false identity since s mech = named_keeps identity since s mech

  searched_keeps : (what : Found) (identity since : ℕ) (s : S) (mech : Mech S W)
      → Keeps (searched form what s mech) (Some (newly_held form identity s since (searched form what s mech)))
  searched_keeps found.Going identity since s mech = refl
  searched_keeps found.Ready identity since s mech = readied_keeps (form.needs_block mech.op && holds_none mech.hand) identity since s mech
  searched_keeps (found.Answer outcome) identity since s mech = told_keeps outcome mech _
  searched_keeps found.Contended identity since s mech = failed_plain Plain plain form mech (failed form mech) _

  claimed_keeps : (b : Bool) (identity since : ℕ) (s : S) (block : ℕ) (mech : Mech S W)
      → (let new = if b then offered form s (with_hand (Some block) mech) else in_phase (End Exhausted) mech in Keeps new (Some (newly_held form identity s since new)))
  claimed_keeps true identity since s block mech = named_keeps identity since s (with_hand (Some block) mech)
  claimed_keeps false identity since s block mech = refl

  looked_keeps : (b : Bool) (s : S) (mech : Mech S W) (list : Mech S W → Option (Held S))
      → (let new = if b then in_phase (Generate s Claim) mech else in_phase (End Exhausted) mech in Keeps new (list new))
  looked_keeps true s mech list = refl
  looked_keeps false s mech list = refl

  -- a wrap-up has the list of the offer before it
  wrapped_keeps : (what : Wrapped) (w : W) (mech : Mech S W) (held : Held S) → IsHeld form mech held → Keeps (wrapped_up form what w mech) (Some held)
  wrapped_keeps wrapped.Going w mech held is = record { call = is.call; entries = is.entries }
  wrapped_keeps (wrapped.Done outcome) w mech held is = told_keeps outcome mech (Some held)
  wrapped_keeps wrapped.Restart w mech held is = failed_plain Plain plain form mech (failed form mech) (Some held)

  spent_held : (b : Bool) (mech : Mech S W) (held : Held S) → IsHeld form mech held → IsHeld form (if b then with_hand None mech else mech) held
  spent_held true mech held is = record { call = is.call; entries = is.entries }
  spent_held false mech held is = is

  executed_keeps : (execution : Execution) (run after : FastWalk) (stores : ArrayVec (ℕ × ℕ)) (mech : Mech S W) (held : Option (Held S)) → after.entries ≡ run.entries
      → OfSome (IsOffering form run stores mech) held → Keeps (executed form execution after stores mech) (stopped_in execution held)
  executed_keeps execution run after stores mech None same is = absurd is
  executed_keeps Running run after stores mech (Some held) same is =
      record { held_by = record { call = is.held_by.call; entries = is.held_by.entries }; block = is.block; entries = is.entries ∙ sym same; made = is.made }
  executed_keeps (Stopped stop) run after stores mech (Some held) same is =
      wrapped_keeps (form.wrap_begun_of mech.op after.entries stop) (form.begin_wrap_of mech.op after.entries stop) (spent form stop mech) _
      (spent_held (nat_lt 0 stop && form.needs_block mech.op) mech _ (record { call = is.held_by.call; entries = is.held_by.entries }))

  wrap_keeps : (what : Wrapped) (w : W) (mech : Mech S W) (held : Option (Held S)) → OfSome (IsHeld form mech) held → Keeps (wrapped_up form what w mech) held
  wrap_keeps what w mech None is = absurd is
  wrap_keeps what w mech (Some held) is = wrapped_keeps what w mech held is

  fill_keeps : (run : FastWalk) (stores : ArrayVec (ℕ × ℕ)) (at : Applying) (mech : Mech S W) (held : Option (Held S)) → OfSome (IsOffering form run stores mech) held → Keeps (in_phase (Apply run stores at) mech) held
  fill_keeps run stores at mech None is = absurd is
  fill_keeps run stores at mech (Some held) is = record { held_by = record { call = is.held_by.call; entries = is.held_by.entries }; block = is.block; entries = is.entries; made = is.made }

  idle_keeps : (phase : Phase S W) (mech : Mech S W) (list : Option (Held S)) → phase ≡ Idle → HoldsIn form phase mech (held_in phase list)
  idle_keeps phase mech list is = subst (λ (p : Phase S W). HoldsIn form p mech (held_in p list)) (sym is) refl

  step_keeps : (phase : Phase S W) (identity : ℕ) (mech : Mech S W) (seen : Seen) (own : SeatGhost S) → mech.phase ≡ phase → HoldsIn form phase mech own.held
      → Keeps (stepped form phase seen mech) (list_after form identity phase seen own (stepped form phase seen mech))
  step_keeps Idle identity mech seen own at is = idle_keeps mech.phase mech own.held at
  step_keeps (Generate s Search) identity mech seen own at is = searched_keeps (form.found_of s seen) identity own.carried.since (form.feed_of s seen) mech
  step_keeps (Generate s LookForBlock) identity mech seen own at is = looked_keeps (nat_lt seen.before mech.setup.cap) s mech (λ new. Some (newly_held form identity s own.carried.since new))
  step_keeps (Generate s Claim) identity mech seen own at is = claimed_keeps (nat_lt seen.before mech.setup.cap) identity own.carried.since s _ mech
  step_keeps (Apply run stores (Fill made)) identity mech seen own at is = fill_keeps run stores _ mech own.held is
  step_keeps (Apply run stores Execute) identity mech seen own at is =
      executed_keeps (fast_execution run seen) run (fast_fed run seen) stores mech own.held refl is
  step_keeps (Wrap w) identity mech seen own at is = wrap_keeps (form.wrap_found_of w seen) (form.feed_wrap_of w seen) mech own.held is
  step_keeps (Help drives help) identity mech seen own at is = help_plain Plain plain form drives help seen mech (λ goes mate list. refl) (stepped form (Help drives help) seen mech) own.held
  step_keeps phase identity mech seen own at is = leads_plain Plain plain form phase seen mech tt (stepped form phase seen mech) own.held

  -- a machine without a call holds none, so it holds none where one begins
  pub rest_holds : (phase : Phase S W) (mech : Mech S W) (held : Option (Held S)) → rests phase ≡ true → HoldsIn form phase mech held → held ≡ None
  rest_holds (Apply run stores at) mech held free is = absurd (search rules)
  rest_holds (Wrap w) mech held free is = absurd (search rules)
  rest_holds _ mech held free is = is

  pub begun_holds : (begins : Option Op) (mech : Mech S W) (held : Option (Held S)) → CanMove form begins mech → HoldsIn form mech.phase mech held
      → HoldsIn form (begun begins mech).phase (begun begins mech) held
  begun_holds None mech held can is = is
  begun_holds (Some op) mech held can is = rest_holds mech.phase mech held can.0 is

  pub lists_held : ListsHeld form
  lists_held setup [] are = λ seat mech at. subst (λ (m : Mech S W). HoldsIn form m.phase m None) (sym (new_mech form setup seat mech at)) refl
  lists_held setup (move ∷ older) are =
      let is = are.1 in
      let own = (ghost_of form setup older).seats move.seat in
      let each = lists_held setup older are.0 in
      let one = begun move.begins is.mech in
      seats_keep form (λ seat mech ghost. HoldsIn form mech.phase mech ghost.held) setup older move is each
      (step_keeps one.phase (length older) one (seen_by form setup older move is.mech) own refl (begun_holds move.begins is.mech own.held is.can (each move.seat is.mech is.seated)))
