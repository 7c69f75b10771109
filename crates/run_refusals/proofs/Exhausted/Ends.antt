-- A call that ends with Exhausted has found no block left itself, or was told so by its record.
use Rattle.std.proofs.Common.{◌≡◌, ◌∙◌, refl, sym, subst, ap, ℕ, ◌+◌, nat_lt, min, if◌then◌else◌, Bool, true, false, List, ◌∷◌, length, slice_index, Option, Some, None, arith}
use Rattle.arrayvec.specs.ArrayVec.{ArrayVec}
use Rattle.lin_report.specs.declared.calls.Op.{Op}
use Rattle.lin_report.specs.declared.calls.Outcome.{Outcome}
use Rattle.lin_report.specs.declared.calls.Outcome.TheVariants.{Plain}
use Rattle.lin_report.specs.declared.calls.Reply.TheVariants.{Exhausted}
use Rattle.lin_report.specs.Object.{IsCommandOf}
use Rattle.step_memory.specs.declared.steps.Seen.{Seen}
use Rattle.step_memory.specs.Step.{seen_of}
use Rattle.step_memory.proofs.Words.{add_tells, load_tells}
use Rattle.help_queue.specs.declared.enter.Entering.{Entering}
use Rattle.help_queue.specs.declared.enter.Entering.TheVariants as entering_to
use Rattle.help_queue.specs.Enters.{Owner, enter_fed, entering, outcome_or_done}
use Rattle.help_queue.specs.Gathers.{holds}
use Rattle.help_queue.specs.Heads.{head_of}
use Rattle.help_queue_laws.specs.Runs.{record_in}
use Rattle.normal_traits.specs.declared.form.Found.{Found}
use Rattle.normal_traits.specs.declared.form.Found.TheVariants as found
use Rattle.normal_traits.specs.declared.form.Wrapped.{Wrapped}
use Rattle.normal_traits.specs.declared.form.Wrapped.TheVariants as wrapped
use Rattle.normal_traits.specs.World.{ChangedBy, Listed, RightSince}
use Rattle.normal_traits.specs.NormalForm.{NormalForm}
use Rattle.normal_traits.specs.Steps.{Requested}
use Rattle.normal_traits.specs.Laws.{FoundWell, WrappedWell}
use Rattle.cas_executor.specs.declared.fast_run.Execution.{Execution}
use Rattle.cas_executor.specs.declared.fast_run.Execution.TheVariants.{Running, Stopped}
use Rattle.cas_executor.specs.FastRuns.{FastWalk, fast_execution, fast_fed}
use Rattle.fast_slow_engine.specs.declared.phases.Phase.{Phase}
use Rattle.fast_slow_engine.specs.declared.phases.Phase.TheVariants as phase
use Rattle.fast_slow_engine.specs.declared.phases.Announcing.TheVariants as announcing
use Rattle.fast_slow_engine.specs.declared.phases.Generating.TheVariants.{Search, LookForBlock, Claim}
use Rattle.fast_slow_engine.specs.declared.phases.Applying.TheVariants.{Fill, Execute}
use Rattle.fast_slow_engine.specs.declared.help.Help as helper
use Rattle.fast_slow_engine.specs.declared.help.Helping.TheVariants as helping
use Rattle.fast_slow_engine.specs.declared.setup.Setup.{Setup}
use Rattle.fast_slow_engine.specs.HelpTable.{help_fed, helping_ends, helping_hand}
use Rattle.fast_slow_engine.specs.Mechs.{Mech}
use Rattle.fast_slow_engine.specs.PhaseTable.{ends, mech_request, entered, executed, failed, head_helped, help_stepped, helped, in_phase, may_search, offered, readied, request_in, searched, spent, stepped, tried, with_hand, wrapped_up}
use Rattle.fast_slow_engine.specs.Runs.{Move, begun, run_of}
use Rattle.move_kinds.specs.Moves.{Leaves}
use Rattle.helper_knowledge.specs.Carried.{OfSome}
use Rattle.run_queue.specs.QueueLaws.{EndsCompleted, finished_with, outcome_in}
use Rattle.run_queue.proofs.OutcomeLaws.{outcomes_hold}
use Rattle.run_invariant.specs.Ghosts.{Held, SeatGhost}
use Rattle.run_invariant.specs.Lists.{HoldsIn, IsOffering}
use Rattle.run_invariant.specs.RunGhosts.{ghost_of}
use Rattle.run_invariant.specs.Known.{KnowsIn, KnowsRun, KnowsWrap, MakesCommand}
use Rattle.run_invariant.specs.Moves.{Enters, StepsIn}
use Rattle.run_invariant.specs.Kept.{callers_in}
use Rattle.run_invariant.proofs.InRuns.Leaves.{leaves}
use Rattle.run_invariant.proofs.InRuns.MovesInRuns.{Moved, after, does, known, mech, mover, of_seat, offers, own, queued, seated, seen, world}
use Rattle.run_invariant.proofs.Tells.OwnLists.{run_ends, wrap_goes}
use Rattle.run_invariant.proofs.Tells.Values.{AreReplied}
use Rattle.run_invariant.proofs.Tells.Replies.{changed_not, right_not}
use Rattle.run_refusals.specs.NoneLeft.{EachLeft, NoneLeft}
use Rattle.run_refusals.proofs.Exhausted.Helpers.{no_less}
use Rattle.run_refusals.proofs.Exhausted.Outcomes.{done_tells, told_end}

module _ {S W : Type 0} where
  either_goes : (b : Bool) (x y : Mech S W) → ends x.phase ≡ false → ends y.phase ≡ false → ends (if b then x else y).phase ≡ false
  either_goes true x y h k = h
  either_goes false x y h k = k

  goes_not : {A : Type 0} (p : Phase S W) → ends p ≡ false → p ≡ phase.End Exhausted → A
  goes_not p goes is = absurd (let on : ends p ≡ true = ap ends is in cc)

  not_first : {A : Type 0} (b : Bool) (x y : Mech S W) → ends x.phase ≡ false → (if b then x else y).phase ≡ phase.End Exhausted → (b ≡ false → A) → A
  not_first true x y goes is other = goes_not x.phase goes is
  not_first false x y goes is other = other refl

  abbrev pub is_begin : Phase S W → Bool
  is_begin phase.Begin = true
  is_begin _ = false

  begin_not : (p q : Phase S W) → p ≡ q → is_begin q ≡ false → is_begin p ≡ false
  begin_not p q same not = ap is_begin same ∙ not

  -- a machine that isn't at its begin tick made its call before
  pub same_begun : (begins : Option Op) (one : Mech S W) → is_begin (begun begins one).phase ≡ false → begun begins one ≡ one
  same_begun None one not = refl
  same_begun (Some op) one not = absurd cc

  module _ (form : NormalForm S W) where
    tried_goes : (one : Mech S W) → ends (tried form one).phase ≡ false
    tried_goes one = either_goes (may_search one) (in_phase (phase.Generate (form.begin_of one.op) Search) one) (in_phase (phase.Announce announcing.Value) one) refl refl

    failed_goes : (one : Mech S W) → ends (failed form one).phase ≡ false
    failed_goes one = tried_goes (record one { failures = min (one.failures + 1) one.setup.limit })

    helped_goes : (drives : Bool) (one : Mech S W) → ends (helped form drives one).phase ≡ false
    helped_goes true one = refl
    helped_goes false one = tried_goes one

    head_goes : (head : Option ℕ) (drives : Bool) (one : Mech S W) → ends (head_helped form head drives one).phase ≡ false
    head_goes None drives one = helped_goes drives one
    head_goes (Some head) drives one =
        either_goes (nat_lt head one.setup.seats) (in_phase (phase.Help drives (record { head = head; seats = one.setup.seats; at = helping.Record None })) one) (helped form drives one) refl (helped_goes drives one)

    help_goes : (drives : Bool) (help : helper.Help S W) (saw : Seen) (one : Mech S W) → ends (help_stepped form drives help saw one).phase ≡ false
    help_goes drives help saw one =
        let next = with_hand (helping_hand help.at one.hand one.setup.cap saw) one in
        either_goes (helping_ends form help.at help.head saw) (helped form drives next) (in_phase (phase.Help drives (help_fed form help one.hand one.setup.cap saw)) next) (helped_goes drives next) refl

    readied_goes : (s : S) (one : Mech S W) → ends (readied form s one).phase ≡ false
    readied_goes s one = either_goes _ (in_phase (phase.Generate s LookForBlock) one) (offered form s one) refl refl

module _ {S W : Type 0} (form : NormalForm S W) {setup : Setup} {older : List Move} {move : Move} (m : Moved form setup older move) (replied : AreReplied form.object (after form m).changes) (each : EachLeft form setup older) where
  abbrev Left : Type 0
  Left = NoneLeft setup.cap (slice_index (run_of form setup older).words 2) (mover form m).op

  -- what a search found
  found_end : (what : Found) (s : S) (since : ℕ) → FoundWell form (after form m) (mover form m).op since s what → (searched form what s (mover form m)).phase ≡ phase.End Exhausted → Left
  found_end found.Going s since well is = absurd cc
  found_end found.Ready s since well is = goes_not _ (readied_goes form s (mover form m)) is
  found_end (found.Answer outcome) s since well is =
      absurd (right_not form.object form.tellable (after form m) (mover form m).op since Exhausted (subst (RightSince form.object (after form m) (mover form m).op since) (told_end outcome (mover form m) is) well.0) refl)
  found_end found.Contended s since well is = goes_not _ (failed_goes form (mover form m)) is

  -- what has come of a wrap-up
  wrapped_end : (what : Wrapped) (list : Listed) (stop : ℕ) (w : W) (one : Mech S W) → WrappedWell form (after form m) list stop w what → (wrapped_up form what w one).phase ≡ phase.End Exhausted → Left
  wrapped_end wrapped.Going list stop w one well is = absurd cc
  wrapped_end (wrapped.Done outcome) list stop w one well is =
      absurd (changed_not form.object form.tellable (after form m) list Exhausted replied (subst (ChangedBy (after form m) list) (told_end outcome one is) well.0) refl)
  wrapped_end wrapped.Restart list stop w one well is = goes_not _ (failed_goes form one) is

  move_leaves : Leaves form (world form m) (after form m) (offers form m) (ghost_of form setup (move ∷ older)).offers None
  move_leaves = leaves form m.laws setup older move (mech form m) m.are (seated form m) m.kept

  execution_end : (ended : Execution) (run : FastWalk) (stores : ArrayVec (ℕ × ℕ)) (held : Held S) → fast_execution run (seen form m) ≡ ended → IsOffering form run stores (mover form m) held → KnowsRun form (world form m) run held
      → Enters form (world form m) (after form m) (offers form m) (ghost_of form setup (move ∷ older)).offers run (Some held) (seen form m) → (executed form ended (fast_fed run (seen form m)) stores (mover form m)).phase ≡ phase.End Exhausted → Left
  execution_end Running run stores held how lists knows enters is = absurd cc
  execution_end (Stopped stop) run stores held how lists knows enters is =
      wrapped_end (form.wrap_begun_of (mover form m).op run.entries stop) held.list stop (form.begin_wrap_of (mover form m).op run.entries stop) (spent form stop (mover form m))
      (run_ends form m.laws (world form m) (after form m) (offers form m) (ghost_of form setup (move ∷ older)).offers (callers_in (run_of form setup older) (ghost_of form setup older)) (seen form m) move_leaves m.kept.holds.shape m.later.holds.shape (mover form m) run stores held stop lists knows enters how) is

  execute_end : (run : FastWalk) (stores : ArrayVec (ℕ × ℕ)) (held : Option (Held S)) → OfSome (IsOffering form run stores (mover form m)) held → OfSome (KnowsRun form (world form m) run) held
      → Enters form (world form m) (after form m) (offers form m) (ghost_of form setup (move ∷ older)).offers run held (seen form m) → (executed form (fast_execution run (seen form m)) (fast_fed run (seen form m)) stores (mover form m)).phase ≡ phase.End Exhausted → Left
  execute_end run stores None lists knows enters is = absurd knows
  execute_end run stores (Some held) lists knows enters is = execution_end (fast_execution run (seen form m)) run stores held refl lists knows enters is

  wrap_end : (w : W) (held : Option (Held S)) → OfSome (KnowsWrap form (world form m) w) held → Requested form (form.wrap_request_of w) (world form m) (after form m) (seen form m)
      → (wrapped_up form (form.wrap_found_of w (seen form m)) (form.feed_wrap_of w (seen form m)) (mover form m)).phase ≡ phase.End Exhausted → Left
  wrap_end w None knows requested is = absurd knows
  wrap_end w (Some held) knows requested is =
      wrapped_end (form.wrap_found_of w (seen form m)) held.list held.stop (form.feed_wrap_of w (seen form m)) (mover form m)
      (wrap_goes form m.laws (world form m) (after form m) (offers form m) (ghost_of form setup (move ∷ older)).offers (callers_in (run_of form setup older) (ghost_of form setup older)) (seen form m) move_leaves m.kept.holds.shape m.later.holds.shape w held knows requested) is

  -- a search that finds no block
  full_end : (s : S) (since : ℕ) → IsCommandOf form.object (mover form m).op → form.is_ready s → form.knows s (mover form m).op (world form m) since
      → nat_lt (seen form m).before (mover form m).setup.cap ≡ false → (seen form m).before ≡ slice_index (run_of form setup older).words 2 → Left
  full_end s since command ready knows off saw =
      let past = no_less (seen form m).before (mover form m).setup.cap off in
      let cap = ap (λ (s : Setup). s.cap) (of_seat form m).setup in
      record { may = (m.laws.of_world.lists (world form m) s (mover form m).op since command knows ready).1; none_left = omega (arith, past, saw, cap) }

  -- a call that is told by its record
  told_left : (outcome : Outcome) → mover form m ≡ mech form m → EndsCompleted (run_of form setup older).words move.seat (mech form m) outcome → outcome ≡ Plain Exhausted → Left
  told_left outcome same ended is =
      subst (λ (one : Mech S W). NoneLeft setup.cap (slice_index (run_of form setup older).words 2) one.op) (sym same)
      ((each move.seat (mech form m) (seated form m)).told ended.number (done_tells (record_in (run_of form setup older).words move.seat) (sym ended.told ∙ is)))

  outcomes : (outcome : Outcome) (at : Phase S W) → (mover form m).phase ≡ at → mover form m ≡ mech form m → outcome_in at (seen form m) ≡ Some outcome → EndsCompleted (run_of form setup older).words move.seat (mech form m) outcome
  outcomes outcome at is same tells =
      outcomes_hold form setup older m.are.0 (queued form m) move.seat (mech form m) (seated form m) outcome
      (subst (λ (one : Mech S W). outcome_in one.phase (seen_of (mech_request form one) (run_of form setup older).words) ≡ Some outcome) same (ap (λ (p : Phase S W). outcome_in p (seen form m)) is ∙ tells))

  entered_end : (what : Entering) (owner : Owner) → (mover form m).phase ≡ phase.Enter owner → entering owner (seen form m) ≡ what → (entered what (enter_fed owner (seen form m)) (mover form m)).phase ≡ phase.End Exhausted → Left
  entered_end entering_to.Running owner at how is = absurd cc
  entered_end entering_to.Entered owner at how is = absurd cc
  entered_end (entering_to.Finished outcome) owner at how is =
      let same = same_begun move.begins (mech form m) (begin_not (mover form m).phase (phase.Enter owner) at refl) in
      told_left outcome same (outcomes outcome (phase.Enter owner) at same (ap finished_with how)) (told_end outcome (mover form m) is)

  -- ---- by the phase of the machine

  ends_at : (at : Phase S W) (own' : SeatGhost S) → (mover form m).phase ≡ at → MakesCommand form at (mover form m) → HoldsIn form at (mover form m) (own form m).held
      → KnowsIn form at (mover form m) (own form m) (world form m) (offers form m) (callers_in (run_of form setup older) (ghost_of form setup older))
      → StepsIn form (world form m) (after form m) (offers form m) (ghost_of form setup (move ∷ older)).offers at (mover form m) (own form m) own' (length older) (seen form m)
      → (stepped form at (seen form m) (mover form m)).phase ≡ phase.End Exhausted → Left
  ends_at phase.Idle own' at command lists knows steps is = absurd (let both = sym at ∙ is in cc)
  ends_at phase.Begin own' at command lists knows steps is = absurd cc
  ends_at phase.Look own' at command lists knows steps is = goes_not _ (head_goes form (head_of (seen form m).before) false (mover form m)) is
  ends_at (phase.Generate s Search) own' at command lists knows steps is =
      let fed = m.laws.search_fed (world form m) (after form m) (seen form m) s (mover form m).op (own form m).carried.since command m.kept.holds.shape knows.0 knows.1 steps.1 in
      found_end (form.found_of s (seen form m)) (form.feed_of s (seen form m)) (own form m).carried.since fed.1 is
  ends_at (phase.Generate s LookForBlock) own' at command lists knows steps is =
      not_first (nat_lt (seen form m).before (mover form m).setup.cap) (in_phase (phase.Generate s Claim) (mover form m)) (in_phase (phase.End Exhausted) (mover form m)) refl is
      (λ off. full_end s (own form m).carried.since command knows.0 knows.1 off (ap (λ (p : Phase S W). (seen_of (request_in form p (mover form m)) (run_of form setup older).words).before) at ∙ load_tells 2 (run_of form setup older).words))
  ends_at (phase.Generate s Claim) own' at command lists knows steps is =
      not_first (nat_lt (seen form m).before (mover form m).setup.cap) (offered form s (with_hand (Some ((seen form m).before + 1)) (mover form m))) (in_phase (phase.End Exhausted) (mover form m)) refl is
      (λ off. full_end s (own form m).carried.since command knows.0 knows.1 off (ap (λ (p : Phase S W). (seen_of (request_in form p (mover form m)) (run_of form setup older).words).before) at ∙ add_tells 2 1 (run_of form setup older).words))
  ends_at (phase.Apply run stores (Fill made)) own' at command lists knows steps is = absurd cc
  ends_at (phase.Apply run stores Execute) own' at command lists knows steps is = execute_end run stores (own form m).held lists knows steps.1 is
  ends_at (phase.Wrap w) own' at command lists knows steps is = wrap_end w (own form m).held knows steps.1 is
  ends_at (phase.Announce announcing.Value) own' at command lists knows steps is = absurd cc
  ends_at (phase.Announce announcing.Op) own' at command lists knows steps is = absurd cc
  ends_at (phase.Announce announcing.Record) own' at command lists knows steps is = absurd cc
  ends_at (phase.Enter owner) own' at command lists knows steps is = entered_end (entering owner (seen form m)) owner at refl is
  ends_at phase.Drive own' at command lists knows steps is =
      goes_not _ (either_goes (holds (seen form m).before (mover form m).seat) (head_helped form (head_of (seen form m).before) true (mover form m)) (in_phase phase.Collect (mover form m)) (head_goes form (head_of (seen form m).before) true (mover form m)) refl) is
  ends_at (phase.Help drives help) own' at command lists knows steps is = goes_not _ (help_goes form drives help (seen form m) (mover form m)) is
  ends_at phase.Collect own' at command lists knows steps is =
      let same = same_begun move.begins (mech form m) (begin_not (mover form m).phase phase.Collect at refl) in
      let outcome = outcome_or_done (seen form m).before in
      told_left outcome same (outcomes outcome phase.Collect at same refl) (told_end outcome (mover form m) is)
  ends_at (phase.Value reference) own' at command lists knows steps is = absurd cc
  ends_at (phase.End reply) own' at command lists knows steps is = absurd cc

  pub ends_left : (stepped form (mover form m).phase (seen form m) (mover form m)).phase ≡ phase.End Exhausted → Left
  ends_left is =
      ends_at (mover form m).phase ((ghost_of form setup (move ∷ older)).seats move.seat) refl (known form m).command (known form m).lists (known form m).knows (does form m) is
