-- What a machine knows after a step of its own, by cases on the phase.
use Rattle.std.proofs.Common.{◌≡◌, refl, sym, subst, ap, ℕ, ◌+◌, ◌^◌, ◌<◌, ◌==◌, nat_lt, if◌then◌else◌, Bool, true, false, inl, inr, length, get_or, Option, Some, None, arith}
use Rattle.std.proofs.lemmas.Bool.Decides.{nat_tests}
use Rattle.std.proofs.lemmas.Option.{slice_get-get_or}
use Rattle.arrayvec.specs.ArrayVec.{ArrayVec}
use Rattle.lin_report.specs.Object.{IsCommandOf}
use Rattle.step_memory.specs.declared.steps.Request.{Request}
use Rattle.step_memory.specs.declared.steps.Request.TheVariants.{Load, Store, Exchange, Add}
use Rattle.step_memory.specs.declared.steps.Seen.{Seen}
use Rattle.normal_traits.specs.World.{Listed, Stopped, Won, World}
use Rattle.normal_traits.specs.World.Maker.{By, Beside}
use Rattle.normal_traits.specs.NormalForm.{NormalForm}
use Rattle.normal_traits.specs.Steps.{IsStep, Requested}
use Rattle.normal_traits.specs.Steps.Requested.{loaded, lost, won}
use Rattle.normal_traits.specs.Laws.{AsksWell, IsGoodEntry, Laws}
use Rattle.normal_traits.proofs.Stays.{entry_good, passed_stays}
use Rattle.cas_executor.specs.FastRuns.{FastWalk, fast_execution, fast_fed}
use Rattle.help_queue.specs.declared.enter.Entering.{Entering}
use Rattle.help_queue.specs.declared.enter.Entering.TheVariants as entering_to
use Rattle.help_queue.specs.Enters.{Owner, enter_fed, entering, outcome_or_done}
use Rattle.help_queue.specs.Gathers.{holds}
use Rattle.help_queue.specs.Heads.{head_of}
use Rattle.fast_slow_engine.specs.declared.phases.Phase.{Phase}
use Rattle.fast_slow_engine.specs.declared.phases.Phase.TheVariants as phase
use Rattle.fast_slow_engine.specs.declared.phases.Announcing.{Announcing}
use Rattle.fast_slow_engine.specs.declared.phases.Announcing.TheVariants as announcing
use Rattle.fast_slow_engine.specs.declared.phases.Generating.TheVariants.{Search, LookForBlock, Claim}
use Rattle.fast_slow_engine.specs.declared.phases.Applying.TheVariants.{Fill, Execute}
use Rattle.fast_slow_engine.specs.declared.help.Helping.TheVariants.{Record}
use Rattle.fast_slow_engine.specs.Mechs.{Mech}
use Rattle.fast_slow_engine.specs.PhaseTable.{announced, entered, executed, head_helped, helped, in_phase, stepped, wrapped_up}
use Rattle.offered_blocks.specs.Blocks.{Offer}
use Rattle.helper_knowledge.specs.Callers.{Caller}
use Rattle.helper_knowledge.specs.Carried.{OfSome}
use Rattle.run_world.specs.Ghosts.{Held, SeatGhost, stopped_in}
use Rattle.run_world.specs.Lists.{IsOffering}
use Rattle.run_world.specs.SeatSteps.{begun_after, filled_after, held_in, list_after, newly_held, searches_on}
use Rattle.step_knowledge.specs.Known.{IsStillOffered, KnowsFill, KnowsIn, KnowsRun, KnowsWrap, NoneFrom}
use Rattle.step_knowledge.specs.Moves.{Enters, MoveLeaves, OwnSteps, RestsMove, StepsIn, StepsKnow}
use Rattle.step_knowledge.proofs.Goes.Fills.{fill_knows}
use Rattle.step_knowledge.proofs.Goes.Helping.{help_knows}
use Rattle.step_knowledge.proofs.Goes.Runs.{run_knows, took_grows}
use Rattle.step_knowledge.proofs.Goes.Searches.{Knows, claimed_knows, looked_knows, searched_knows, told_knows, tried_knows}
use Rattle.step_knowledge.proofs.Goes.Wraps.{wrapped_knows}

beside_not : {A : Type 0} (list : Listed) (j : ℕ) → By list j ≡ Beside → A
beside_not list j e = absurd cc

-- a request beside the lists makes no entry take effect
none_beside : {S W : Type 0} (form : NormalForm S W) (request : Request) (world after : World) (seen : Seen) (identity least : ℕ) → AsksWell form world request → Requested form request world after seen
    → NoneFrom world identity least → NoneFrom after identity least
none_beside form (Load at) world after seen identity least asks (loaded at') none = none
none_beside form (Exchange at from to) world after seen identity least asks (lost at' from' to' differs) none = none
none_beside form (Exchange at from to) world after seen identity least asks (won at' from' to' stood raised) none =
    λ other j same more took. elim took.won [
      | inl new ↦ beside_not other j (ap (λ (w : Won). w.maker) new)
      | inr old ↦ none other j same more (record { entry = took.entry; cause = took.cause; listed = took.listed; won = old })
    ]
none_beside form (Store at value) world after seen identity least asks made none = absurd asks
none_beside form (Add at by) world after seen identity least asks made none = absurd asks

module _ {S W : Type 0} (form : NormalForm S W) (laws : Laws form) (world after : World) (offers offers' : ℕ → Option (Offer S)) (callers : ℕ → Caller) (mech : Mech S W) (own : SeatGhost S) (identity : ℕ) (seen : Seen)
    (leaves : MoveLeaves form world after offers offers' mech identity) where
  -- what is known of the seat after a step in this phase
  abbrev own_after : Phase S W → SeatGhost S
  own_after at =
      record {
        begun = begun_after at (length after.changes) own.begun;
        held = held_in (stepped form at seen mech).phase (list_after form identity at seen own (stepped form at seen mech));
        carried = record { since = if searches_on form at seen then own.carried.since else length after.changes; filled = filled_after form identity at mech.hand mech.setup.cap seen own.carried };
      }

  abbrev KnowsAfter : Phase S W → Type 0
  KnowsAfter at = KnowsIn form (stepped form at seen mech).phase (stepped form at seen mech) (own_after at) after offers' callers

  abbrev Rests : Phase S W → Type 0
  Rests at = RestsMove form world offers callers at mech own

  abbrev Stepped : Phase S W → Type 0
  Stepped at = OwnSteps form world after offers offers' at mech own.held seen

  -- what is known by its parts, for phases that carry no list
  abbrev KnowsNow : ℕ → Option (Held S) → Mech S W → Type 0
  KnowsNow since list new = Knows form after offers' callers own.begun None since list new

  step : IsStep form world after
  step = leaves.leaves.step

  shape : form.shape after
  shape = leaves.holds.shape

  knows_kept : (s : S) (since : ℕ) → form.shape world → IsCommandOf form.object mech.op → form.knows s mech.op world since → form.knows s mech.op after since
  knows_kept s since old command knows = laws.knows_kept world after s mech.op since command old knows step

  still_offered : (held : Held S) → form.shape world → IsStillOffered form world held → IsStillOffered form after held
  still_offered held old is = record {
    command = is.command;
    ready = is.ready;
    small = is.small;
    entries = is.entries;
    knows = laws.knows_kept world after held.offering held.list.call.op held.since is.command old is.knows step;
  }

  -- ---- the own list

  fill_own : (run : FastWalk) (stores : ArrayVec (ℕ × ℕ)) (made : ℕ) (held : Option (Held S)) → form.shape world → form.needs_block mech.op ≡ true → run.next ≡ 0 → OfSome (λ (h : Held S). mech.hand ≡ Some h.list.block) held
      → OfSome (IsOffering form run stores mech) held → OfSome (KnowsFill form world run stores made) held → Stepped (phase.Apply run stores (Fill made))
      → KnowsNow (length after.changes) held (in_phase (phase.Apply run stores (if made + 1 == length stores.items then Execute else Fill (made + 1))) mech)
  fill_own run stores made None old needs first hand offering knows is = absurd knows
  fill_own run stores made (Some held) old needs first hand offering knows is =
      let store = get_or stores.items made (0, 0) in
      let at = slice_get-get_or stores.items made (0, 0) knows.within in
      fill_knows form laws world after offers' callers own.begun None old run stores made (length after.changes) held mech store first needs hand offering knows (still_offered held old knows.offered) at (is store at)

  run_own : (run : FastWalk) (stores : ArrayVec (ℕ × ℕ)) (held : Option (Held S)) → form.shape world → IsCommandOf form.object mech.op → OfSome (IsOffering form run stores mech) held → OfSome (KnowsRun form world run) held
      → Enters form world after offers offers' run held seen
      → KnowsNow (length after.changes) (stopped_in (fast_execution run seen) held) (executed form (fast_execution run seen) (fast_fed run seen) stores mech)
  run_own run stores None old command offering knows is = absurd knows
  run_own run stores (Some held) old command offering knows is =
      run_knows form laws world after offers offers' callers own.begun None run stores seen mech held old shape leaves.leaves.grows command knows (still_offered held old knows.offered)
      (ap (λ c. c.op) offering.held_by.call) offering.entries is

  wrap_own : (w : W) (held : Option (Held S)) → form.shape world → IsCommandOf form.object mech.op → OfSome (KnowsWrap form world w) held → Stepped (phase.Wrap w)
      → KnowsNow (length after.changes) held (wrapped_up form (form.wrap_found_of w seen) (form.feed_wrap_of w seen) mech)
  wrap_own w None old command knows is = absurd knows
  wrap_own w (Some held) old command knows is =
      let list = held.list in
      let none = none_beside form (form.wrap_request_of w) world after seen list.identity held.stop (laws.of_world.wrap_asks_well world w list held.stop old knows.wraps knows.follows) is knows.none in
      let halts : Stopped after list held.stop = record {
        within = knows.stopped.within;
        took = λ j less. took_grows world after list j leaves.leaves.grows (knows.stopped.took j less);
        failed = λ less.
            (let failed = knows.stopped.failed less in
            let fine : IsGoodEntry form world failed.entry = entry_good form laws world list held.offering held.since held.stop failed.entry old knows.offered failed.listed in
            let rises = passed_stays form world after failed.entry.target fine.word step in
            let before = failed.passed in
            record { entry = failed.entry; listed = failed.listed; passed = omega (arith, before, rises); lost = none list held.stop refl (omega arith) });
      } in
      wrapped_knows form laws after offers' callers own.begun None shape (form.wrap_found_of w seen) (form.feed_wrap_of w seen) mech held command (still_offered held old knows.offered) (λ on. halts) none
      (laws.wrap_fed world after seen w list held.stop knows.offered.command old knows.wraps knows.follows is)

  -- ---- looks, announcements and the queue

  helped_own : (drives : Bool) (list : Option (Held S)) → IsCommandOf form.object mech.op → KnowsNow (length after.changes) list (helped form drives mech)
  helped_own true list command = tt
  helped_own false list command = tried_knows form after offers' callers own.begun None laws shape list mech command

  seat_knows : (b drives : Bool) (head : ℕ) (list : Option (Held S)) → IsCommandOf form.object mech.op
      → KnowsNow (length after.changes) list (if b then in_phase (phase.Help drives (record { head = head; seats = mech.setup.seats; at = Record None })) mech else helped form drives mech)
  seat_knows true drives head list command = tt
  seat_knows false drives head list command = helped_own drives list command

  head_knows : (head : Option ℕ) (drives : Bool) (list : Option (Held S)) → IsCommandOf form.object mech.op → KnowsNow (length after.changes) list (head_helped form head drives mech)
  head_knows None drives list command = helped_own drives list command
  head_knows (Some head) drives list command = seat_knows (nat_lt head mech.setup.seats) drives head list command

  driven_knows : (b : Bool) (head : Option ℕ) (list : Option (Held S)) → IsCommandOf form.object mech.op → KnowsNow (length after.changes) list (if b then head_helped form head true mech else in_phase phase.Collect mech)
  driven_knows true head list command = head_knows head true list command
  driven_knows false head list command = tt

  announced_knows : (at : Announcing) (list : Option (Held S)) → KnowsNow (length after.changes) list (announced at mech)
  announced_knows announcing.Value list = tt
  announced_knows announcing.Op list = tt
  announced_knows announcing.Record list = tt

  entered_knows : (what : Entering) (owner : Owner) (list : Option (Held S)) → KnowsNow (length after.changes) list (entered what owner mech)
  entered_knows entering_to.Running owner list = tt
  entered_knows entering_to.Entered owner list = tt
  entered_knows (entering_to.Finished outcome) owner list = told_knows form after offers' callers own.begun None outcome mech _ list

  -- ---- all phases

  claimed_small : seen.before < mech.setup.cap → seen.before + 1 < 2 ^ 17
  claimed_small below = (let cap = leaves.cap in omega (arith, below, cap))

  idle_knows : mech.phase ≡ phase.Idle → KnowsAfter phase.Idle
  idle_knows is = subst (λ (p : Phase S W). KnowsIn form p mech (record { begun = own.begun; held = held_in p own.held; carried = record { since = length after.changes; filled = None } }) after offers' callers) (sym is) tt

  pub phase_knows : (at : Phase S W) → mech.phase ≡ at → Rests at → StepsIn form world after offers offers' at mech own (own_after at) identity seen → KnowsAfter at
  phase_knows phase.Idle same rests is = idle_knows same
  phase_knows phase.Begin same rests is = tt
  phase_knows phase.Look same rests is = head_knows (head_of seen.before) false own.held rests.command
  phase_knows (phase.Generate s Search) same rests is =
      let fed = laws.search_fed world after seen s mech.op own.carried.since rests.command rests.holds.shape rests.knows.0 rests.knows.1 is.1 in
      searched_knows form after offers' callers own.begun None laws shape (form.found_of s seen) identity own.carried.since (form.feed_of s seen) mech rests.command leaves.fresh fed.0 fed.1 leaves.small
  phase_knows (phase.Generate s LookForBlock) same rests is =
      looked_knows form after offers' callers own.begun None laws shape (nat_lt seen.before mech.setup.cap) own.carried.since (λ new. Some (newly_held form identity s own.carried.since new)) s mech rests.knows.0
      (knows_kept s own.carried.since rests.holds.shape rests.command rests.knows.1)
  phase_knows (phase.Generate s Claim) same rests is =
      claimed_knows form after offers' callers own.begun None laws shape (nat_lt seen.before mech.setup.cap) identity own.carried.since (seen.before + 1) s mech rests.command leaves.fresh rests.knows.0
      (knows_kept s own.carried.since rests.holds.shape rests.command rests.knows.1) (λ on. claimed_small (grind (arith, nat_tests, on)))
  phase_knows (phase.Apply run stores (Fill made)) same rests is = fill_own run stores made own.held rests.holds.shape rests.block.0 rests.block.1 rests.block.2 rests.lists rests.knows is.1
  phase_knows (phase.Apply run stores Execute) same rests is = run_own run stores own.held rests.holds.shape rests.command rests.lists rests.knows is.1
  phase_knows (phase.Wrap w) same rests is = wrap_own w own.held rests.holds.shape rests.command rests.knows is.1
  phase_knows (phase.Announce at) same rests is = announced_knows at own.held
  phase_knows (phase.Enter owner) same rests is = entered_knows (entering owner seen) (enter_fed owner seen) own.held
  phase_knows phase.Drive same rests is = driven_knows (holds seen.before mech.seat) (head_of seen.before) own.held rests.command
  phase_knows (phase.Help drives help) same rests is =
      help_knows form laws world after offers offers' callers rests.holds leaves.holds leaves.used mech help.head own.carried (own_after (phase.Help drives help)).carried identity seen
      (λ block hand. rests.spare block hand tt) drives help.seats help.at own.begun own.held rests.command refl rests.helps rests.knows is
  phase_knows phase.Collect same rests is = told_knows form after offers' callers own.begun None (outcome_or_done seen.before) mech _ own.held
  phase_knows (phase.Value reference) same rests is = tt
  phase_knows (phase.End reply) same rests is = tt

module _ {S W : Type 0} (form : NormalForm S W) (laws : Laws form) where
  pub steps_know : StepsKnow form
  steps_know world after offers offers' callers mech own identity seen rests is leaves = phase_knows form laws world after offers offers' callers mech own identity seen leaves mech.phase refl rests is
