-- Every call of every run is accounted for: how each that returned ended, and whose each change is.
use Rattle.std.proofs.Common.{◌≡◌, ◌∙◌, refl, sym, subst, ap, ℕ, ◌⊎◌, Bool, true, false, List, [], ◌∷◌, ◌++◌, slice_get, Option, Some, None, get_or, All, AllPairs, Contains, inl, inr, arith}
use Rattle.std.proofs.lemmas.Bool.{cases_eq}
use Rattle.std.proofs.lemmas.List.Elements.{All-append, All-nil, Contains-append_left, Contains-get_or, Contains-push}
use Rattle.lin_report.specs.declared.calls.Op.{Op}
use Rattle.lin_report.specs.declared.calls.Outcome.TheVariants.{Plain}
use Rattle.lin_report.specs.declared.calls.Receipt.{Receipt}
use Rattle.lin_report.specs.declared.calls.Reply.{Reply}
use Rattle.step_memory.specs.declared.steps.Seen.{Seen}
use Rattle.normal_traits.specs.World.{Called, Change, Listed, Among}
use Rattle.normal_traits.specs.NormalForm.{NormalForm}
use Rattle.normal_traits.specs.Laws.{Laws}
use Rattle.normal_traits.specs.Steps.{change_of, listed_if, with_change}
use Rattle.fast_slow_engine.specs.declared.phases.Phase.{Phase}
use Rattle.fast_slow_engine.specs.declared.phases.Phase.TheVariants.{Idle, Begin, Look, Generate, Apply, Wrap, Announce, Enter, Drive, Help, Collect, Value, End}
use Rattle.fast_slow_engine.specs.declared.setup.Setup.{Setup}
use Rattle.fast_slow_engine.specs.Mechs.{Mech, SameCall}
use Rattle.fast_slow_engine.specs.PhaseTable.{mech_turn, stepped, ticks_left, turn_in}
use Rattle.fast_slow_engine.specs.Runs.{Move, RunState, AreMoves, CanMove, begun, returned, run_of}
use Rattle.fast_slow_engine.proofs.SameCalls.{same_fed}
use Rattle.fast_slow_engine.proofs.Ticks.{draws}
use Rattle.offered_blocks.specs.Records.{IsCallsChange, TellsRight}
use Rattle.offered_blocks.specs.Records.TellsRight.{observed, changed, refused as was_refused}
use Rattle.helper_knowledge.specs.Callers.{called}
use Rattle.run_laws.proofs.CallsFollow as calls
use Rattle.run_laws.proofs.StepKinds.{rests_none}
use Rattle.run_laws.proofs.Steps.{beside_set, move_steps, some_same}
use Rattle.run_laws.proofs.Summaries.{tick_of}
use Rattle.run_exchanges.specs.RunGhosts.{world_of}
use Rattle.run_exchanges.specs.Kept.{RunsAreKept}
use Rattle.run_exchanges.proofs.InRuns.MovesInRuns.{Moved, can, mech, mover, new, new_seated, own, seated, seen, ticks, moved}
use Rattle.run_exchanges.proofs.Changes.Adds.{Adds, none, aside, serves, adds, DifferentLists, first_differs}
use Rattle.run_exchanges.proofs.Moves.Served.{IsServed}
use Rattle.run_refusals.specs.NoneLeft.{EachLeft}
use Rattle.run_refusals.proofs.Exhausted.Kept.{none_left_holds}
use Rattle.run_reports.specs.Endings.{CallsAccounted, HasEnded, IsMadeBy, StandsOver}
use Rattle.run_reports.specs.Endings.IsMadeBy.{runs, returned as has_line}
use Rattle.run_reports.proofs.Counts.Begun.{EachBegun, each_begun}
use Rattle.run_reports.proofs.Counts.Stands.{none_made, stands_among, stands_in}
use Rattle.run_reports.proofs.Endings.Lines.{all_lines, line_ends, line_of, made_by_line, of_call, tells_end}
use Rattle.run_reports.proofs.Endings.Stays.{ending_stays, made_stays, same_change}
use Rattle.run_reports.proofs.Endings.Vain.{AddsMade, FirstsTook, adds_made, firsts_took, held_of, quiet_stays, vain_stays}

module _ {S W : Type 0} (form : NormalForm S W) where
  -- a call that runs goes on, or returns
  step_goes : (phase : Phase S W) (mech : Mech S W) (seen : Seen) → ticks_left phase ≡ 1 → ((reply : Reply) × (phase ≡ End reply)) ⊎ (ticks_left (stepped form phase seen mech).phase ≡ 1)
  step_goes Idle mech seen one = absurd (omega (arith, one))
  step_goes Begin mech seen one = absurd (omega (arith, one))
  step_goes Look mech seen one = inr (let left = (draws form Look seen mech refl).ticks in omega (arith, left))
  step_goes (Generate s at) mech seen one = inr (let left = (draws form (Generate s at) seen mech refl).ticks in omega (arith, left))
  step_goes (Apply run stores at) mech seen one = inr (let left = (draws form (Apply run stores at) seen mech refl).ticks in omega (arith, left))
  step_goes (Wrap w) mech seen one = inr (let left = (draws form (Wrap w) seen mech refl).ticks in omega (arith, left))
  step_goes (Announce stage) mech seen one = inr (let left = (draws form (Announce stage) seen mech refl).ticks in omega (arith, left))
  step_goes (Enter owner) mech seen one = inr (let left = (draws form (Enter owner) seen mech refl).ticks in omega (arith, left))
  step_goes Drive mech seen one = inr (let left = (draws form Drive seen mech refl).ticks in omega (arith, left))
  step_goes (Help drives help) mech seen one = inr (let left = (draws form (Help drives help) seen mech refl).ticks in omega (arith, left))
  step_goes Collect mech seen one = inr (let left = (draws form Collect seen mech refl).ticks in omega (arith, left))
  step_goes (Value reference) mech seen one = inr refl
  step_goes (End reply) mech seen one = inl (reply, refl)

  -- a call that runs isn't begun by the move
  runs_as : (begins : Option Op) (mech : Mech S W) → CanMove form begins mech → ticks_left mech.phase ≡ 1 → begun begins mech ≡ mech
  runs_as None mech can one = refl
  runs_as (Some op) mech can one = absurd (omega (arith, one, rests_none mech.phase can.0))

  called_same : (new' one : Mech S W) → SameCall new' one → called new' ≡ called one
  called_same new' one same = λ i. record { seat = same.seat i; number = same.number i; op = same.op i }

  listed_same : (b : Bool) (list one : Listed) → listed_if b list ≡ Some one → list ≡ one
  listed_same true list one is = cc
  listed_same false list one is = absurd cc

  module _ {setup : Setup} {older : List Move} {move : Move} (m : Moved form setup older move) (each : EachBegun form setup older) where
    abbrev state : RunState S W
    state = run_of form setup older

    abbrev later : RunState S W
    later = run_of form setup (move ∷ older)

    -- ---- the lines

    receipts_are : (run_of form setup (move ∷ older)).receipts ≡ (run_of form setup older).receipts ++ returned (mech_turn (mover form m) (seen form m))
    receipts_are = ap (λ (s : RunState S W). s.receipts) (move_steps form (run_of form setup older) move (mech form m) (seated form m))

    line_stays : (r : Receipt) → Contains (run_of form setup older).receipts r → Contains (run_of form setup (move ∷ older)).receipts r
    line_stays r has = subst (λ l. Contains l r) (sym receipts_are) (Contains-append_left (run_of form setup older).receipts (returned (mech_turn (mover form m) (seen form m))) r has)

    line_there : (reply : Reply) → (mover form m).phase ≡ End reply → Contains (run_of form setup (move ∷ older)).receipts (line_of form m each reply)
    line_there reply is =
        let line = line_of form m each reply in
        subst (λ l. Contains l line) (sym (receipts_are ∙ ap (λ (p : Phase S W). (run_of form setup older).receipts ++ returned (turn_in p (seen form m) (mover form m))) is)) (Contains-push (run_of form setup older).receipts line)

    -- the ticks of those that were there are drawn
    drawn : All (calls.HasEnded (tick_of (run_of form setup older))) (run_of form setup older).receipts
    drawn = (calls.ticks_go_on form setup older m.are.0 (ticks form m).0).ended

    all_ended : AddsMade form (world_of form setup older) → FirstsTook form (world_of form setup older) → EachLeft form setup older → Adds form setup older move → All (HasEnded form setup older) (run_of form setup older).receipts
        → All (HasEnded form setup (move ∷ older)) (run_of form setup (move ∷ older)).receipts
    all_ended made firsts left comes old =
        let P = HasEnded form setup (move ∷ older) in
        let receipts = (run_of form setup older).receipts in
        subst (All P) (sym receipts_are) (All-append P receipts (returned (mech_turn (mover form m) (seen form m)))
        (λ k d inside.
        (let r = get_or receipts k d in
        let known = Contains-get_or receipts k d inside in
        ending_stays form setup older move m.are (ticks form m) r (drawn k d inside) (quiet_stays form m r known comes) (vain_stays form m r known comes) (old k d inside)))
        (all_lines P (mover form m).phase (mover form m) (seen form m) (λ reply is. line_ends form m each reply is made firsts left)))

    -- ---- the calls that run

    -- the call goes on after the move
    record GoesOn (seat : ℕ) (one : Mech S W) : Type 0 where
      pub next : Mech S W
      pub seated' : slice_get (run_of form setup (move ∷ older)).mechs seat ≡ Some next
      pub one_left : ticks_left next.phase ≡ 1
      pub call : called next ≡ called one

    -- a call that runs goes on, or is that of the mover, which returns
    goes : (seat : ℕ) (one : Mech S W) → slice_get (run_of form setup older).mechs seat ≡ Some one → ticks_left one.phase ≡ 1
        → ((reply : Reply) × (mover form m ≡ one) × ((mover form m).phase ≡ End reply)) ⊎ GoesOn seat one
    goes seat one at left =
        elim (cases_eq seat move.seat) [
          | inl same ↦
              let here : mech form m ≡ one = some_same (mech form m) one (sym (seated form m) ∙ subst (λ k. slice_get (run_of form setup older).mechs k ≡ Some one) same at) in
              let own' : mover form m ≡ one = runs_as move.begins (mech form m) (can form m) (subst (λ (x : Mech S W). ticks_left x.phase ≡ 1) (sym here) left) ∙ here in
              elim (step_goes (mover form m).phase (mover form m) (seen form m) (subst (λ (x : Mech S W). ticks_left x.phase ≡ 1) (sym own') left)) [
                | inl ends ↦ inl (ends.0, own', ends.1)
                | inr on ↦ inr (record {
                  next = new form m;
                  seated' = subst (λ k. slice_get (run_of form setup (move ∷ older)).mechs k ≡ Some (new form m)) (sym same) (new_seated form m);
                  one_left = on;
                  call = called_same (new form m) (mover form m) (same_fed form (mover form m) (seen form m)) ∙ ap (λ (x : Mech S W). called x) own';
                })
              ]
          | inr apart ↦ inr (record {
            next = one;
            seated' = ap (λ (s : RunState S W). slice_get s.mechs seat) (move_steps form (run_of form setup older) move (mech form m) (seated form m)) ∙ beside_set (run_of form setup older).mechs move.seat seat (new form m) apart ∙ at;
            one_left = left;
            call = refl;
          })
        ]

    -- a change of a call that runs is that of one that runs after the move, or returned by it
    by_running : (change : Change) (past : List Change) (seat : ℕ) (one : Mech S W) → slice_get (run_of form setup older).mechs seat ≡ Some one → ticks_left one.phase ≡ 1 → change.list.call ≡ called one
        → ((reply : Reply) → mover form m ≡ one → (mover form m).phase ≡ End reply → IsMadeBy form setup (move ∷ older) change past) → IsMadeBy form setup (move ∷ older) change past
    by_running change past seat one at left call ends =
        elim (goes seat one at left) [
          | inl line ↦ ends line.0 line.1 line.2
          | inr on ↦ runs seat on.next on.seated' on.one_left (call ∙ sym on.call)
        ]

    -- ---- who made the changes

    pairs : AllPairs DifferentLists (world_of form setup older).changes
    pairs = m.laws.of_world.one_change_a_list (world_of form setup older) m.kept.holds.shape

    -- where the mover returns, a change of its call has the reply that it tells
    told_reply : (reply : Reply) (begun' : ℕ) (change : Change) → Among change (world_of form setup older).changes → change.list.call ≡ called (mover form m)
        → TellsRight form (world_of form setup older) (called (mover form m)) begun' (Plain reply) → change.reply ≡ reply
    told_reply reply begun' change among call (observed right fixed empty) = absurd (empty change among (of_call (mover form m) change call))
    told_reply reply begun' change among call (changed list own' by fixed only) =
        let one_list : change.list ≡ list = only change among (of_call (mover form m) change call) in
        let same = same_change (world_of form setup older).changes change (record { list = list; reply = by.reply }) pairs among by.change (ap (λ (l : Listed). l.identity) one_list) in
        ap (λ (c : Change). c.reply) same ∙ sym by.told
    told_reply reply begun' change among call (was_refused outcome empty) = absurd (empty change among (of_call (mover form m) change call))

    -- a change that was there before the move
    old_made : (change : Change) (past : List Change) → StandsOver (world_of form setup older).changes change past → IsMadeBy form setup older change past → IsMadeBy form setup (move ∷ older) change past
    old_made change past stands (runs seat one at left call) =
        by_running change past seat one at left call (λ reply mine is.
        (let own' : change.list.call ≡ called (mover form m) = call ∙ ap (λ (x : Mech S W). called x) (sym mine) in
        let told = told_reply reply (own form m).begun change (stands_among (world_of form setup older).changes change past stands) own' (tells_end form m each reply is) in
        has_line (line_of form m each reply) (line_there reply is) (made_by_line form m each reply is change past stands own' told)))
    old_made change past stands (has_line r has made) =
        has_line r (line_stays r has) (made_stays form setup older move m.are (ticks form m) r change past (held_of (calls.HasEnded (tick_of (run_of form setup older))) (run_of form setup older).receipts r drawn has) made)

    -- the change that the move makes
    new_made : (change : Change) (past : List Change) (list : Listed) → IsServed form setup older list → change.list ≡ list → IsMadeBy form setup (move ∷ older) change past
    new_made change past list served is =
        by_running change past list.call.seat served.mech served.seated served.running (ap (λ (l : Listed). l.call) is ∙ served.call)
        (λ reply mine ends. absurd (served.stays reply (subst (λ (x : Mech S W). x.phase ≡ End reply) mine ends)))

    with_made : (list : Option Listed) → (world_of form setup (move ∷ older)).changes ≡ with_change form.object list (world_of form setup older).changes → ((one : Listed) → list ≡ Some one → IsServed form setup older one)
        → ((change : Change) (past : List Change) → StandsOver (world_of form setup older).changes change past → IsMadeBy form setup older change past)
        → (change : Change) (past : List Change) → StandsOver (world_of form setup (move ∷ older)).changes change past → IsMadeBy form setup (move ∷ older) change past
    with_made None comes served old change past stands =
        let there = subst (λ l. StandsOver l change past) comes stands in old_made change past there (old change past there)
    with_made (Some list) comes served old change past stands =
        elim (stands_in (change_of form.object list (world_of form setup older).changes) (world_of form setup older).changes change past (subst (λ l. StandsOver l change past) comes stands)) [
          | inl new' ↦ new_made change past list (served list refl) (ap (λ (c : Change). c.list) new'.0)
          | inr there ↦ old_made change past there (old change past there)
        ]

    all_made : Adds form setup older move → ((change : Change) (past : List Change) → StandsOver (world_of form setup older).changes change past → IsMadeBy form setup older change past)
        → (change : Change) (past : List Change) → StandsOver (world_of form setup (move ∷ older)).changes change past → IsMadeBy form setup (move ∷ older) change past
    all_made (none journal changes) old = with_made None changes (λ one is. absurd cc) old
    all_made (aside entry cause list journal changes served) old = with_made list changes served.served old
    all_made (serves list j entry cause keeper at behind journal changes has served) old =
        with_made (listed_if (form.adds list j) list) changes (λ one is. subst (IsServed form setup older) (listed_same (form.adds list j) list one is) served) old

    -- ---- no call made two

    -- a change of the call of a list that is served would be of that list, which makes its change only now
    not_twice : (list : Listed) → IsServed form setup older list → (world_of form setup (move ∷ older)).changes ≡ change_of form.object list (world_of form setup older).changes ∷ (world_of form setup older).changes
        → (mate : Change) → Among mate (world_of form setup older).changes → list.call.seat ≡ mate.list.call.seat → ¬ (list.call.number ≡ mate.list.call.number)
    not_twice list served comes mate among same number =
        let new' = change_of form.object list (world_of form setup older).changes in
        let apart = first_differs new' (world_of form setup older).changes mate (subst (AllPairs DifferentLists) comes (m.laws.of_world.one_change_a_list (world_of form setup (move ∷ older)) m.later.holds.shape)) among in
        let own' : IsCallsChange (called served.mech) mate = record { seat = sym same ∙ ap (λ (c : Called). c.seat) served.call; number = sym number ∙ ap (λ (c : Called). c.number) served.call } in
        let one_list : mate.list ≡ list = served.only mate among own' in
        apart (ap (λ (l : Listed). l.identity) (sym one_list))

    with_once : (list : Option Listed) → (world_of form setup (move ∷ older)).changes ≡ with_change form.object list (world_of form setup older).changes → ((one : Listed) → list ≡ Some one → IsServed form setup older one)
        → CallsAccounted form setup older → (change mate : Change) (past rest : List Change) → StandsOver (world_of form setup (move ∷ older)).changes change past → StandsOver past mate rest
        → change.list.call.seat ≡ mate.list.call.seat → ¬ (change.list.call.number ≡ mate.list.call.number)
    with_once None comes served old change mate past rest stands below same = old.once change mate past rest (subst (λ l. StandsOver l change past) comes stands) below same
    with_once (Some list) comes served old change mate past rest stands below same =
        elim (stands_in (change_of form.object list (world_of form setup older).changes) (world_of form setup older).changes change past (subst (λ l. StandsOver l change past) comes stands)) [
          | inl new' ↦
              let is = ap (λ (c : Change). c.list.call) new'.0 in
              let among : Among mate (world_of form setup older).changes = stands_among (world_of form setup older).changes mate rest (subst (λ l. StandsOver l mate rest) new'.1 below) in
              λ number. not_twice list (served list refl) comes mate among (ap (λ (c : Called). c.seat) (sym is) ∙ same) (ap (λ (c : Called). c.number) (sym is) ∙ number)
          | inr there ↦ old.once change mate past rest there below same
        ]

    all_once : Adds form setup older move → CallsAccounted form setup older → (change mate : Change) (past rest : List Change) → StandsOver (world_of form setup (move ∷ older)).changes change past → StandsOver past mate rest
        → change.list.call.seat ≡ mate.list.call.seat → ¬ (change.list.call.number ≡ mate.list.call.number)
    all_once (none journal changes) old = with_once None changes (λ one is. absurd cc) old
    all_once (aside entry cause list journal changes served) old = with_once list changes served.served old
    all_once (serves list j entry cause keeper at behind journal changes has served) old =
        with_once (listed_if (form.adds list j) list) changes (λ one is. subst (IsServed form setup older) (listed_same (form.adds list j) list one is) served) old

    -- so after the move
    accounted_more : AddsMade form (world_of form setup older) → FirstsTook form (world_of form setup older) → EachLeft form setup older → Adds form setup older move → CallsAccounted form setup older → CallsAccounted form setup (move ∷ older)
    accounted_more made firsts left comes old = record { ended = all_ended made firsts left comes old.ended; made = all_made comes old.made; once = all_once comes old }

  -- nothing was changed when a run opens
  accounted_open : (setup : Setup) → CallsAccounted form setup []
  accounted_open setup = record {
    ended = All-nil (HasEnded form setup []);
    made = λ change past stands. none_made stands.0 past change stands.1;
    once = λ change mate past rest stands below same number. none_made stands.0 past change stands.1;
  }

  -- ---- of every run

  pub calls_accounted : Laws form → RunsAreKept form → (setup : Setup) (moves : List Move) → AreMoves form setup moves → CallsAccounted form setup moves
  calls_accounted laws kept setup [] are = accounted_open setup
  calls_accounted laws kept setup (move ∷ older) are =
      let m = moved form laws kept setup older move are in
      accounted_more m (each_begun form laws kept setup older are.0) (adds_made form laws kept setup older are.0) (firsts_took form laws kept setup older are.0) (none_left_holds form laws kept setup older are.0) (adds form m)
      (calls_accounted laws kept setup older are.0)
