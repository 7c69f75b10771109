-- How many changes there were at the begin tick of each call that runs, and that its changes came after.
use Rattle.std.proofs.Common.{◌≡◌, ◌∙◌, refl, sym, subst, ap, ℕ, ◌≤◌, ◌⊎◌, inl, inr, false, List, [], ◌∷◌, length, slice_get, Option, Some, None, arith, rules}
use Rattle.lin_report.specs.declared.calls.Op.{Op}
use Rattle.lin_report.specs.Object.{Object}
use Rattle.step_memory.specs.declared.steps.Seen.{Seen}
use Rattle.step_memory.specs.Step.{seen_of}
use Rattle.step_memory.proofs.Words.{add_tells}
use Rattle.normal_traits.specs.World.{Among, Called, Change, Listed, World}
use Rattle.normal_traits.specs.NormalForm.{NormalForm}
use Rattle.normal_traits.specs.Laws.{Laws}
use Rattle.normal_traits.specs.Steps.{change_of, listed_if, with_change}
use Rattle.fast_slow_engine.specs.declared.phases.Phase.{Phase}
use Rattle.fast_slow_engine.specs.declared.phases.Phase.TheVariants.{Idle, Begin, Look, Generate, Apply, Wrap, Announce, Enter, Drive, Help, Collect, Value, End}
use Rattle.fast_slow_engine.specs.declared.setup.Setup.{Setup}
use Rattle.fast_slow_engine.specs.Mechs.{Mech}
use Rattle.fast_slow_engine.specs.PhaseTable.{request_in, stepped, ticks_left}
use Rattle.fast_slow_engine.specs.Runs.{AreMoves, Move, begun, run_of}
use Rattle.fast_slow_engine.proofs.SameCalls.{same_fed}
use Rattle.offered_blocks.specs.Records.{IsCallsChange, MadeNone}
use Rattle.helper_knowledge.specs.Callers.{called}
use Rattle.run_laws.specs.Ticks.{draws_tick}
use Rattle.run_laws.proofs.Begins.{begin_stays}
use Rattle.run_laws.proofs.CallsFollow.{ticks_go_on}
use Rattle.run_laws.proofs.MachinesKept.{new_mech}
use Rattle.run_laws.proofs.Summaries.{tick_of}
use Rattle.run_exchanges.specs.Ghosts.{SeatGhost}
use Rattle.run_exchanges.specs.RunGhosts.{ghost_of, world_of}
use Rattle.run_exchanges.specs.SeatSteps.{begun_after}
use Rattle.run_exchanges.specs.Kept.{RunsAreKept}
use Rattle.run_exchanges.specs.Tells.{ChangesBelow, TellsIn}
use Rattle.run_exchanges.proofs.Words.Moved.{made_seat, made_moved}
use Rattle.run_exchanges.proofs.Words.Seats.{EachSeat, seats_moved}
use Rattle.run_exchanges.proofs.InRuns.MovesInRuns.{Moved, after, mech, mover, new, own, seated, seen, ticks, world, moved}
use Rattle.run_exchanges.proofs.Changes.Adds.{Adds, none, aside, serves, adds}
use Rattle.run_reports.specs.Changes.{changes_at}
use Rattle.run_reports.specs.Endings.{StandsOver}
use Rattle.run_reports.proofs.Counts.Stands.{stands_among, stands_in}
use Rattle.run_reports.proofs.Counts.Ticks.{at_drawn, at_stays, drawn_changes}

module _ {S W : Type 0} (form : NormalForm S W) where
  -- of a seat whose call runs
  pub record BegunWell (setup : Setup) (moves : List Move) (mech : Mech S W) (own : SeatGhost S) : Type 0 where
    pub count : ticks_left mech.phase ≡ 1 → own.begun ≡ changes_at form setup moves mech.begin
    pub after' : ticks_left mech.phase ≡ 1 → (change : Change) (older : List Change) → StandsOver (world_of form setup moves).changes change older → IsCallsChange (called mech) change → own.begun ≤ length older

  abbrev pub EachBegun : Setup → List Move → Type 0
  EachBegun setup moves = EachSeat form (λ seat mech own. BegunWell setup moves mech own) setup moves

  -- a new change stands over all that there were
  with_stands : (object : Object) (list : Option Listed) (changes : List Change) (change : Change) (older : List Change) → StandsOver (with_change object list changes) change older
      → (older ≡ changes) ⊎ StandsOver changes change older
  with_stands object None changes change older stands = inr stands
  with_stands object (Some list) changes change older stands = elim (stands_in (change_of object list changes) changes change older stands) [ inl new ↦ inl new.1 | inr old ↦ inr old ]

  module _ {setup : Setup} {older : List Move} {move : Move} (m : Moved form setup older move) (each : EachBegun setup older) where
    -- a change after the move was there before it, or stands over all that were
    new_stands : Adds form setup older move → (change : Change) (past : List Change) → StandsOver (after form m).changes change past → (past ≡ (world form m).changes) ⊎ StandsOver (world form m).changes change past
    new_stands (none journal changes) change past stands = inr (subst (λ l. StandsOver l change past) changes stands)
    new_stands (aside entry cause list journal changes served) change past stands =
        with_stands form.object list (world form m).changes change past (subst (λ l. StandsOver l change past) changes stands)
    new_stands (serves list j entry cause keeper at behind journal changes has served) change past stands =
        with_stands form.object (listed_if (form.adds list j) list) (world form m).changes change past (subst (λ l. StandsOver l change past) changes stands)

    after_more : (call : Called) (begun : ℕ) → begun ≤ length (world form m).changes → ((change : Change) (past : List Change) → StandsOver (world form m).changes change past → IsCallsChange call change → begun ≤ length past)
        → (change : Change) (past : List Change) → StandsOver (after form m).changes change past → IsCallsChange call change → begun ≤ length past
    after_more call begun early old change past stands of =
        elim (new_stands (adds form m) change past stands) [
          | inl new ↦ subst (λ (l : List Change). begun ≤ length l) (sym new) early
          | inr there ↦ old change past there of
        ]

    -- a seat that doesn't move
    others : (seat : ℕ) (one : Mech S W) → slice_get (run_of form setup older).mechs seat ≡ Some one → BegunWell setup older one ((ghost_of form setup older).seats seat) → BegunWell setup (move ∷ older) one ((ghost_of form setup older).seats seat)
    others seat one at well =
        let below = (ticks_go_on form setup older m.are.0 (ticks form m).0).begun seat one at in
        record {
          count = λ running. well.count running ∙ sym (at_stays form setup older move one.begin m.are (ticks form m) (below running));
          after' = λ running. after_more (called one) ((ghost_of form setup older).seats seat).begun (m.kept.seats seat one at).early (well.after' running);
        }

    -- ---- the seat that moves

    -- a call that runs after the move began by it, or ran before
    step_goes : (at : Phase S W) (one : Mech S W) (saw : Seen) → one.phase ≡ at → ticks_left (stepped form at saw one).phase ≡ 1 → (at ≡ Begin) ⊎ ((ticks_left at ≡ 1) × (draws_tick at ≡ false))
    step_goes Idle one saw is left = absurd (let e = ap (λ (p : Phase S W). ticks_left p) is in omega (arith, e, left))
    step_goes Begin one saw is left = inl refl
    step_goes Look one saw is left = inr (refl, refl)
    step_goes (Generate s step) one saw is left = inr (refl, refl)
    step_goes (Apply run stores step) one saw is left = inr (refl, refl)
    step_goes (Wrap w) one saw is left = inr (refl, refl)
    step_goes (Announce stage) one saw is left = inr (refl, refl)
    step_goes (Enter owner) one saw is left = inr (refl, refl)
    step_goes Drive one saw is left = inr (refl, refl)
    step_goes (Help drives help) one saw is left = inr (refl, refl)
    step_goes Collect one saw is left = inr (refl, refl)
    step_goes (Value reference) one saw is left = inr (refl, refl)
    step_goes (End reply) one saw is left = absurd (omega (arith, left))

    begun_stays : (at : Phase S W) (count before : ℕ) → draws_tick at ≡ false → begun_after at count before ≡ before
    begun_stays Begin count before quiet = absurd (search rules)
    begun_stays _ count before quiet = refl

    same_begun : (begins : Option Op) (one : Mech S W) → ticks_left (begun begins one).phase ≡ 1 → begun begins one ≡ one
    same_begun None one left = refl
    same_begun (Some op) one left = absurd (omega (arith, left))

    -- a call that begins has made no change
    begin_none : (begins : Option Op) (one : Mech S W) (known' : SeatGhost S) → TellsIn form one.phase one known' (world form m) → ChangesBelow (world form m) one → (begun begins one).phase ≡ Begin → MadeNone (world form m) (called (begun begins one))
    begin_none None one known' tells below is = subst (λ (p : Phase S W). TellsIn form p one known' (world form m)) is tells
    begin_none (Some op) one known' tells below is = λ change among of. (let less = below change among of.seat in let number = of.number in omega (arith, less, number))

    of_new : (change : Change) → IsCallsChange (called (new form m)) change → IsCallsChange (called (mover form m)) change
    of_new change of = (let same = same_fed form (mover form m) (seen form m) in record { seat = of.seat ∙ same.seat; number = of.number ∙ same.number })

    begun_is : (begun' : ℕ) → (mover form m).phase ≡ Begin → begun' ≡ length (after form m).changes → begun' ≡ changes_at form setup (move ∷ older) (new form m).begin
    begun_is begun' is same =
        let words = (run_of form setup older).words in
        let draws = ap draws_tick is in
        let tick : (seen form m).before ≡ tick_of (run_of form setup older) = ap (λ (p : Phase S W). (seen_of (request_in form p (mover form m)) words).before) is ∙ add_tells 0 1 words in
        let begin : (new form m).begin ≡ (seen form m).before = ap (λ (p : Phase S W). (stepped form p (seen form m) (mover form m)).begin) is in
        same ∙ sym (at_drawn form setup older move (mech form m) (seated form m) draws) ∙ ap (changes_at form setup (move ∷ older)) (sym tick ∙ sym begin)

    first_well : (own' : SeatGhost S) → (mover form m).phase ≡ Begin → own'.begun ≡ length (after form m).changes → BegunWell setup (move ∷ older) (new form m) own'
    first_well own' is same = record {
      count = λ running. begun_is own'.begun is same;
      after' = λ running change past stands of.
          (let quiet = drawn_changes form setup older move (mech form m) (seated form m) (ap draws_tick is) in
          let known' = m.kept.seats move.seat (mech form m) (seated form m) in
          let among = subst (Among change) quiet.0 (stands_among (after form m).changes change past stands) in
          absurd (begin_none move.begins (mech form m) (own form m) known'.tells known'.below is change among (of_new change of)));
    }

    -- where its call goes on
    goes_well : (own' : SeatGhost S) → ticks_left (mover form m).phase ≡ 1 → draws_tick (mover form m).phase ≡ false → own'.begun ≡ (own form m).begun → BegunWell setup (move ∷ older) (new form m) own'
    goes_well own' left quiet same =
        let one = same_begun move.begins (mech form m) left in
        let well = each move.seat (mech form m) (seated form m) in
        let left' : ticks_left (mech form m).phase ≡ 1 = subst (λ (x : Mech S W). ticks_left x.phase ≡ 1) one left in
        let below = (ticks_go_on form setup older m.are.0 (ticks form m).0).begun move.seat (mech form m) (seated form m) left' in
        let begin : (new form m).begin ≡ (mech form m).begin = begin_stays form (mover form m).phase (seen form m) (mover form m) quiet ∙ ap (λ (x : Mech S W). x.begin) one in
        record {
          count = λ running. same ∙ well.count left' ∙ sym (at_stays form setup older move (mech form m).begin m.are (ticks form m) below) ∙ ap (changes_at form setup (move ∷ older)) (sym begin);
          after' = λ running change past stands of.
              (let early = (m.kept.seats move.seat (mech form m) (seated form m)).early in
              let of' : IsCallsChange (called (mech form m)) change = subst (λ (x : Mech S W). IsCallsChange (called x) change) one (of_new change of) in
              let far = after_more (called (mech form m)) (own form m).begun early (well.after' left') change past stands of' in
              omega (arith, far, same));
        }

    own_well : BegunWell setup (move ∷ older) (new form m) ((ghost_of form setup (move ∷ older)).seats move.seat)
    own_well =
        let own' = (ghost_of form setup (move ∷ older)).seats move.seat in
        let made : own'.begun ≡ begun_after (mover form m).phase (length (after form m).changes) (own form m).begun =
        ap (λ (g : SeatGhost S). g.begun) (made_seat form setup older move (mech form m) (seated form m))
        ∙ ap (λ (w : World). begun_after (mover form m).phase (length w.changes) (own form m).begun) (made_moved form setup older move (mech form m) (seated form m)) in
        by_running own' made
      where
        by_running : (own' : SeatGhost S) → own'.begun ≡ begun_after (mover form m).phase (length (after form m).changes) (own form m).begun → BegunWell setup (move ∷ older) (new form m) own'
        by_running own' made = record { count = λ running. (by_goes own' made running).count running; after' = λ running. (by_goes own' made running).after' running }
          where
            by_goes : (own' : SeatGhost S) → own'.begun ≡ begun_after (mover form m).phase (length (after form m).changes) (own form m).begun → ticks_left (new form m).phase ≡ 1 → BegunWell setup (move ∷ older) (new form m) own'
            by_goes own' made running =
                elim (step_goes (mover form m).phase (mover form m) (seen form m) refl running) [
                  | inl first ↦ first_well own' first (made ∙ ap (λ (p : Phase S W). begun_after p (length (after form m).changes) (own form m).begun) first)
                  | inr goes ↦ goes_well own' goes.0 goes.1 (made ∙ begun_stays (mover form m).phase (length (after form m).changes) (own form m).begun goes.1)
                ]

    pub begun_more : EachBegun setup (move ∷ older)
    begun_more =
        seats_moved form (λ seat one known'. BegunWell setup older one ((ghost_of form setup older).seats seat)) (λ seat one known'. BegunWell setup (move ∷ older) one known') setup older move m.are.1 each
        (λ seat one apart at well. others seat one at well)
        (subst (λ (g : SeatGhost S). BegunWell setup (move ∷ older) (new form m) g) (made_seat form setup older move (mech form m) (seated form m)) own_well)

  -- ---- of every run

  begun_open : (setup : Setup) → EachBegun setup []
  begun_open setup seat one at =
      let idle : ticks_left one.phase ≡ 0 = ap (λ (x : Mech S W). ticks_left x.phase) (new_mech form setup seat one at) in
      record { count = λ running. absurd (omega (arith, idle, running)); after' = λ running. absurd (omega (arith, idle, running)) }

  pub each_begun : Laws form → RunsAreKept form → (setup : Setup) (moves : List Move) → AreMoves form setup moves → EachBegun setup moves
  each_begun laws kept setup [] are = begun_open setup
  each_begun laws kept setup (move ∷ older) are = begun_more (moved form laws kept setup older move are) (each_begun laws kept setup older are.0)
