-- How a call that returns ends, be it on its fast path or on its slow one: its outcome is right, so it made one change between
-- its ticks or observed, or it was left no block.
use Rattle.std.proofs.Common.{◌≡◌, ◌∙◌, refl, sym, subst, ap, ◌+◌, List, [], ◌∷◌, length, slice_index, Option, Some, None, All, arith}
use Rattle.std.proofs.lemmas.List.Elements.{All-cons, All-nil}
use Rattle.lin_report.specs.declared.calls.Op.{Op}
use Rattle.lin_report.specs.declared.calls.Outcome.TheVariants.{Plain}
use Rattle.lin_report.specs.declared.calls.Receipt.{Receipt}
use Rattle.lin_report.specs.declared.calls.Reply.{Reply}
use Rattle.lin_report.specs.declared.calls.Reply.TheVariants.{Exhausted}
use Rattle.step_memory.specs.declared.steps.Seen.{Seen}
use Rattle.step_memory.specs.Step.{seen_of}
use Rattle.step_memory.proofs.Words.{add_tells}
use Rattle.normal_traits.specs.World.{Called, Change, Among, Observes, RightSince, held_after}
use Rattle.normal_traits.specs.NormalForm.{NormalForm}
use Rattle.fast_slow_engine.specs.declared.phases.Phase.{Phase}
use Rattle.fast_slow_engine.specs.declared.phases.Phase.TheVariants.{Idle, Begin, Look, Generate, Apply, Wrap, Announce, Enter, Drive, Help, Collect, Value, End}
use Rattle.fast_slow_engine.specs.declared.setup.Setup.{Setup}
use Rattle.fast_slow_engine.specs.Mechs.{Mech}
use Rattle.fast_slow_engine.specs.PhaseTable.{receipt_of, request_in, stepped, ticks_left, turn_in}
use Rattle.fast_slow_engine.specs.Runs.{Move, RunState, begun, returned, run_of}
use Rattle.offered_blocks.specs.Records.{IsCallsChange, MadeNone, TellsRight}
use Rattle.offered_blocks.specs.Records.TellsRight.{observed, changed, refused as was_refused}
use Rattle.helper_knowledge.specs.Callers.{called}
use Rattle.run_laws.specs.Drawn.{IsDrawnAt}
use Rattle.run_laws.specs.Ticks.{draws_tick}
use Rattle.run_laws.proofs.CallsFollow.{ticks_go_on}
use Rattle.run_laws.proofs.MachinesKept.{seats_stay}
use Rattle.run_laws.proofs.Steps.{move_steps}
use Rattle.run_laws.proofs.StepKinds.{begins, returns, goes}
use Rattle.run_laws.proofs.TicksCounted.{counts_ticks, move_kind}
use Rattle.run_laws.proofs.Summaries.{tick_of}
use Rattle.run_exchanges.specs.RunGhosts.{ghost_of, world_of}
use Rattle.run_exchanges.specs.Tells.{TellsIn}
use Rattle.run_exchanges.proofs.InRuns.MovesInRuns.{Moved, mech, mover, own, seated, seen, ticks, world}
use Rattle.run_refusals.specs.NoneLeft.{EachLeft, NoneLeft}
use Rattle.run_reports.specs.Changes.{changes_at}
use Rattle.run_reports.specs.Endings.{ChangedNone, HasEnded, HasSeen, MadeChange, StandsOver, WasRefused}
use Rattle.run_reports.specs.Endings.HasEnded.{made, saw, refused}
use Rattle.run_reports.proofs.Counts.Begun.{EachBegun}
use Rattle.run_reports.proofs.Counts.Stands.{among_stands, stands_below}
use Rattle.run_reports.proofs.Counts.Ticks.{at_drawn, at_stays, count_rises, drawn_changes}
use Rattle.run_reports.proofs.Endings.Stays.{first_still, stands_still}
use Rattle.run_reports.proofs.Endings.Vain.{AddsMade, FirstsTook, vain_now}

module _ {S W : Type 0} where
  -- a call that returns was begun before
  pub ends_as : (begins : Option Op) (one : Mech S W) (reply : Reply) → (begun begins one).phase ≡ End reply → begun begins one ≡ one
  ends_as None one reply is = refl
  ends_as (Some op) one reply is = absurd cc

  -- a step writes the line of a call that returns, or none
  pub all_lines : (P : Receipt → Type 0) (phase : Phase S W) (one : Mech S W) (saw' : Seen) → ((reply : Reply) → phase ≡ End reply → P (receipt_of one reply saw'.before)) → All P (returned (turn_in phase saw' one))
  all_lines P (End reply) one saw' ends = All-cons P (receipt_of one reply saw'.before) [] (ends reply refl) (All-nil P)
  all_lines P Idle one saw' ends = All-nil P
  all_lines P Begin one saw' ends = All-nil P
  all_lines P Look one saw' ends = All-nil P
  all_lines P (Generate s at) one saw' ends = All-nil P
  all_lines P (Apply run stores at) one saw' ends = All-nil P
  all_lines P (Wrap w) one saw' ends = All-nil P
  all_lines P (Announce stage) one saw' ends = All-nil P
  all_lines P (Enter owner) one saw' ends = All-nil P
  all_lines P Drive one saw' ends = All-nil P
  all_lines P (Help drives help) one saw' ends = All-nil P
  all_lines P Collect one saw' ends = All-nil P
  all_lines P (Value reference) one saw' ends = All-nil P

  pub of_call : (one : Mech S W) (change : Change) → change.list.call ≡ called one → IsCallsChange (called one) change
  of_call one change call = record { seat = ap (λ (c : Called). c.seat) call; number = ap (λ (c : Called). c.number) call }

module _ {S W : Type 0} (form : NormalForm S W) {setup : Setup} {older : List Move} {move : Move} (m : Moved form setup older move) (each : EachBegun form setup older) where
  -- the line of its call where it returns
  abbrev pub line_of : Reply → Receipt
  line_of reply = receipt_of (mover form m) reply (seen form m).before

  -- ---- where it returns

  module _ (reply : Reply) (is : (mover form m).phase ≡ End reply) where
    pub as_before : mover form m ≡ mech form m
    as_before = ends_as move.begins (mech form m) reply is

    pub ends_is : (mech form m).phase ≡ End reply
    ends_is = ap (λ (x : Mech S W). x.phase) (sym as_before) ∙ is

    -- there were as many changes at its begin tick, and all that there are at its end tick
    at_begin : changes_at form setup (move ∷ older) (mover form m).begin ≡ (own form m).begun
    at_begin =
        let left : ticks_left (mech form m).phase ≡ 1 = ap ticks_left ends_is in
        let below = (ticks_go_on form setup older m.are.0 (ticks form m).0).begun move.seat (mech form m) (seated form m) left in
        ap (λ (x : Mech S W). changes_at form setup (move ∷ older) x.begin) as_before ∙ at_stays form setup older move (mech form m).begin m.are (ticks form m) below
        ∙ sym ((each move.seat (mech form m) (seated form m)).count left)

    -- its line's end tick is the counter, which its move leaves one higher
    end_is : (seen form m).before ≡ tick_of (run_of form setup older)
    end_is = (let words = (run_of form setup older).words in ap (λ (p : Phase S W). (seen_of (request_in form p (mover form m)) words).before) is ∙ add_tells 0 1 words)

    tick_more : tick_of (run_of form setup (move ∷ older)) ≡ tick_of (run_of form setup older) + 1
    tick_more =
        let state = run_of form setup older in
        let words = ap (λ (s : RunState S W). tick_of s) (move_steps form state move (mech form m) (seated form m)) in
        let left : ticks_left (mover form m).phase ≡ 1 = ap ticks_left is in
        let rest : ticks_left (stepped form (mover form m).phase (seen form m) (mover form m)).phase ≡ 0 = ap (λ (p : Phase S W). ticks_left (stepped form p (seen form m) (mover form m)).phase) is in
        elim (move_kind form state move (counts_ticks form setup older m.are.0 (ticks form m).0) m.are.1 (ticks form m).1) [
          | begins two new begin none event word ↦ absurd (omega (arith, two, left))
          | returns told one_left resting line event word ↦ words ∙ word
          | goes one_left still begin none event word ↦ absurd (omega (arith, still, rest))
        ]

    drawn_here : IsDrawnAt form setup (move ∷ older) (line_of reply).end move older
    drawn_here = record { newer = []; made = refl; before = sym end_is; after = tick_more ∙ ap (λ n. n + 1) (sym end_is) }

    at_end : changes_at form setup (move ∷ older) (seen form m).before ≡ length (world_of form setup (move ∷ older)).changes
    at_end = ap (changes_at form setup (move ∷ older)) end_is ∙ at_drawn form setup older move (mech form m) (seated form m) (ap draws_tick is)

    -- a change of its call with its reply
    pub made_by_line : (change : Change) (past : List Change) → StandsOver (ghost_of form setup older).changes change past → change.list.call ≡ called (mover form m) → change.reply ≡ reply
        → MadeChange form setup (move ∷ older) (line_of reply) change past
    made_by_line change past stands call told =
        let left : ticks_left (mech form m).phase ≡ 1 = ap ticks_left ends_is in
        let early = (each move.seat (mech form m) (seated form m)).after' left change past stands (subst (λ (x : Mech S W). IsCallsChange (called x) change) as_before (of_call (mover form m) change call)) in
        record {
          stands = stands_still form setup older move change past stands;
          call = call;
          reply = told;
          begun = omega (arith, at_begin, early);
          ended = omega (arith, at_end, stands_below (ghost_of form setup older).changes change past stands, count_rises form setup older move);
        }

    quiet_line : MadeNone (world form m) (called (mover form m)) → ChangedNone form setup (move ∷ older) (line_of reply)
    quiet_line none change among call = none change (subst (Among change) (drawn_changes form setup older move (mech form m) (seated form m) (ap draws_tick is)).0 among) (of_call (mover form m) change call)

    seen_by_line : MadeNone (world form m) (called (mover form m)) → RightSince form.object (world form m) (mover form m).op (own form m).begun (Plain reply) → HasSeen form setup (move ∷ older) (line_of reply)
    seen_by_line none right =
        let object = form.object in
        let same = first_still form setup older move right.count (omega (arith, right.made)) in
        record {
          count = right.count;
          begun = omega (arith, at_begin, right.not_before);
          ended = omega (arith, at_end, right.made, count_rises form setup older move);
          observes = subst (λ (l : List Change). Observes object (mover form m).op (held_after object l)) (sym same) right.observes;
          told = subst (λ (l : List Change). reply ≡ (object.apply (mover form m).op (held_after object l)).1) (sym same) right.told;
          unchanged = quiet_line none;
        }

    refused_by_line : AddsMade form (world form m) → FirstsTook form (world form m) → reply ≡ Exhausted → MadeNone (world form m) (called (mover form m)) → NoneLeft setup.cap (slice_index (run_of form setup older).words 2) (mover form m).op
        → WasRefused form setup (move ∷ older) (line_of reply)
    refused_by_line adds_made firsts exhausted none left =
        let seat : (mover form m).seat ≡ move.seat = ap (λ (x : Mech S W). x.seat) as_before ∙ ((seats_stay form setup older m.are.0).own move.seat (mech form m) (seated form m)).seat in
        record {
          exhausted = exhausted;
          may = left.may;
          move = move;
          older = older;
          drawn = drawn_here;
          own = sym seat;
          none_left = left.none_left;
          unchanged = quiet_line none;
          in_vain = vain_now form m reply ends_is (subst (λ (x : Mech S W). MadeNone (world form m) (called x)) as_before none) adds_made firsts (line_of reply) (ap (λ (x : Mech S W). called x) as_before) (ap draws_tick is);
        }

    same_plain : (a b : Reply) → Plain a ≡ Plain b → a ≡ b
    same_plain a b e = cc

    right_line : AddsMade form (world form m) → FirstsTook form (world form m) → (reply ≡ Exhausted → NoneLeft setup.cap (slice_index (run_of form setup older).words 2) (mover form m).op)
        → TellsRight form (world form m) (called (mover form m)) (own form m).begun (Plain reply) → HasEnded form setup (move ∷ older) (line_of reply)
    right_line adds_made firsts left (observed right fixed none) = saw (seen_by_line none right)
    right_line adds_made firsts left (changed list call by fixed only) =
        let change : Change = record { list = list; reply = by.reply } in
        let stands = among_stands (world form m).changes change by.change in
        made change stands.0 (made_by_line change stands.0 stands.1 call (sym by.told))
    right_line adds_made firsts left (was_refused outcome none) =
        let exhausted = same_plain reply Exhausted outcome in refused (refused_by_line adds_made firsts exhausted none (left exhausted))

    -- what its machine tells
    pub tells_end : TellsRight form (world form m) (called (mover form m)) (own form m).begun (Plain reply)
    tells_end =
        subst (λ (x : Mech S W). TellsRight form (world form m) (called x) (own form m).begun (Plain reply)) (sym as_before)
        (subst (λ (p : Phase S W). TellsIn form p (mech form m) (own form m) (world form m)) ends_is (m.kept.seats move.seat (mech form m) (seated form m)).tells)

    -- so its call ends well
    pub line_ends : AddsMade form (world form m) → FirstsTook form (world form m) → EachLeft form setup older → HasEnded form setup (move ∷ older) (line_of reply)
    line_ends adds_made firsts left =
        right_line adds_made firsts
        (λ exhausted. subst (λ (x : Mech S W). NoneLeft setup.cap (slice_index (run_of form setup older).words 2) x.op) (sym as_before) ((left move.seat (mech form m) (seated form m)).ends (ends_is ∙ ap (λ r. End r) exhausted))) tells_end
