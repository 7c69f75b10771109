-- The report of a run is placed in the history of its changes, so it is linearizable.
use Rattle.std.specs.Option.{option_to_list}
use Rattle.std.proofs.Common.{◌≡◌, ℕ, zero, suc, ◌<◌, ◌≤◌, List, [], ◌∷◌, ◌++◌, ◌-◌, map, take, length, slice_get, get_or, Some, All, Contains, refl, sym, ap, subst, ◌∙◌, inl, inr, arith}
use Rattle.std.proofs.lemmas.List.{append_assoc, take-append-drop}
use Rattle.std.proofs.lemmas.List.Elements.{All-weaker, Contains-append_left, Contains-append_right}
use Rattle.std.proofs.lemmas.Option.{get_or_from_slice_get, slice_get_within}
use Rattle.lin_report.specs.declared.calls.Op.{Op}
use Rattle.lin_report.specs.declared.calls.PendingCall.{PendingCall}
use Rattle.lin_report.specs.declared.calls.Receipt.{Receipt}
use Rattle.lin_report.specs.declared.calls.Reply.TheVariants.{Exhausted}
use Rattle.lin_report.specs.Calls.{Report, answered_call, calls_of}
use Rattle.lin_report.specs.Calls as calls
use Rattle.lin_report.specs.Commands.{IsReplyTo}
use Rattle.lin_report.specs.Object.{IsCommandOf, Object}
use Rattle.lin_report.specs.Linearizable.{IsLinearizable}
use Rattle.lin_report.specs.Report.{IsReport}
use Rattle.lin_report.proofs.Tellable.{IsReached, reached_fits}
use Rattle.normal_traits.specs.World.{Called, Change, first_changes, held_after}
use Rattle.normal_traits.specs.NormalForm.{NormalForm}
use Rattle.fast_slow_engine.specs.declared.setup.Setup.{Setup}
use Rattle.fast_slow_engine.specs.Mechs.{Mech}
use Rattle.fast_slow_engine.specs.PhaseTable.{mech_pending, pending_call, ticks_left}
use Rattle.fast_slow_engine.specs.Runs.{Move, run_of, pending_of}
use Rattle.fast_slow_engine.specs.Reports.{report_of_run}
use Rattle.helper_knowledge.specs.Callers.{called}
use Rattle.placing_law.specs.Placing.{MadeByCall, HasObserved, IsAccounted, IsPlaced, change_of, held_at}
use Rattle.placing_law.specs.Placing as placing
use Rattle.placing_law.proofs.Placed.CallOrder.{placed_is_linearizable}
use Rattle.run_laws.proofs.StepKinds.{pending_open}
use Rattle.run_laws.proofs.Steps.{some_same}
use Rattle.run_exchanges.specs.RunGhosts.{ghost_of}
use Rattle.run_reports.specs.Changes.{changes_at}
use Rattle.run_reports.specs.Endings.{StandsOver, HasSeen, WasRefused, HasEnded, made, saw, refused, IsMadeBy, runs, returned, CallsAccounted}
use Rattle.run_reports.specs.Placed.{placed, history_of}
use Rattle.run_reports.proofs.Placed.Histories.{length_history, at_place, change_at, held_before, held_first, placed_once}

-- ---- the calls of a report

contains_map : {X Y : Type 0} (f : X → Y) (xs : List X) (x : X) → Contains xs x → Contains (map f xs) (f x)
contains_map f [] x in_it = absurd (omega (arith, in_it.1))
contains_map f (y ∷ xs) x (zero, within, is) = (zero, omega arith, ap f is)
contains_map f (y ∷ xs) x (suc k, within, is) =
    let rest = contains_map f xs x (k, omega arith, is) in
    let inside = rest.1 in
    (suc rest.0, omega arith, rest.2)

module _ {S W : Type 0} where
  pending_first : (mech : Mech S W) → ticks_left mech.phase ≡ 1 → Contains (option_to_list (mech_pending mech)) (pending_call mech)
  pending_first mech one = subst (λ o. Contains (option_to_list o) (pending_call mech)) (sym (pending_open mech.phase mech one)) (zero, omega arith, refl)

  -- the call of a machine that runs is pending
  pub is_pending : (mechs : List (Mech S W)) (seat : ℕ) (mech : Mech S W) → slice_get mechs seat ≡ Some mech → ticks_left mech.phase ≡ 1 → Contains (pending_of mechs) (pending_call mech)
  is_pending [] seat mech at one = absurd cc
  is_pending (first ∷ mechs) zero mech at one =
      subst (λ m. Contains (option_to_list (mech_pending m) ++ pending_of mechs) (pending_call mech)) (sym (some_same first mech at))
      (Contains-append_left (option_to_list (mech_pending mech)) (pending_of mechs) (pending_call mech) (pending_first mech one))
  is_pending (first ∷ mechs) (suc seat) mech at one =
      Contains-append_right (option_to_list (mech_pending first)) (pending_of mechs) (pending_call mech) (is_pending mechs seat mech at one)

pub answered_known : (report : Report) (r : Receipt) → Contains report.receipts r → Contains (calls_of report) (answered_call r)
answered_known report r known =
    Contains-append_left (map answered_call report.receipts) (map calls.pending_call report.pending) (answered_call r) (contains_map answered_call report.receipts r known)

pub pending_known : (report : Report) (p : PendingCall) → Contains report.pending p → Contains (calls_of report) (calls.pending_call p)
pending_known report p known =
    Contains-append_right (map answered_call report.receipts) (map calls.pending_call report.pending) (calls.pending_call p) (contains_map calls.pending_call report.pending p known)

-- ---- a run

-- the change of a call
abbrev of_call : Called → placing.ObjectChange
of_call call = record { seat = call.seat; number = call.number; op = call.op }

module _ {S W : Type 0} (form : NormalForm S W) where
  -- what a run's calls are placed by: each is accounted for, each reply is the object's after the older changes,
  -- after which what is held is in range, the counts at the ticks rise to that of all changes, and a change of a
  -- call that runs came after its begin
  pub record Placeable (setup : Setup) (moves : List Move) : Type 0 where
    pub accounted : CallsAccounted form setup moves
    pub replied : (newer older : List Change) (change : Change) → (ghost_of form setup moves).changes ≡ newer ++ change ∷ older
        → change.reply ≡ (form.object.apply change.list.call.op (held_after form.object older)).1
    pub ranged : (newer older : List Change) → (ghost_of form setup moves).changes ≡ newer ++ older → IsReached form.object (held_after form.object older)
    pub rises : (tick later : ℕ) → tick ≤ later → changes_at form setup moves tick ≤ changes_at form setup moves later
    pub within : (tick : ℕ) → changes_at form setup moves tick ≤ length (ghost_of form setup moves).changes
    pub begun : (seat : ℕ) (mech : Mech S W) → slice_get (run_of form setup moves).mechs seat ≡ Some mech → ticks_left mech.phase ≡ 1
        → (newer older : List Change) (change : Change) → (ghost_of form setup moves).changes ≡ newer ++ change ∷ older → change.list.call ≡ called mech
        → changes_at form setup moves mech.begin ≤ length older

  module _ (setup : Setup) (moves : List Move) (can : Placeable setup moves) where
    abbrev changes : List Change
    changes = (ghost_of form setup moves).changes

    abbrev history : List placing.ObjectChange
    history = history_of changes

    abbrev object : Object
    object = form.object

    abbrev report : Report
    report = report_of_run (run_of form setup moves)

    place_of : (change : Change) (older : List Change) → StandsOver changes change older → slice_get history (length older) ≡ Some (placed change)
    place_of change older stands = subst (λ cs. slice_get (history_of cs) (length older) ≡ Some (placed change)) (sym stands.1) (at_place stands.0 change older)

    held_there : (change : Change) (older : List Change) → StandsOver changes change older → held_at object history (length older) ≡ held_after object older
    held_there change older stands =
        subst (λ cs. held_at object (history_of cs) (length older) ≡ held_after object older) (sym stands.1) (held_before object stands.0 change older)

    -- the reply of a change of an operation
    replies_there : (change : Change) (older : List Change) (op : Op) → StandsOver changes change older → change.list.call.op ≡ op → change.reply ≡ (object.apply op (held_after object older)).1
    replies_there change older op stands is =
        can.replied stands.0 older change stands.1 ∙ ap (λ o. (object.apply o (held_after object older)).1) is

    abbrev Made : ℕ → Type 0
    Made place = MadeByCall object history (changes_at form setup moves) report place

    made_by : (change : Change) (older : List Change) → StandsOver changes change older → IsMadeBy form setup moves change older → Made (length older)
    made_by change older stands (runs seat mech seated one call) = record {
      call = calls.pending_call (pending_call mech);
      known = pending_known report (pending_call mech) (is_pending (run_of form setup moves).mechs seat mech seated one);
      change = place_of change older stands ∙ ap (λ c. Some (of_call c)) call;
      begun = can.begun seat mech seated one stands.0 older change stands.1 call;
      ended = tt;
      reply = tt;
    }
    made_by change older stands (returned r known m) = record {
      call = answered_call r;
      known = answered_known report r known;
      change = place_of change older stands ∙ ap (λ c. Some (of_call c)) m.call;
      begun = m.begun;
      ended = m.ended;
      reply = sym m.reply ∙ replies_there change older r.op stands (ap (λ (c : Called). c.op) m.call)
          ∙ ap (λ held. (object.apply r.op held).1) (sym (held_there change older stands));
    }

    made_at : (place : ℕ) → place < length history → Made place
    made_at place within =
        let there = change_at changes place (omega (arith, within, length_history changes)) in
        subst Made there.place_is (made_by there.change there.older there.stands (can.accounted.made there.change there.older there.stands))

    counted : (r : Receipt) (seen : HasSeen form setup moves r) → seen.count ≤ length changes
    counted r seen = omega (arith, seen.ended, can.within r.end)

    accounted_by : (r : Receipt) → HasEnded form setup moves r → IsAccounted object history (changes_at form setup moves) r
    accounted_by r (made change older m) =
        let there : slice_get history (length older) ≡ Some (change_of (answered_call r)) = place_of change older m.stands ∙ ap (λ c. Some (of_call c)) m.call in
        inr (inl (length older, slice_get_within history (length older) (change_of (answered_call r)) there, get_or_from_slice_get history (length older) (change_of (answered_call r)) _ there))
    accounted_by r (saw seen) =
        let same = held_first object seen.count changes (counted r seen) in
        inr (inr (record {
          count = seen.count;
          begun = seen.begun;
          ended = seen.ended;
          leaves = subst (λ held. (object.apply r.op held).0 ≡ held) (sym same) seen.observes;
          told = seen.told ∙ ap (λ held. (object.apply r.op held).1) (sym same);
        }))
    accounted_by r (refused none) = inl none.exhausted

    pub is_placed : IsPlaced object history (changes_at form setup moves) report
    is_placed = record {
      rising = can.rises;
      within = λ tick. omega (arith, can.within tick, length_history changes);
      made = made_at;
      once = placed_once changes can.accounted.once;
      accounted = All-weaker (HasEnded form setup moves) (IsAccounted object history (changes_at form setup moves)) accounted_by (run_of form setup moves).receipts can.accounted.ended;
    }

    -- over any files of which it is a report, it is linearizable
    pub linearizable : (files : List (List Op)) → IsReport files report → IsLinearizable object report
    linearizable files is = placed_is_linearizable object form.tellable.answers files report history (changes_at form setup moves) is is_placed

    -- ---- the replies

    first_split : (count : ℕ) → changes ≡ take (length changes - count) changes ++ first_changes count changes
    first_split count = sym (take-append-drop (length changes - count) changes)

    reply_of : (r : Receipt) → IsCommandOf form.object r.op → HasEnded form setup moves r → IsReplyTo r.op r.reply
    reply_of r command (made change older m) =
        let is : change.reply ≡ _ = replies_there change older r.op m.stands (ap (λ (c : Called). c.op) m.call) in
        subst (IsReplyTo r.op) (sym is ∙ m.reply)
        (reached_fits form.object form.tellable r.op (held_after object older) command (can.ranged (m.stands.0 ++ change ∷ []) older (m.stands.1 ∙ sym (append_assoc m.stands.0 (change ∷ []) older))))
    reply_of r command (saw seen) =
        subst (IsReplyTo r.op) (sym seen.told)
        (reached_fits form.object form.tellable r.op (held_after object (first_changes seen.count changes)) command (can.ranged (take (length changes - seen.count) changes) (first_changes seen.count changes) (first_split seen.count)))
    reply_of r command (refused none) = subst (IsReplyTo r.op) (sym none.exhausted) (record { named = none.may; value = omega arith })

    -- each command is given a reply of the table
    pub replies_fit : All (λ r. IsCommandOf form.object r.op) report.receipts → All (λ r. IsReplyTo r.op r.reply) report.receipts
    replies_fit commands k d inside = reply_of (get_or report.receipts k d) (commands k d inside) (can.accounted.ended k d inside)

    none_left : (r : Receipt) → HasEnded form setup moves r → r.reply ≡ Exhausted → WasRefused form setup moves r
    none_left r (made change older m) exhausted =
        absurd (form.tellable.answers r.op (held_after object older) (sym (replies_there change older r.op m.stands (ap (λ (c : Called). c.op) m.call)) ∙ m.reply ∙ exhausted))
    none_left r (saw seen) exhausted = absurd (form.tellable.answers r.op (held_after object (first_changes seen.count changes)) (sym seen.told ∙ exhausted))
    none_left r (refused none) exhausted = none

    -- only where no block was left is a call told so, and it changed nothing
    pub exhausted_only : All (λ (r : Receipt). r.reply ≡ Exhausted → WasRefused form setup moves r) report.receipts
    exhausted_only k d inside = none_left (get_or report.receipts k d) (can.accounted.ended k d inside)
