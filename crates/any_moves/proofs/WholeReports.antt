-- The report of a run has a call for each command that its moves began.
use Rattle.std.proofs.Common.{arith, ◌≡◌, ◌∙◌, refl, sym, subst, ap, ℕ, zero, suc, ◌+◌, ◌-◌, ◌<◌, ◌≤◌, List, [], length, get_or, slice_get, Some, All, Contains, inl, inr}
use Rattle.std.proofs.lemmas.Bool.{cases_eq, cases_lt}
use Rattle.std.proofs.lemmas.List.{get_or_past}
use Rattle.std.proofs.lemmas.List.Elements.{All-contains}
use Rattle.std.proofs.lemmas.List.FromFn.{get_or-map-range_with_len, length-map-range_with_len}
use Rattle.std.proofs.lemmas.Option.{slice_get-get_or, slice_get_within}
use Rattle.lin_report.specs.declared.calls.Op.{Op}
use Rattle.lin_report.specs.Calls.{Call, Report, answered_call, calls_of}
use Rattle.lin_report.specs.Calls as calls
use Rattle.lin_report.specs.Report.{FollowsAnswer, IsCommand, IsReport, file_of}
use Rattle.normal_traits.specs.NormalForm.{NormalForm}
use Rattle.fast_slow_engine.specs.declared.setup.Setup.{Setup}
use Rattle.fast_slow_engine.specs.Mechs.{Mech}
use Rattle.fast_slow_engine.specs.PhaseTable.{mech_new, pending_call, ticks_left}
use Rattle.fast_slow_engine.specs.Runs.{Move, RunState, AreMoves, run_of}
use Rattle.fast_slow_engine.specs.Reports.{report_of_run}
use Rattle.run_laws.specs.Seats.{EachMech}
use Rattle.run_laws.specs.Ticks.{KeepsTicks}
use Rattle.run_laws.proofs.CallsFollow.{turns_go_on}
use Rattle.run_laws.proofs.MachinesKept.{new_mech, seats_stay}
use Rattle.run_laws.proofs.StepKinds.{begins, returns, goes}
use Rattle.run_laws.proofs.Steps.{some_same}
use Rattle.run_laws.proofs.Summaries.{Summary, each_moved, every_run}
use Rattle.run_reports.proofs.Placed.Reports.{answered_known, is_pending, pending_known}
use Rattle.move_orders.specs.Orders.{begun_at, begun_files}
use Rattle.move_orders.proofs.Begun.{each_counts}
use Rattle.any_moves.specs.Whole.{HasEachCommand, IsCalled}

-- ---- the calls of a seat, from its last one back

-- the report has the call of a seat with this number
record HasNumber (report : Report) (owner which : ℕ) : Type 0 where
  pub call : Call
  pub known : Contains (calls_of report) call
  pub seat : call.seat ≡ owner
  pub number : call.number ≡ which

-- the call before it was answered
one_before : (report : Report) (owner which : ℕ) → All (λ c. 1 < c.number → FollowsAnswer report c) (calls_of report) → 0 < which → HasNumber report owner (suc which) → HasNumber report owner which
one_before report owner which in_turn some has =
    let more : 1 < has.call.number = (let number = has.number in omega (arith, some, number)) in
    let follows = All-contains (λ c. 1 < c.number → FollowsAnswer report c) (calls_of report) has.call in_turn has.known more in
    record {
      call = answered_call follows.before;
      known = answered_known report follows.before follows.answered;
      seat = follows.seat ∙ has.seat;
      number = (let one = follows.number in let number = has.number in omega (arith, one, number));
    }

-- so each call before it is there
each_before : (report : Report) (owner which back : ℕ) → All (λ c. 1 < c.number → FollowsAnswer report c) (calls_of report) → 0 < which → HasNumber report owner (back + which) → HasNumber report owner which
each_before report owner which zero in_turn some has = subst (HasNumber report owner) (omega arith) has
each_before report owner which (suc back) in_turn some has =
    each_before report owner which back in_turn some
    (one_before report owner (back + which) in_turn (omega (arith, some)) (subst (HasNumber report owner) (omega arith) has))

-- its operation is the command of the file
command_called : (files : List (List Op)) (report : Report) (owner place : ℕ) (command : Op) → IsReport files report → slice_get (file_of files owner) place ≡ Some command → HasNumber report owner (place + 1) → IsCalled report owner place command
command_called files report owner place command is at has =
    let of_file = All-contains (IsCommand files) (calls_of report) has.call is.commands has.known in
    let back : has.call.number - 1 ≡ place = (let number = has.number in omega (arith, number)) in
    record {
      call = has.call;
      known = has.known;
      seat = has.seat;
      number = has.number;
      op = some_same has.call.op command
          (sym of_file.command ∙ ap (λ s. slice_get (file_of files s) (has.call.number - 1)) has.seat ∙ ap (slice_get (file_of files owner)) back ∙ at);
    }

-- ---- the last call of a seat

module _ {S W : Type 0} where
  -- no call has still to draw its begin tick: the move that begins it draws it
  abbrev HaveBegun : RunState S W → Type 0
  HaveBegun state = EachMech (λ (seat : ℕ) (mech : Mech S W). ticks_left mech.phase ≤ 1) state.mechs

  begun_more : (state after : RunState S W) → Summary state after → HaveBegun state → HaveBegun after
  begun_more state after h begun =
      each_moved (λ (seat : ℕ) (mech : Mech S W). ticks_left mech.phase ≤ 1) (λ (seat : ℕ) (mech : Mech S W). ticks_left mech.phase ≤ 1) state.mechs after.mechs h.seat h.old h.new h.at h.mechs begun
      (λ seat mech apart few. few)
      (elim h.kind [
        | begins two one begin none event word ↦ omega (arith, one)
        | returns reply one rest line event word ↦ omega (arith, rest)
        | goes one still begin none event word ↦ omega (arith, still)
      ])

  module _ (form : NormalForm S W) where
    have_begun : (setup : Setup) (moves : List Move) → AreMoves form setup moves → KeepsTicks form setup moves → HaveBegun (run_of form setup moves)
    have_begun =
        every_run form HaveBegun
        (λ setup seat mech at. subst (λ (m : Mech S W). ticks_left m.phase ≤ 1) (sym (new_mech form setup seat mech at)) (omega arith))
        begun_more

    -- it is pending, or was answered
    last_call : (setup : Setup) (moves : List Move) (seat : ℕ) (mech : Mech S W) → AreMoves form setup moves → KeepsTicks form setup moves → slice_get (run_of form setup moves).mechs seat ≡ Some mech → 0 < mech.number
        → HasNumber (report_of_run (run_of form setup moves)) seat mech.number
    last_call setup moves seat mech are keeps at some =
        let state = run_of form setup moves in
        let report = report_of_run state in
        elim (cases_eq (ticks_left mech.phase) 1) [
          | inl one ↦ record {
            call = calls.pending_call (pending_call mech);
            known = pending_known report (pending_call mech) (is_pending state.mechs seat mech at one);
            seat = ((seats_stay form setup moves are).own seat mech at).seat;
            number = refl;
          }
          | inr other ↦
              let few = have_begun setup moves are keeps seat mech at in
              let last = ((turns_go_on form setup moves are keeps).each seat mech at).resting (omega (arith, few, other)) some in
              record {
                call = answered_call last.before;
                known = answered_known report last.before last.answered;
                seat = last.seat;
                number = (let number = last.number_before in omega (arith, number));
              }
        ]

    -- ---- each command that moves began

    file_begun : (setup : Setup) (moves : List Move) (seat : ℕ) → seat < setup.seats → file_of (begun_files setup moves) seat ≡ begun_at moves seat
    file_begun setup moves seat low = get_or-map-range_with_len (begun_at moves) 0 setup.seats seat seat [] low (omega arith)

    none_past : (setup : Setup) (moves : List Move) (seat : ℕ) → setup.seats ≤ seat → file_of (begun_files setup moves) seat ≡ []
    none_past setup moves seat past =
        get_or_past (begun_files setup moves) seat [] (let long = length-map-range_with_len (begun_at moves) 0 setup.seats in omega (arith, long, past))

    pub has_each_command : (setup : Setup) (moves : List Move) → AreMoves form setup moves → KeepsTicks form setup moves → IsReport (begun_files setup moves) (report_of_run (run_of form setup moves))
        → HasEachCommand (begun_files setup moves) (report_of_run (run_of form setup moves))
    has_each_command setup moves are keeps is owner place command at =
        let state = run_of form setup moves in
        let report = report_of_run state in
        elim (cases_lt owner setup.seats) [
          | inl low ↦
              let count = (seats_stay form setup moves are).count in
              let mech = get_or state.mechs owner (mech_new owner setup) in
              let found : slice_get state.mechs owner ≡ Some mech = slice_get-get_or state.mechs owner (mech_new owner setup) (omega (arith, count, low)) in
              let number = (each_counts form setup moves are owner mech found).number in
              let inside : place < length (begun_at moves owner) =
              slice_get_within (begun_at moves owner) place command (ap (λ file. slice_get file place) (sym (file_begun setup moves owner low)) ∙ at) in
              let last = last_call setup moves owner mech are keeps found (omega (arith, number, inside)) in
              command_called (begun_files setup moves) report owner place command is at
              (each_before report owner (place + 1) (mech.number - (place + 1)) is.in_turn (omega arith)
              (subst (HasNumber report owner) (let less : mech.number ≡ (mech.number - (place + 1)) + (place + 1) = omega (arith, number, inside) in less) last))
          | inr past ↦ absurd (let none = ap (λ file. slice_get file place) (sym (none_past setup moves owner past)) ∙ at in cc)
        ]
