-- A step of a seat makes the next move of the run that a core holds, and uses room that was left.
use Rattle.std.proofs.Common.{arith, ◌≡◌, ◌∙◌, sym, subst, ap, ℕ, zero, suc, ◌+◌, ◌*◌, ◌<◌, ◌≤◌, ◌++◌, List, [], ◌∷◌, length, length-set, map, slice_get, slice_set, slice_index_or, true, Option, Some}
use Rattle.std.specs.Prelude.{sum_by}
use Rattle.std.proofs.lemmas.List.{length-append, map-set}
use Rattle.std.proofs.lemmas.List.Sums.{get_or-le-sum_by, sum_by-cons, sum_by-set}
use Rattle.lin_report.specs.declared.calls.Op.{Op}
use Rattle.lin_report.specs.declared.events.Event.{Event}
use Rattle.step_memory.specs.Step.{seen_of, words_after}
use Rattle.normal_traits.specs.NormalForm.{NormalForm}
use Rattle.fast_slow_engine.specs.declared.setup.Setup.{Setup}
use Rattle.fast_slow_engine.specs.Events.{step_events}
use Rattle.fast_slow_engine.specs.Mechs.{Mech}
use Rattle.fast_slow_engine.specs.PhaseTable.{mech_fed, mech_request}
use Rattle.fast_slow_engine.specs.Runs.{AreMoves, CanMove, Move, RunState, begun, moved_by, run_of}
use Rattle.run_queue.specs.Premises.{KeepsQueue}
use Rattle.run_overtaking.proofs.EventRoom.{events_fit}
use Rattle.event_core.specs.Cores.{HaveBegun, IsCore, IsRun}
use Rattle.event_core.specs.Seats.{Seat, command_of, is_over, lines_owed}
use Rattle.event_core.proofs.StepsAreMoves.{mech_at, over_stays, put_same, seat_at}

module _ {S W : Type 0} where
  -- ---- calls begun

  pub begun_set : (seats : List (Seat S W)) (i : ℕ) (s : Seat S W) → HaveBegun seats → s.mech.number ≤ length s.file → HaveBegun (slice_set seats i s)
  begun_set [] i s have few = tt
  begun_set (x ∷ seats) zero s have few = (few, have.1)
  begun_set (x ∷ seats) (suc i) s have few = (have.0, begun_set seats i s have.1 few)

  begun_few : (seats : List (Seat S W)) → HaveBegun seats → sum_by (λ (m : Mech S W). m.number) (map (λ (seat : Seat S W). seat.mech) seats) ≤ sum_by (λ (seat : Seat S W). length seat.file) seats
  begun_few [] have = omega arith
  begun_few (x ∷ seats) have =
      let left = sum_by-cons (λ (m : Mech S W). m.number) x.mech (map (λ (seat : Seat S W). seat.mech) seats) in
      let right = sum_by-cons (λ (seat : Seat S W). length seat.file) x seats in
      let rest = begun_few seats have.1 in
      let here = have.0 in
      omega (arith, left, right, rest, here)

  -- ---- room

  -- what the seats owe, with another one at a place
  pub owed_set : (f : Seat S W → ℕ) (seats : List (Seat S W)) (i : ℕ) (s other : Seat S W) → i < length seats → s ≡ slice_index_or seats i s → sum_by f (slice_set seats i other) + f s ≡ sum_by f seats + f other
  owed_set f seats i s other inside at = ap (λ (x : Seat S W). sum_by f (slice_set seats i other) + f x) at ∙ sum_by-set f seats i other s inside

  module _ (form : NormalForm S W) (setup : Setup) where
    -- the next move of a run
    run_next : (words : List ℕ) (mechs : List (Mech S W)) (events : List Event) (i : ℕ) (begins : Option Op) (old : Mech S W) → IsRun form setup words mechs events → slice_get mechs i ≡ Some old → CanMove form begins old
        → (let one = begun begins old in IsRun form setup (words_after (mech_request form one) words) (slice_set mechs i (mech_fed form one (seen_of (mech_request form one) words))) (events ++ step_events one words (words_after (mech_request form one) words)))
    run_next words mechs events i begins old run at can =
        let move : Move = record { seat = i; begins = begins } in
        let state = run_of form setup run.moves in
        let one = begun begins old in
        let found : slice_get state.mechs i ≡ Some old = ap (λ (ms : List (Mech S W)). slice_get ms i) run.mechs_are ∙ at in
        let step = ap (λ o. moved_by form o move state) found in
        record {
          moves = move ∷ run.moves;
          are = (run.are, record { mech = old; seated = found; can = can });
          words_are = ap (λ (s : RunState S W). s.words) step ∙ ap (words_after (mech_request form one)) run.words_are;
          mechs_are = ap (λ (s : RunState S W). s.mechs) step ∙ ap (λ ms. slice_set ms i (mech_fed form one (seen_of (mech_request form one) state.words))) run.mechs_are
              ∙ ap (λ ws. slice_set mechs i (mech_fed form one (seen_of (mech_request form one) ws))) run.words_are;
          events_are = ap (λ (s : RunState S W). s.events) step ∙ ap (λ es. es ++ step_events one state.words (words_after (mech_request form one) state.words)) run.events_are
              ∙ ap (λ ws. events ++ step_events one ws (words_after (mech_request form one) ws)) run.words_are;
        }

    module _ (keeps : (moves : List Move) → AreMoves form setup moves → KeepsQueue form setup moves) where
      -- there is room for the events of a run
      run_room : (words : List ℕ) (seats : List (Seat S W)) (events : List Event) (room : ℕ) → IsRun form setup words (map (λ seat. seat.mech) seats) events → HaveBegun seats → 4 * sum_by (λ (seat : Seat S W). length seat.file) seats ≤ room → length events ≤ room
      run_room words seats events room run have fits =
          let few = events_fit form setup run.moves run.are (keeps run.moves run.are) in
          let long = ap length run.events_are in
          let calls = ap (sum_by (λ (m : Mech S W). m.number)) run.mechs_are in
          let most = begun_few seats have in
          omega (arith, few, long, calls, most, fits)

  module _ (form : NormalForm S W) (setup : Setup) (opening words : List ℕ) (seats : List (Seat S W)) (lines line_room : ℕ) (events : List Event) (event_room : ℕ) (is : IsCore form setup opening words seats lines line_room events event_room)
      (i : ℕ) (s s1 : Seat S W) (inside : i < length seats) (at : s ≡ slice_index_or seats i s) (m1 : s1.mech ≡ begun (command_of s) s.mech) (f1 : s1.file ≡ s.file) where
    -- a seat that begins nothing leaves all as it was
    pub over_kept : is_over s ≡ true → IsCore form setup opening words (slice_set seats i s1) lines line_room events event_room
    over_kept over = subst (λ l. IsCore form setup opening words l lines line_room events event_room) (sym (put_same seats i s s1 at (over_stays s s1 m1 f1 over))) is

    -- there is room for the lines that the seat owes
    pub room_for_lines : lines_owed s1 ≡ lines_owed s → lines + lines_owed s1 ≤ line_room
    room_for_lines same =
        let left = is.for_lines in
        let all = is.for_all_lines in
        let own = subst (λ (x : Seat S W). lines_owed x ≤ sum_by lines_owed seats) (sym at) (get_or-le-sum_by lines_owed seats i s inside) in
        omega (arith, left, all, own, same)

    module _ (keeps : (moves : List Move) → AreMoves form setup moves → KeepsQueue form setup moves) (can : CanMove form (command_of s) s.mech) (s2 : Seat S W) (words' : List ℕ)
        (w : words' ≡ words_after (mech_request form s1.mech) words) (m2 : s2.mech ≡ mech_fed form s1.mech (seen_of (mech_request form s1.mech) words)) (f2 : s2.file ≡ s1.file) (few : s2.mech.number ≤ length s2.file) where
      abbrev new : List Event
      new = step_events s1.mech words words'

      stepped_run : IsRun form setup words' (map (λ seat. seat.mech) (slice_set seats i s2)) (events ++ new)
      stepped_run =
          let next = run_next form setup words (map (λ (seat : Seat S W). seat.mech) seats) events i (command_of s) s.mech is.run (mech_at seats i s (seat_at seats i s inside at)) can in
          let by : IsRun form setup (words_after (mech_request form s1.mech) words) (slice_set (map (λ (seat : Seat S W). seat.mech) seats) i (mech_fed form s1.mech (seen_of (mech_request form s1.mech) words))) (events ++ step_events s1.mech words (words_after (mech_request form s1.mech) words))
          = subst (λ (k : Mech S W). IsRun form setup (words_after (mech_request form k) words) (slice_set (map (λ (seat : Seat S W). seat.mech) seats) i (mech_fed form k (seen_of (mech_request form k) words))) (events ++ step_events k words (words_after (mech_request form k) words))) (sym m1) next in
          let set : IsRun form setup (words_after (mech_request form s1.mech) words) (map (λ (seat : Seat S W). seat.mech) (slice_set seats i s2)) (events ++ step_events s1.mech words (words_after (mech_request form s1.mech) words))
          = subst (λ ms. IsRun form setup (words_after (mech_request form s1.mech) words) ms (events ++ step_events s1.mech words (words_after (mech_request form s1.mech) words)))
          (ap (slice_set (map (λ (seat : Seat S W). seat.mech) seats) i) (sym m2) ∙ sym (map-set (λ (seat : Seat S W). seat.mech) seats i s2)) by in
          subst (λ ws. IsRun form setup ws (map (λ (seat : Seat S W). seat.mech) (slice_set seats i s2)) (events ++ step_events s1.mech words ws)) (sym w) set

      same_commands : sum_by (λ (seat : Seat S W). length seat.file) (slice_set seats i s2) ≡ sum_by (λ (seat : Seat S W). length seat.file) seats
      same_commands =
          let set = owed_set (λ (seat : Seat S W). length seat.file) seats i s s2 inside at in
          let same = ap length (f2 ∙ f1) in
          omega (arith, set, same)

      -- there is room for what the step tells
      pub room_to_note : (made : ℕ) → made ≡ length events → made + length new ≤ event_room
      room_to_note made long =
          let fits = is.for_events in
          let same = same_commands in
          let most = run_room form setup keeps words' (slice_set seats i s2) (events ++ new) event_room stepped_run (begun_set seats i s2 is.begun few) (omega (arith, fits, same)) in
          let both = length-append events new in
          omega (arith, most, both, long)

      -- and the core holds the run with that move
      pub stepped_kept : (wrote lines' line_room' event_room' : ℕ) (events' : List Event) → lines_owed s1 ≡ lines_owed s → lines_owed s2 + wrote ≡ lines_owed s1 → lines' ≡ lines + wrote → line_room' ≡ line_room
          → events' ≡ events ++ new → event_room' ≡ event_room → IsCore form setup opening words' (slice_set seats i s2) lines' line_room' events' event_room'
      stepped_kept wrote lines' line_room' event_room' events' begun_lines stepped_lines more_lines same_line_room noted same_event_room =
          let of_lines = owed_set lines_owed seats i s s2 inside at in
          let lines_left = is.for_lines in
          let fits = is.for_events in
          let same = same_commands in
          let all = is.for_all_lines in
          record {
            opened = is.opened;
            count = length-set seats i s2 ∙ is.count;
            begun = begun_set seats i s2 is.begun few;
            run = subst (IsRun form setup words' (map (λ seat. seat.mech) (slice_set seats i s2))) (sym noted) stepped_run;
            for_lines = omega (arith, of_lines, begun_lines, stepped_lines, more_lines, same, lines_left);
            for_all_lines = omega (arith, all, same, same_line_room);
            for_events = omega (arith, fits, same, same_event_room);
          }
