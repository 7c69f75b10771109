-- A core with a command more in the file of a seat.
use Rattle.std.proofs.Common.{arith, ◌≡◌, ◌∙◌, refl, sym, subst, ap, ℕ, zero, suc, ◌+◌, ◌-◌, ◌*◌, ◌<◌, ◌≤◌, ◌++◌, List, [], ◌∷◌, length, length-set, map, take, slice_set, slice_index_or, Bool, true, false, not}
use Rattle.std.specs.Prelude.{is_some, nat_le, sum_by}
use Rattle.std.proofs.lemmas.Bool.{leb-false, leb-true}
use Rattle.std.proofs.lemmas.List.{length-append, length-map, map-set}
use Rattle.std.proofs.lemmas.List.Sums.{sum_by_more}
use Rattle.std.proofs.lemmas.Option.{get_or_from_slice_get}
use Rattle.std.proofs.Math.Seq.{map-set_same}
use Rattle.lin_report.specs.declared.calls.Op.{Op}
use Rattle.lin_report.specs.declared.calls.Receipt.{Receipt}
use Rattle.lin_report.specs.declared.events.Event.{Event}
use Rattle.lin_report.specs.Report.{file_of}
use Rattle.normal_traits.specs.NormalForm.{NormalForm}
use Rattle.fast_slow_engine.specs.declared.setup.Setup.{Setup}
use Rattle.fast_slow_engine.specs.declared.setup.Turn.{Turn}
use Rattle.fast_slow_engine.specs.declared.setup.Turn.TheVariants as turn
use Rattle.fast_slow_engine.specs.Mechs.{Mech}
use Rattle.fast_slow_engine.specs.PhaseTable.{lines_left}
use Rattle.event_core.specs.Cores.{CoreView, HaveBegun, IsCore, IsRun, core_of, core_turn, core_turn_of}
use Rattle.event_core.specs.Seats.{Seat, is_over, lines_owed}
use Rattle.event_core.specs.Submissions.{has_move, is_idle, submitted}
use Rattle.event_core.proofs.Rooms.{begun_set, owed_set}
use Rattle.event_core.proofs.StepsAreMoves.{file_at, moves, moves_not, over_turn, rebuilt, seat_at, seated, turned_core}

not_idle : (t : Turn) → is_idle (core_turn_of t) ≡ false
not_idle turn.Going = refl
not_idle (turn.Returned receipt) = refl

module _ {S W : Type 0} where
  -- the file of a seat in a core
  pub file_is : (seats : List (Seat S W)) (i : ℕ) (s : Seat S W) → i < length seats → s ≡ slice_index_or seats i s → file_of (map (λ (seat : Seat S W). seat.file) seats) i ≡ s.file
  file_is seats i s inside at = get_or_from_slice_get (map (λ (seat : Seat S W). seat.file) seats) i s.file [] (file_at seats i s (seat_at seats i s inside at))

  pub file_in : {view : CoreView S W} (setup : Setup) (words : List ℕ) (seats : List (Seat S W)) (receipts : List Receipt) (events : List Event) (i : ℕ) (s : Seat S W)
      → core_of setup words seats receipts events ≡ view → i < length view.files → s ≡ slice_index_or seats i s → file_of view.files i ≡ s.file
  file_in setup words seats receipts events i s is inside at =
      ap (λ (v : CoreView S W). file_of v.files i) (sym is) ∙ file_is seats i s (seated setup words seats receipts events i is inside) at

  -- whether the file of a seat is full
  pub is_full_in : {view : CoreView S W} (setup : Setup) (words : List ℕ) (seats : List (Seat S W)) (receipts : List Receipt) (events : List Event) (i : ℕ) (s : Seat S W)
      → core_of setup words seats receipts events ≡ view → i < length view.files → s ≡ slice_index_or seats i s → (full : Bool) → full ≡ nat_le 65535 (length s.file) → full ≡ true → 65535 ≤ length (file_of view.files i)
  is_full_in setup words seats receipts events i s is inside at full tells is_true =
      subst (λ f. 65535 ≤ length f) (sym (file_in setup words seats receipts events i s is inside at)) (leb-true 65535 (length s.file) (sym tells ∙ is_true))

  pub has_room_in : {view : CoreView S W} (setup : Setup) (words : List ℕ) (seats : List (Seat S W)) (receipts : List Receipt) (events : List Event) (i : ℕ) (s : Seat S W)
      → core_of setup words seats receipts events ≡ view → i < length view.files → s ≡ slice_index_or seats i s → (full : Bool) → full ≡ nat_le 65535 (length s.file) → full ≡ false → length (file_of view.files i) < 65535
  has_room_in setup words seats receipts events i s is inside at full tells is_false =
      subst (λ f. length f < 65535) (sym (file_in setup words seats receipts events i s is inside at)) (leb-false 65535 (length s.file) (sym tells ∙ is_false))

  -- there are as many files as there were
  pub files_in : {view : CoreView S W} (setup : Setup) (words : List ℕ) (seats : List (Seat S W)) (receipts : List Receipt) (events : List Event) (i : ℕ) (s' : Seat S W)
      → core_of setup words seats receipts events ≡ view → length (map (λ (seat : Seat S W). seat.file) (slice_set seats i s')) ≡ length view.files
  files_in setup words seats receipts events i s' is =
      length-map (slice_set seats i s') (λ (seat : Seat S W). seat.file) ∙ length-set seats i s' ∙ sym (length-map seats (λ (seat : Seat S W). seat.file)) ∙ ap (λ (v : CoreView S W). length v.files) is

  -- one more file is counted
  pub one_counted : (seats : List (Seat S W)) (i : ℕ) (s : Seat S W) (so_far more : ℕ) → (so_far ≡ sum_by (λ (seat : Seat S W). length seat.file) (take i seats)) × (so_far ≤ 65535 * i) → i < length seats → s ≡ slice_index_or seats i s
      → more ≡ length s.file → more ≤ 65535 → (so_far + more ≡ sum_by (λ (seat : Seat S W). length seat.file) (take (i + 1) seats)) × (so_far + more ≤ 65535 * (i + 1))
  one_counted seats i s so_far more counted inside at is few =
      let next = sum_by_more (λ (seat : Seat S W). length seat.file) seats i s inside in
      let here = ap (λ (seat : Seat S W). length seat.file) at in
      let sum = counted.0 in
      let most = counted.1 in
      (omega (arith, next, here, sum, is), omega (arith, most, few))

  -- the core with the seat that has the command
  pub submitted_core : (setup : Setup) (words : List ℕ) (seats : List (Seat S W)) (receipts receipts' : List Receipt) (events events' : List Event) (i : ℕ) (s s' : Seat S W) (op : Op)
      → i < length seats → s ≡ slice_index_or seats i s → s'.mech ≡ s.mech → s'.file ≡ s.file ++ op ∷ [] → receipts' ≡ receipts → events' ≡ events
      → core_of setup words (slice_set seats i s') receipts' events' ≡ submitted i op (core_of setup words seats receipts events)
  submitted_core setup words seats receipts receipts' events events' i s s' op inside at mech file rs es =
      rebuilt setup
      (map-set (λ (seat : Seat S W). seat.file) seats i s' ∙ ap (slice_set (map (λ (seat : Seat S W). seat.file) seats) i) (file ∙ ap (λ f. f ++ op ∷ []) (sym (file_is seats i s inside at))))
      refl
      (map-set_same (λ (seat : Seat S W). seat.mech) seats i s' s (mech ∙ ap (λ (seat : Seat S W). seat.mech) at))
      rs es

  -- the core as it was
  pub same_core : (setup : Setup) (words : List ℕ) (seats seats' : List (Seat S W)) (receipts receipts' : List Receipt) (events events' : List Event) → seats' ≡ seats → receipts' ≡ receipts → events' ≡ events
      → core_of setup words seats' receipts' events' ≡ core_of setup words seats receipts events
  same_core setup words seats seats' receipts receipts' events events' ss rs es =
      ap (λ l. core_of setup words l receipts' events') ss ∙ ap (λ r. core_of setup words seats r events') rs ∙ ap (λ e. core_of setup words seats receipts e) es

  begun_at : (seats : List (Seat S W)) (i : ℕ) (s : Seat S W) → HaveBegun seats → i < length seats → s ≡ slice_index_or seats i s → s.mech.number ≤ length s.file
  begun_at [] i s have inside at = absurd (omega (arith, inside))
  begun_at (x ∷ seats) zero s have inside at = subst (λ (y : Seat S W). y.mech.number ≤ length y.file) (sym at) have.0
  begun_at (x ∷ seats) (suc i) s have inside at = begun_at seats i s have.1 (omega (arith, inside)) at

  longer : (s s' : Seat S W) (op : Op) → s'.file ≡ s.file ++ op ∷ [] → length s'.file ≡ length s.file + 1
  longer s s' op file = ap length file ∙ length-append s.file (op ∷ [])

  -- it owes a line more
  more_owed : (s s' : Seat S W) (op : Op) → s'.mech ≡ s.mech → s'.file ≡ s.file ++ op ∷ [] → s.mech.number ≤ length s.file → lines_owed s' ≡ lines_owed s + 1
  more_owed s s' op mech file few =
      let long = longer s s' op file in
      ap (λ (m : Mech S W). length s'.file - m.number + lines_left m.phase) mech ∙ omega (arith, long, few)

  module _ (form : NormalForm S W) (setup : Setup) (opening words : List ℕ) (seats : List (Seat S W)) (lines line_room : ℕ) (events : List Event) (event_room : ℕ) (is : IsCore form setup opening words seats lines line_room events event_room)
      (lines' line_room' : ℕ) (events' : List Event) (event_room' : ℕ) (ls : lines' ≡ lines) (es : events' ≡ events) where
    -- more room does no harm
    pub roomier : (seats' : List (Seat S W)) → seats' ≡ seats → line_room ≤ line_room' → event_room ≤ event_room' → IsCore form setup opening words seats' lines' line_room' events' event_room'
    roomier seats' ss more_lines more_events =
        let all = is.for_all_lines in
        let fits = is.for_events in
        subst (λ l. IsCore form setup opening words l lines' line_room' events' event_room') (sym ss)
        (record {
          opened = is.opened;
          count = is.count;
          begun = is.begun;
          run = subst (IsRun form setup words (map (λ seat. seat.mech) seats)) (sym es) is.run;
          for_lines = subst (λ n. n + sum_by lines_owed seats ≤ sum_by (λ (seat : Seat S W). length seat.file) seats) (sym ls) is.for_lines;
          for_all_lines = omega (arith, all, more_lines);
          for_events = omega (arith, fits, more_events);
        })

    -- with room for one more the core is one with the command
    pub submitted_kept : (i : ℕ) (s s' : Seat S W) (op : Op) → i < length seats → s ≡ slice_index_or seats i s → s'.mech ≡ s.mech → s'.file ≡ s.file ++ op ∷ []
        → sum_by (λ (seat : Seat S W). length seat.file) seats + 1 ≤ line_room' → 4 * (sum_by (λ (seat : Seat S W). length seat.file) seats + 1) ≤ event_room'
        → IsCore form setup opening words (slice_set seats i s') lines' line_room' events' event_room'
    submitted_kept i s s' op inside at mech file for_lines for_events =
        let few = begun_at seats i s is.begun inside at in
        let long = longer s s' op file in
        let owed = more_owed s s' op mech file few in
        let of_lines = owed_set lines_owed seats i s s' inside at in
        let of_files = owed_set (λ (seat : Seat S W). length seat.file) seats i s s' inside at in
        let left = is.for_lines in
        let number = ap (λ (m : Mech S W). m.number) mech in
        record {
          opened = is.opened;
          count = length-set seats i s' ∙ is.count;
          begun = begun_set seats i s' is.begun (omega (arith, few, long, number));
          run = subst (IsRun form setup words (map (λ seat. seat.mech) (slice_set seats i s'))) (sym es)
              (subst (λ ms. IsRun form setup words ms events) (sym (map-set_same (λ (seat : Seat S W). seat.mech) seats i s' s (mech ∙ ap (λ (seat : Seat S W). seat.mech) at))) is.run);
          for_lines = omega (arith, of_lines, of_files, owed, long, left, ls);
          for_all_lines = omega (arith, of_files, long, for_lines);
          for_events = omega (arith, of_files, long, for_events);
        }

  -- ---- whether a seat has a step

  module _ (form : NormalForm S W) (setup : Setup) (words : List ℕ) (seats : List (Seat S W)) (receipts : List Receipt) (events : List Event) (i : ℕ) (s : Seat S W) (inside : i < length seats) (at : s ≡ slice_index_or seats i s) where
    step_by : (over : Bool) → is_over s ≡ over → not over ≡ has_move i (core_of setup words seats receipts events)
    step_by true over = sym (ap is_some (moves_not setup words seats receipts events i s (seat_at seats i s inside at) over))
    step_by false over = sym (ap is_some (moves setup words seats receipts events i s (seat_at seats i s inside at) over))

    turn_by_over : (over : Bool) → is_over s ≡ over → not over ≡ not (is_idle (core_turn form i (core_of setup words seats receipts events)))
    turn_by_over true over = ap (λ t. not (is_idle t)) (over_turn form setup words seats receipts events i s inside at over)
    turn_by_over false over = sym (ap (λ t. not (is_idle t)) (turned_core form setup words seats receipts events i s (seat_at seats i s inside at) over) ∙ ap not (not_idle _))

    pub has_step_moves : not (is_over s) ≡ has_move i (core_of setup words seats receipts events)
    has_step_moves = step_by (is_over s) refl

    pub has_step_turns : not (is_over s) ≡ not (is_idle (core_turn form i (core_of setup words seats receipts events)))
    has_step_turns = turn_by_over (is_over s) refl
