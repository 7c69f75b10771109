-- A step of a seat in a core is its next move in the run.
use Rattle.std.proofs.Common.{rules, ◌≡◌, ◌∙◌, ◌<◌, ◌++◌, refl, sym, subst, ap, ℕ, Bool, true, false, List, length, slice_get, slice_set, map, Option, Some, None, option_map, is_none, not, slice_index_or, if◌then◌else◌}
use Rattle.lin_report.specs.declared.calls.Op.{Op}
use Rattle.lin_report.specs.declared.calls.Receipt.{Receipt}
use Rattle.lin_report.specs.declared.events.Event.{Event}
use Rattle.step_memory.specs.Step.{seen_of, words_after}
use Rattle.normal_traits.specs.NormalForm.{NormalForm}
use Rattle.fast_slow_engine.specs.declared.setup.Setup.{Setup}
use Rattle.fast_slow_engine.specs.declared.setup.Turn.{Turn}
use Rattle.fast_slow_engine.specs.Events.{step_events}
use Rattle.fast_slow_engine.specs.Mechs.{Mech}
use Rattle.fast_slow_engine.specs.PhaseTable.{mech_fed, mech_request, mech_turn, rests}
use Rattle.fast_slow_engine.specs.Runs.{Move, begun, move_of_seat, move_over, next_move, returned, moved_by, stepped_by}
use Rattle.event_core.specs.declared.cores.CoreTurn.TheVariants.{Idle}
use Rattle.event_core.specs.Seats.{Seat, command_of, is_over}
use Rattle.event_core.specs.Cores.{CoreView, after_move, core_of, core_stepped, core_turn, core_turn_of, turn_after, turn_by}
use Rattle.std.proofs.lemmas.List.{length-map, map-set, set-get_or}
use Rattle.std.proofs.Math.Seq.{map-set_same}
use Rattle.std.proofs.lemmas.Option.{slice_get-map, slice_get-get_or}

its_some : (i : ℕ) (o : Option Op) → is_none o ≡ false → option_map {U = Move} (λ op. record { seat = i; begins = Some op }) o ≡ Some (record { seat = i; begins = o })
its_some i None h = absurd (search rules)
its_some i (Some op) h = refl

its_none : (i : ℕ) (o : Option Op) → is_none o ≡ true → option_map {U = Move} (λ op. record { seat = i; begins = Some op }) o ≡ None
its_none i None h = refl
its_none i (Some op) h = absurd (search rules)

no_command : (b : Bool) (o : Option Op) → (if b then is_none o else false) ≡ true → (if b then o else None) ≡ None
no_command true None h = refl
no_command true (Some op) h = absurd (search rules)
no_command false o h = absurd (search rules)

-- what a seat is by the answer whether it begins a step
pub is_over_by : (b answer : Bool) → answer ≡ not b → answer ≡ false → b ≡ true
is_over_by true answer h k = refl
is_over_by false answer h k = absurd (search rules)

pub not_over_by : (b answer : Bool) → answer ≡ not b → answer ≡ true → b ≡ false
not_over_by false answer h k = refl
not_over_by true answer h k = absurd (search rules)

module _ {S W : Type 0} where
  -- there is a seat for each file
  pub seated : {view : CoreView S W} (setup : Setup) (words : List ℕ) (seats : List (Seat S W)) (receipts : List Receipt) (events : List Event) (i : ℕ)
      → core_of setup words seats receipts events ≡ view → i < length view.files → i < length seats
  seated setup words seats receipts events i is inside =
      subst (λ n. i < n) (length-map seats (λ (seat : Seat S W). seat.file)) (subst (λ (v : CoreView S W). i < length v.files) (sym is) inside)

  move_by : (i : ℕ) (file : List Op) (mech : Mech S W) (b : Bool) → (if b then is_none (slice_get file mech.number) else false) ≡ false
      → move_over i file b mech ≡ Some (record { seat = i; begins = if b then slice_get file mech.number else None })
  move_by i file mech true h = its_some i (slice_get file mech.number) h
  move_by i file mech false h = refl

  none_by : (i : ℕ) (file : List Op) (mech : Mech S W) (b : Bool) → (if b then is_none (slice_get file mech.number) else false) ≡ true → move_over i file b mech ≡ None
  none_by i file mech true h = its_none i (slice_get file mech.number) h
  none_by i file mech false h = absurd (search rules)

  -- the seat at a place of a list
  pub seat_at : (seats : List (Seat S W)) (i : ℕ) (s : Seat S W) → i < length seats → s ≡ slice_index_or seats i s → slice_get seats i ≡ Some s
  seat_at seats i s inside at = slice_get-get_or seats i s inside ∙ ap Some (sym at)

  pub mech_at : (seats : List (Seat S W)) (i : ℕ) (s : Seat S W) → slice_get seats i ≡ Some s → slice_get (map (λ (seat : Seat S W). seat.mech) seats) i ≡ Some s.mech
  mech_at seats i s at = slice_get-map (λ (seat : Seat S W). seat.mech) seats i ∙ ap (option_map (λ (seat : Seat S W). seat.mech)) at

  pub file_at : (seats : List (Seat S W)) (i : ℕ) (s : Seat S W) → slice_get seats i ≡ Some s → slice_get (map (λ (seat : Seat S W). seat.file) seats) i ≡ Some s.file
  file_at seats i s at = slice_get-map (λ (seat : Seat S W). seat.file) seats i ∙ ap (option_map (λ (seat : Seat S W). seat.file)) at

  -- its next move in the run
  pub moves : (setup : Setup) (words : List ℕ) (seats : List (Seat S W)) (receipts : List Receipt) (events : List Event) (i : ℕ) (s : Seat S W) → slice_get seats i ≡ Some s → is_over s ≡ false
      → next_move (core_of setup words seats receipts events).files i (core_of setup words seats receipts events).state ≡ Some (record { seat = i; begins = command_of s })
  moves setup words seats receipts events i s at over =
      ap (λ m. move_of_seat i m (slice_get (map (λ (seat : Seat S W). seat.file) seats) i)) (mech_at seats i s at)
      ∙ ap (move_of_seat i (Some s.mech)) (file_at seats i s at)
      ∙ move_by i s.file s.mech (rests s.mech.phase) over

  pub moves_not : (setup : Setup) (words : List ℕ) (seats : List (Seat S W)) (receipts : List Receipt) (events : List Event) (i : ℕ) (s : Seat S W) → slice_get seats i ≡ Some s → is_over s ≡ true
      → next_move (core_of setup words seats receipts events).files i (core_of setup words seats receipts events).state ≡ None
  moves_not setup words seats receipts events i s at over =
      ap (λ m. move_of_seat i m (slice_get (map (λ (seat : Seat S W). seat.file) seats) i)) (mech_at seats i s at)
      ∙ ap (move_of_seat i (Some s.mech)) (file_at seats i s at)
      ∙ none_by i s.file s.mech (rests s.mech.phase) over

  abbrev pub made : Setup → List (List Op) → List ℕ → List (Mech S W) → List Receipt → List Event → CoreView S W
  made setup files words mechs receipts events = record { setup = setup; files = files; state = record { words = words; mechs = mechs; receipts = receipts; events = events } }

  -- a seat that begins nothing is left as it was
  pub over_stays : (s s1 : Seat S W) → s1.mech ≡ begun (command_of s) s.mech → s1.file ≡ s.file → is_over s ≡ true → s1 ≡ s
  over_stays s s1 m f over =
      let none : command_of s ≡ None = no_command (rests s.mech.phase) (slice_get s.file s.mech.number) over in
      let same : s1.mech ≡ s.mech = m ∙ ap (λ o. begun o s.mech) none in
      ap (λ (k : Mech S W). record { mech = k; file = s1.file }) same ∙ ap (λ (l : List Op). record { mech = s.mech; file = l }) f

  pub put_same : (seats : List (Seat S W)) (i : ℕ) (s s1 : Seat S W) → s ≡ slice_index_or seats i s → s1 ≡ s → slice_set seats i s1 ≡ seats
  put_same seats i s s1 at same = ap (slice_set seats i) (same ∙ at) ∙ set-get_or seats i s

  pub same_files : (seats : List (Seat S W)) (i : ℕ) (s s2 : Seat S W) → s ≡ slice_index_or seats i s → s2.file ≡ s.file
      → map (λ (seat : Seat S W). seat.file) (slice_set seats i s2) ≡ map (λ (seat : Seat S W). seat.file) seats
  same_files seats i s s2 at file = map-set_same (λ (seat : Seat S W). seat.file) seats i s2 s (file ∙ ap (λ (seat : Seat S W). seat.file) at)

  pub rebuilt : (setup : Setup) {files files' : List (List Op)} {words words' : List ℕ} {mechs mechs' : List (Mech S W)} {receipts receipts' : List Receipt} {events events' : List Event}
      → files' ≡ files → words' ≡ words → mechs' ≡ mechs → receipts' ≡ receipts → events' ≡ events
      → made setup files' words' mechs' receipts' events' ≡ made setup files words mechs receipts events
  rebuilt setup {files} {files'} {words} {words'} {mechs} {mechs'} {receipts} {receipts'} {events} {events'} f w m r e =
      ap (λ x. made setup x words' mechs' receipts' events') f ∙ ap (λ x. made setup files x mechs' receipts' events') w
      ∙ ap (λ x. made setup files words x receipts' events') m ∙ ap (λ x. made setup files words mechs x events') r
      ∙ ap (λ x. made setup files words mechs receipts x) e

  module _ (form : NormalForm S W) where
    -- the run after a step, and the answer of the step, by the machine that makes it
    stepped_core : (setup : Setup) (words : List ℕ) (seats : List (Seat S W)) (receipts : List Receipt) (events : List Event) (i : ℕ) (s : Seat S W) → slice_get seats i ≡ Some s → is_over s ≡ false
        → core_stepped form i (core_of setup words seats receipts events)
        ≡ record { setup = setup; files = map (λ seat. seat.file) seats; state = stepped_by form i (begun (command_of s) s.mech) (core_of setup words seats receipts events).state }
    stepped_core setup words seats receipts events i s at over =
        let view = core_of setup words seats receipts events in
        ap (λ m. record { setup = setup; files = map (λ (seat : Seat S W). seat.file) seats; state = after_move form m view.state }) (moves setup words seats receipts events i s at over)
        ∙ ap (λ o. record { setup = setup; files = map (λ (seat : Seat S W). seat.file) seats; state = moved_by form o (record { seat = i; begins = command_of s }) view.state }) (mech_at seats i s at)

    pub turned_core : (setup : Setup) (words : List ℕ) (seats : List (Seat S W)) (receipts : List Receipt) (events : List Event) (i : ℕ) (s : Seat S W) → slice_get seats i ≡ Some s → is_over s ≡ false
        → core_turn form i (core_of setup words seats receipts events)
        ≡ core_turn_of (mech_turn (begun (command_of s) s.mech) (seen_of (mech_request form (begun (command_of s) s.mech)) words))
    turned_core setup words seats receipts events i s at over =
        let view = core_of setup words seats receipts events in
        ap (λ m. turn_after form m view.state) (moves setup words seats receipts events i s at over)
        ∙ ap (λ o. turn_by form o (record { seat = i; begins = command_of s }) view.state) (mech_at seats i s at)

    -- where the seat is over, nothing changes
    pub over_core : (setup : Setup) (words : List ℕ) (seats : List (Seat S W)) (receipts : List Receipt) (events : List Event) (i : ℕ) (s s1 : Seat S W)
        → i < length seats → s ≡ slice_index_or seats i s → s1.mech ≡ begun (command_of s) s.mech → s1.file ≡ s.file → is_over s ≡ true
        → core_of setup words (slice_set seats i s1) receipts events ≡ core_stepped form i (core_of setup words seats receipts events)
    over_core setup words seats receipts events i s s1 inside at m f over =
        let view = core_of setup words seats receipts events in
        ap (λ l. core_of setup words l receipts events) (put_same seats i s s1 at (over_stays s s1 m f over))
        ∙ sym (ap (λ m. record { setup = setup; files = view.files; state = after_move form m view.state }) (moves_not setup words seats receipts events i s (seat_at seats i s inside at) over))

    pub over_turn : (setup : Setup) (words : List ℕ) (seats : List (Seat S W)) (receipts : List Receipt) (events : List Event) (i : ℕ) (s : Seat S W)
        → i < length seats → s ≡ slice_index_or seats i s → is_over s ≡ true → Idle ≡ core_turn form i (core_of setup words seats receipts events)
    over_turn setup words seats receipts events i s inside at over =
        sym (ap (λ m. turn_after form m (core_of setup words seats receipts events).state) (moves_not setup words seats receipts events i s (seat_at seats i s inside at) over))

    -- where it isn't, its machine makes the step
    pub next_core : (setup : Setup) (words words' : List ℕ) (seats : List (Seat S W)) (receipts receipts' : List Receipt) (events events' : List Event) (i : ℕ) (s s1 s2 : Seat S W) (t : Turn)
        → i < length seats → s ≡ slice_index_or seats i s → s1.mech ≡ begun (command_of s) s.mech → s1.file ≡ s.file → is_over s ≡ false
        → words' ≡ words_after (mech_request form s1.mech) words
        → s2.mech ≡ mech_fed form s1.mech (seen_of (mech_request form s1.mech) words) → s2.file ≡ s1.file
        → t ≡ mech_turn s1.mech (seen_of (mech_request form s1.mech) words)
        → receipts' ≡ receipts ++ returned t → events' ≡ events ++ step_events s1.mech words words'
        → core_of setup words' (slice_set seats i s2) receipts' events' ≡ core_stepped form i (core_of setup words seats receipts events)
    next_core setup words words' seats receipts receipts' events events' i s s1 s2 t inside at m f over w m2 f2 ht rs es =
        let by = begun (command_of s) s.mech in
        let seen = seen_of (mech_request form by) words in
        let mech : s2.mech ≡ mech_fed form by seen = m2 ∙ ap (λ k. mech_fed form k (seen_of (mech_request form k) words)) m in
        rebuilt setup
        (same_files seats i s s2 at (f2 ∙ f))
        (w ∙ ap (λ k. words_after (mech_request form k) words) m)
        (map-set (λ (seat : Seat S W). seat.mech) seats i s2 ∙ ap (slice_set (map (λ (seat : Seat S W). seat.mech) seats) i) mech)
        (rs ∙ ap (λ r. receipts ++ returned r) (ht ∙ ap (λ k. mech_turn k (seen_of (mech_request form k) words)) m))
        (es ∙ ap (λ ws. events ++ step_events s1.mech words ws) w ∙ ap (λ k. events ++ step_events k words (words_after (mech_request form k) words)) m)
        ∙ sym (stepped_core setup words seats receipts events i s (seat_at seats i s inside at) over)

    pub next_turn : (setup : Setup) (words : List ℕ) (seats : List (Seat S W)) (receipts : List Receipt) (events : List Event) (i : ℕ) (s s1 : Seat S W) (t : Turn)
        → i < length seats → s ≡ slice_index_or seats i s → s1.mech ≡ begun (command_of s) s.mech → is_over s ≡ false
        → t ≡ mech_turn s1.mech (seen_of (mech_request form s1.mech) words)
        → core_turn_of t ≡ core_turn form i (core_of setup words seats receipts events)
    next_turn setup words seats receipts events i s s1 t inside at m over ht =
        ap core_turn_of ht
        ∙ ap (λ k. core_turn_of (mech_turn k (seen_of (mech_request form k) words))) m
        ∙ sym (turned_core setup words seats receipts events i s (seat_at seats i s inside at) over)
