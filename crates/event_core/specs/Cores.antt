-- A run over command files, as a core holds it, and what a step of a seat makes of it.
use Rattle.std.specs.Prelude.{◌≡◌, ℕ, ◌+◌, ◌*◌, ◌≤◌, List, [], ◌∷◌, map, length, sum_by, slice_get, Bool, false, Option, Some, None}
use Rattle.lin_report.specs.declared.calls.Op.{Op}
use Rattle.lin_report.specs.declared.calls.Receipt.{Receipt}
use Rattle.lin_report.specs.declared.events.Event.{Event}
use Rattle.step_memory.specs.Step.{seen_of}
use Rattle.node_arena.specs.Opening.{opening_words}
use Rattle.normal_traits.specs.NormalForm.{NormalForm}
use Rattle.fast_slow_engine.specs.declared.setup.Setup.{Setup}
use Rattle.fast_slow_engine.specs.declared.setup.Turn.{Turn}
use Rattle.fast_slow_engine.specs.declared.setup.Turn.TheVariants as turn
use Rattle.fast_slow_engine.specs.Mechs.{Mech}
use Rattle.fast_slow_engine.specs.PhaseTable.{lists, mech_new, mech_request, mech_turn}
use Rattle.fast_slow_engine.specs.Runs.{Move, RunState, AreMoves, begun, next_move, opening_run, run_of, run_step}
use Rattle.event_core.specs.declared.cores.CoreTurn.{CoreTurn}
use Rattle.event_core.specs.declared.cores.CoreTurn.TheVariants.{Idle, Going, Returned}
use Rattle.event_core.specs.Seats.{Seat, lines_owed}

-- a run with its command files, one for each seat
pub record CoreView (S W : Type 0) : Type 0 where
  pub setup : Setup
  pub files : List (List Op)
  pub state : RunState S W

-- the run of these seats
abbrev pub core_of : {S W : Type 0} → Setup → List ℕ → List (Seat S W) → List Receipt → List Event → CoreView S W
core_of setup words seats receipts events =
    record { setup = setup; files = map (λ seat. seat.file) seats; state = record { words = words; mechs = map (λ seat. seat.mech) seats; receipts = receipts; events = events } }

-- some moves lead to these words and machines, and these are their events
pub record IsRun {S W : Type 0} (form : NormalForm S W) (setup : Setup) (words : List ℕ) (mechs : List (Mech S W)) (events : List Event) : Type 0 where
  pub moves : List Move
  pub are : AreMoves form setup moves
  pub words_are : (run_of form setup moves).words ≡ words
  pub mechs_are : (run_of form setup moves).mechs ≡ mechs
  pub events_are : (run_of form setup moves).events ≡ events

-- no seat has begun more calls than its file has commands
abbrev pub HaveBegun : {S W : Type 0} → List (Seat S W) → Type 0
HaveBegun [] = Unit {0}
HaveBegun (seat ∷ seats) = (seat.mech.number ≤ length seat.file) × HaveBegun seats

-- what a core keeps: the words with which a run over one block opens, since behind them every opening has zeros; a seat
-- for each of the setup; the run that it holds; no more lines, with those that the seats still owe, than there are
-- commands; and, of each command, room for a line and for four events
pub record IsCore {S W : Type 0} (form : NormalForm S W) (setup : Setup) (opening words : List ℕ) (seats : List (Seat S W)) (lines line_room : ℕ) (events : List Event) (event_room : ℕ) : Type 0 where
  pub opened : opening ≡ opening_words form.opening 1
  pub count : length seats ≡ setup.seats
  pub begun : HaveBegun seats
  pub run : IsRun form setup words (map (λ seat. seat.mech) seats) events
  pub for_lines : lines + sum_by lines_owed seats ≤ sum_by (λ seat. length seat.file) seats
  pub for_all_lines : sum_by (λ seat. length seat.file) seats ≤ line_room
  pub for_events : 4 * sum_by (λ seat. length seat.file) seats ≤ event_room

-- after the move of a seat, where it has one
abbrev pub after_move : {S W : Type 0} → NormalForm S W → Option Move → RunState S W → RunState S W
after_move form None state = state
after_move form (Some move) state = run_step form state move

-- what a step of a seat leaves
abbrev pub core_stepped : {S W : Type 0} → NormalForm S W → ℕ → CoreView S W → CoreView S W
core_stepped form seat view = record { setup = view.setup; files = view.files; state = after_move form (next_move view.files seat view.state) view.state }

-- what a turn of a machine is to the core
abbrev pub core_turn_of : Turn → CoreTurn
core_turn_of turn.Going = Going
core_turn_of (turn.Returned receipt) = Returned

abbrev pub turn_by : {S W : Type 0} → NormalForm S W → Option (Mech S W) → Move → RunState S W → CoreTurn
turn_by form None move state = Idle
turn_by form (Some mech) move state = core_turn_of (mech_turn (begun move.begins mech) (seen_of (mech_request form (begun move.begins mech)) state.words))

abbrev pub turn_after : {S W : Type 0} → NormalForm S W → Option Move → RunState S W → CoreTurn
turn_after form None state = Idle
turn_after form (Some move) state = turn_by form (slice_get state.mechs move.seat) move state

-- what a step of a seat answers: Idle where it has no move, Returned where its call ends
abbrev pub core_turn : {S W : Type 0} → NormalForm S W → ℕ → CoreView S W → CoreTurn
core_turn form seat view = turn_after form (next_move view.files seat view.state) view.state

-- whether the next request of a seat is the exchange of an entry of a list
abbrev pub lists_in : {S W : Type 0} → Option (Mech S W) → Bool
lists_in None = false
lists_in (Some mech) = lists mech.phase

abbrev pub next_listed : {S W : Type 0} → ℕ → CoreView S W → Bool
next_listed seat view = lists_in (slice_get view.state.mechs seat)

-- a run of these files that made no step
abbrev pub core_new : {S W : Type 0} → NormalForm S W → Setup → List (List Op) → CoreView S W
core_new form setup files = record { setup = setup; files = files; state = opening_run form setup }

-- seats from a number on that made no call, one for each file
abbrev pub new_seats : {S W : Type 0} → Setup → ℕ → List (List Op) → List (Seat S W)
new_seats setup seat [] = []
new_seats setup seat (file ∷ files) = record { mech = mech_new seat setup; file = file } ∷ new_seats setup (seat + 1) files

-- the run with other lines
abbrev pub with_receipts : {S W : Type 0} → List Receipt → CoreView S W → CoreView S W
with_receipts receipts view = record view { state = record view.state { receipts = receipts } }
