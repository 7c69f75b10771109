-- The tick counter: the ticks of a run are drawn once each.
use Rattle.std.specs.Prelude.{◌≡◌, ℕ, ◌==◌, nat_lt, if◌then◌else◌, count_by, filter, Bool, true, false, List, [], ◌∷◌, length, slice_get, slice_index, Some}
use Rattle.lin_report.specs.Report.{ticks_of}
use Rattle.step_memory.specs.declared.steps.Request.{Request}
use Rattle.step_memory.specs.Step.{words_after}
use Rattle.node_arena.specs.declared.places.TheConstants.{TICKS}
use Rattle.normal_traits.specs.NormalForm.{NormalForm}
use Rattle.fast_slow_engine.specs.declared.phases.Phase.{Phase}
use Rattle.fast_slow_engine.specs.declared.phases.Phase.TheVariants as phase
use Rattle.fast_slow_engine.specs.declared.setup.Setup.{Setup}
use Rattle.fast_slow_engine.specs.Mechs.{Mech}
use Rattle.fast_slow_engine.specs.Events.{is_tick}
use Rattle.fast_slow_engine.specs.PhaseTable.{mech_request}
use Rattle.fast_slow_engine.specs.Runs.{Move, RunState, AreMoves, begun, run_of}
use Rattle.fast_slow_engine.specs.Reports.{report_of_run}

-- the request leaves the word at the place as it was
abbrev pub LeavesWord : ℕ → Request → List ℕ → Type 0
LeavesWord place request words = slice_index (words_after request words) place ≡ slice_index words place

-- whether the next step draws a tick
abbrev pub draws_tick : {S W : Type 0} → Phase S W → Bool
draws_tick phase.Begin = true
draws_tick (phase.End reply) = true
draws_tick _ = false

-- each tick below the counter is that of one begin or return of the report, and no other tick is
pub record HasTicksOnce {S W : Type 0} (state : RunState S W) : Type 0 where
  pub count : length (ticks_of (report_of_run state)) ≡ slice_index state.words TICKS
  pub once : (t : ℕ) → count_by (λ tick. tick == t) (ticks_of (report_of_run state)) ≡ (if nat_lt t (slice_index state.words TICKS) then 1 else 0)

module _ {S W : Type 0} (form : NormalForm S W) where
  -- the move leaves the tick counter as it was, unless it draws a tick
  abbrev pub MoveKeepsTicks : RunState S W → Move → Type 0
  MoveKeepsTicks state move =
      (mech : Mech S W) → slice_get state.mechs move.seat ≡ Some mech → draws_tick (begun move.begins mech).phase ≡ false
      → LeavesWord TICKS (mech_request form (begun move.begins mech)) state.words

  -- every move does; the premise of the laws of ticks, which the client's laws meet
  abbrev pub KeepsTicks : Setup → List Move → Type 0
  KeepsTicks setup [] = Unit {0}
  KeepsTicks setup (move ∷ older) = KeepsTicks setup older × MoveKeepsTicks (run_of form setup older) move

  -- the tick counter is the number of begins and returns among the events
  abbrev pub TicksCount : Type 0
  TicksCount =
      (setup : Setup) (moves : List Move) → AreMoves form setup moves → KeepsTicks setup moves
      → slice_index (run_of form setup moves).words TICKS ≡ length (filter (λ event. is_tick event.kind) (run_of form setup moves).events)

  -- the ticks of a run are drawn once each
  abbrev pub TicksOnce : Type 0
  TicksOnce = (setup : Setup) (moves : List Move) → AreMoves form setup moves → KeepsTicks setup moves → HasTicksOnce (run_of form setup moves)
