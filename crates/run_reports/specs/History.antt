-- How the calls of a run stand to its changes, and its ticks to its moments.
use Rattle.std.specs.Prelude.{◌≡◌, ◌≢◌, ℕ, ◌<◌, List, ◌++◌, length, slice_index, All, AllPairs}
use Rattle.node_arena.specs.declared.places.TheConstants.{TICKS}
use Rattle.normal_traits.specs.World.{Change}
use Rattle.normal_traits.specs.NormalForm.{NormalForm}
use Rattle.fast_slow_engine.specs.declared.setup.Setup.{Setup}
use Rattle.fast_slow_engine.specs.Runs.{Move, AreMoves, run_of}
use Rattle.fast_slow_engine.specs.Reports.{report_of_run}
use Rattle.move_kinds.specs.Moves.{Grows}
use Rattle.placing_law.specs.Placing.{IsPlaced}
use Rattle.run_laws.specs.Drawn.{IsDrawnAt}
use Rattle.run_exchanges.specs.RunGhosts.{ghost_of, world_of}
use Rattle.run_reports.specs.Changes.{changes_at}
use Rattle.run_reports.specs.Endings.{HasEnded}
use Rattle.run_reports.specs.Placed.{history_of}

module _ {S W : Type 0} (form : NormalForm S W) where
  -- each answered call made a change while it ran, or observed while it ran and made none, or was left no block and
  -- made none
  abbrev pub CallsEnded : Setup → List Move → Type 0
  CallsEnded setup moves = All (HasEnded form setup moves) (run_of form setup moves).receipts

  -- no call made two changes
  abbrev pub ChangedOnce : Setup → List Move → Type 0
  ChangedOnce setup moves = AllPairs (λ (change mate : Change). change.list.call ≢ mate.list.call) (ghost_of form setup moves).changes

  -- the changes are a history in which the calls of the report are placed: each was made by one of them while it ran
  abbrev pub CallsPlaced : Setup → List Move → Type 0
  CallsPlaced setup moves =
      IsPlaced form.object (history_of (ghost_of form setup moves).changes) (changes_at form setup moves) (report_of_run (run_of form setup moves))

  -- each tick below the counter was drawn by a move
  abbrev pub TicksDrawn : Setup → List Move → Type 0
  TicksDrawn setup moves =
      (tick : ℕ) → tick < slice_index (run_of form setup moves).words TICKS → (move : Move) × (older : List Move) × IsDrawnAt form setup moves tick move older

  -- the count of changes at a tick is how many there were when it was drawn
  abbrev pub TicksCounted : Setup → List Move → Type 0
  TicksCounted setup moves =
      (tick : ℕ) (move : Move) (older : List Move) → IsDrawnAt form setup moves tick move older → changes_at form setup moves tick ≡ length (ghost_of form setup older).changes

  -- changes and won exchanges only come in front, so those of each earlier moment are the oldest of the run
  abbrev pub BeginsEarlier : Setup → List Move → Type 0
  BeginsEarlier setup moves = (newer older : List Move) → moves ≡ newer ++ older → Grows (world_of form setup older) (world_of form setup moves)

  -- the history of a run
  pub record HasHistory (setup : Setup) (moves : List Move) : Type 0 where
    pub ended : CallsEnded setup moves
    pub changed_once : ChangedOnce setup moves
    pub placed : CallsPlaced setup moves
    pub drawn : TicksDrawn setup moves
    pub counted : TicksCounted setup moves
    pub earlier : BeginsEarlier setup moves

  -- what holds after any moves that can follow each other
  abbrev pub OfRuns : (Setup → List Move → Type 0) → Type 0
  OfRuns P = (setup : Setup) (moves : List Move) → AreMoves form setup moves → P setup moves

  -- so each of these does
  abbrev pub EachCallEnded : Type 0
  EachCallEnded = OfRuns CallsEnded

  abbrev pub NoneChangedTwice : Type 0
  NoneChangedTwice = OfRuns ChangedOnce

  abbrev pub EachCallPlaced : Type 0
  EachCallPlaced = OfRuns CallsPlaced

  abbrev pub EachTickDrawn : Type 0
  EachTickDrawn = OfRuns TicksDrawn

  abbrev pub EachTickCounted : Type 0
  EachTickCounted = OfRuns TicksCounted

  -- for this no move has to be one that can follow
  abbrev pub HistoryGrows : Type 0
  HistoryGrows = (setup : Setup) (moves : List Move) → BeginsEarlier setup moves
