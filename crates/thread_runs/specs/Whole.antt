-- What a whole run says.
use Rattle.std.specs.Prelude.{◌≡◌, ℕ, ◌-◌, ◌<◌, true, List, [], length, slice_index, slice_index_or}
use Rattle.lin_report.specs.declared.calls.Op.{Op}
use Rattle.lin_report.specs.declared.calls.Receipt.{Receipt}
use Rattle.node_arena.specs.declared.places.TheConstants.{TICKS, CLAIMS}
use Rattle.normal_traits.specs.NormalForm.{NormalForm}
use Rattle.fast_slow_engine.specs.declared.setup.Setup.{Setup}
use Rattle.fast_slow_engine.specs.PhaseTable.{rests}
use Rattle.fast_slow_engine.specs.Runs.{Move, AreMoves, run_of}
use Rattle.run_laws.specs.Seats.{EachMech}
use Rattle.move_orders.specs.SeatLines.{lines_down, lines_of, ops_of}
use Rattle.shared_memory.specs.Rule.{Rests}

-- some moves that can follow each other leave these two counters, no call runs after them, those of each seat were
-- the commands of its file, and these are their lines, seat by seat from the last one to the first
pub record IsRun {S W : Type 0} (form : NormalForm S W) (setup : Setup) (files : List (List Op)) (lines : List Receipt) (ticks claimed : ℕ) : Type 0 where
  pub moves : List Move
  pub are : AreMoves form setup moves
  pub drawn : slice_index (run_of form setup moves).words TICKS ≡ ticks
  pub asked : slice_index (run_of form setup moves).words CLAIMS ≡ claimed
  pub idle : EachMech (λ seat mech. rests mech.phase ≡ true) (run_of form setup moves).mechs
  pub ops : (seat : ℕ) → seat < setup.seats → ops_of (lines_of seat (run_of form setup moves).receipts) ≡ slice_index_or files seat []
  pub same : lines ≡ lines_down setup.seats (run_of form setup moves).receipts

-- the lines of a seat among those of all, which stand from the last seat down
abbrev pub lines_at : List (List Receipt) → ℕ → ℕ → List Receipt
lines_at all seats seat = slice_index_or all (seats - 1 - seat) []

-- the same, with the lines of each seat for themselves
pub record IsRunBySeats {S W : Type 0} (form : NormalForm S W) (setup : Setup) (files : List (List Op)) (all : List (List Receipt)) (ticks claimed : ℕ) : Type 0 where
  pub moves : List Move
  pub are : AreMoves form setup moves
  pub drawn : slice_index (run_of form setup moves).words TICKS ≡ ticks
  pub asked : slice_index (run_of form setup moves).words CLAIMS ≡ claimed
  pub count : length all ≡ setup.seats
  pub rest : (seat : ℕ) → seat < setup.seats → Rests (run_of form setup moves) seat (lines_at all setup.seats seat)
  pub ops : (seat : ℕ) → seat < setup.seats → ops_of (lines_at all setup.seats seat) ≡ slice_index_or files seat []
