-- The lines of a run, told apart by their seats.
use Rattle.std.specs.Prelude.{◌≡◌, ℕ, zero, suc, ◌==◌, if◌then◌else◌, true, List, [], ◌∷◌, ◌++◌, map, slice_get, Some, IsPermutation}
use Rattle.lin_report.specs.declared.calls.Op.{Op}
use Rattle.lin_report.specs.declared.calls.Receipt.{Receipt}
use Rattle.normal_traits.specs.NormalForm.{NormalForm}
use Rattle.fast_slow_engine.specs.declared.setup.Setup.{Setup}
use Rattle.fast_slow_engine.specs.Mechs.{Mech}
use Rattle.fast_slow_engine.specs.PhaseTable.{rests}
use Rattle.fast_slow_engine.specs.Runs.{Move, AreMoves, run_of}
use Rattle.move_orders.specs.Orders.{begun_at}

-- the lines of one seat, in order
abbrev pub lines_of : ℕ → List Receipt → List Receipt
lines_of seat [] = []
lines_of seat (line ∷ lines) = if line.seat == seat then line ∷ lines_of seat lines else lines_of seat lines

-- the lines of the first seats, so many, put down seat by seat from the last one to the first
abbrev pub lines_down : ℕ → List Receipt → List Receipt
lines_down zero lines = []
lines_down (suc seats) lines = lines_of seats lines ++ lines_down seats lines

-- the operations of lines
abbrev pub ops_of : List Receipt → List Op
ops_of lines = map (λ (line : Receipt). line.op) lines

module _ {S W : Type 0} (form : NormalForm S W) where
  -- the lines of a seat at rest are of the commands that it has begun
  abbrev pub LinesTell : Type 0
  LinesTell =
      (setup : Setup) (moves : List Move) (seat : ℕ) (mech : Mech S W) → AreMoves form setup moves → slice_get (run_of form setup moves).mechs seat ≡ Some mech → rests mech.phase ≡ true
      → ops_of (lines_of seat (run_of form setup moves).receipts) ≡ begun_at moves seat

  -- the lines of a run are those of its seats in another order
  abbrev pub LinesGather : Type 0
  LinesGather = (setup : Setup) (moves : List Move) → AreMoves form setup moves → IsPermutation (run_of form setup moves).receipts (lines_down setup.seats (run_of form setup moves).receipts)
