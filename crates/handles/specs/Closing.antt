-- The calls that were made through all handles, once they were taken into one.
use Rattle.std.specs.Prelude.{ℕ, zero, suc, List, [], ◌++◌, map}
use Rattle.std.specs.List.{range_with_len}
use Rattle.lin_report.specs.declared.calls.Op.{Op}
use Rattle.lin_report.specs.declared.calls.Receipt.{Receipt}
use Rattle.move_orders.specs.SeatLines.{ops_of}
use Rattle.shared_memory.specs.declared.view.View.{View}
use Rattle.shared_memory.specs.Closing.{lines_in}

module _ {C S W : Type 0} where
  -- the lines that a view has of the first seats, so many, from the last of them down to seat 0
  abbrev pub lines_down_in : View C S W → ℕ → List Receipt
  lines_down_in view zero = []
  lines_down_in view (suc seats) = lines_in view seats ++ lines_down_in view seats

  -- the lines of all seats
  abbrev pub all_lines : View C S W → List Receipt
  all_lines view = lines_down_in view view.machine.setup.seats

  -- for each seat the operations of its calls, as a command file would name them
  abbrev pub files_in : View C S W → List (List Op)
  files_in view = map (λ seat. ops_of (lines_in view seat)) (range_with_len 0 view.machine.setup.seats)
