-- The calls that were made through the handles of a structure, that of seat i at place i.
use Rattle.std.specs.Prelude.{List, [], ◌∷◌, ◌++◌, map}
use Rattle.lin_report.specs.declared.calls.Op.{Op}
use Rattle.lin_report.specs.declared.calls.Receipt.{Receipt}
use Rattle.move_orders.specs.SeatLines.{ops_of}
use Rattle.shared_memory.specs.declared.view.View.{View}
use Rattle.shared_memory.specs.Views.{Face, glued, spent_view}

module _ {C S W : Type 0} where
  -- for each handle the operations of its calls, as a command file would name them
  abbrev pub files_of : List (Face C S W) → List (List Op)
  files_of handles = map (λ handle. ops_of handle.view.receipts) handles

  -- the lines of all handles, from the last one to the first
  abbrev pub lines_of_all : List (Face C S W) → List Receipt
  lines_of_all [] = []
  lines_of_all (handle ∷ handles) = lines_of_all handles ++ handle.view.receipts

  -- the view of the last handle, once it has taken in the others from the last to the first
  abbrev pub taken_in : List (Face C S W) → View C S W
  taken_in [] = spent_view
  taken_in (handle ∷ []) = handle.view
  taken_in (handle ∷ next ∷ handles) = glued (taken_in (next ∷ handles)) handle.view
