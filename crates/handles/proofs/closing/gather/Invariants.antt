use Rattle.std.proofs.Common.{◌≡◌, List, ◌∷◌, ◌++◌}
use Rattle.shared_memory.specs.Views.{Face}
use Rattle.handles.specs.Handles.{taken_in}
use Rattle.handles.proofs.closing.gather.Given as goal

-- the handles behind those that are left were taken in
abbrev pub invariant-loop-other : goal.invariant-loop-other
invariant-loop-other g l =
    (l.taker.table ≡ l.shared.table)
    × ((next : Face g.row.C.Denot g.row.C-Search.Denot g.row.C-Wrap.Denot) × (rest : List (Face g.row.C.Denot g.row.C-Search.Denot g.row.C-Wrap.Denot)) × (l.fn.handles.items ≡ l.handles.items ++ next ∷ rest) × (l.taker.view ≡ taken_in (next ∷ rest)))

abbrev pub decreases-loop-other : goal.decreases-loop-other
decreases-loop-other g l = goal.left-loop-other g l
