use Rattle.std.proofs.Common.{◌≡◌, ℕ, ◌+◌, ◌-◌, ◌<◌, ◌≤◌, length, slice_index_or, vec_capacity}
use Rattle.thread_runs.specs.Placed.{root_view}
use Rattle.handles.specs.Opening.{IsNewHandle}
use Rattle.handles.proofs.opening.split_all.Given as goal

-- the handles of the seats below this one are split off, in their order
abbrev pub invariant-loop-seat : goal.invariant-loop-seat
invariant-loop-seat g l =
    (l.first.table ≡ l.shared.table)
    × (l.first.view ≡ root_view l.setup (l.seat - 1))
    × (length l.others.items + 1 ≡ l.seat)
    × (l.setup.seats ≤ vec_capacity l.others)
    × ((j : ℕ) (d : _) → j < length l.others.items → IsNewHandle l.shared (j + 1) (slice_index_or l.others.items j d))
