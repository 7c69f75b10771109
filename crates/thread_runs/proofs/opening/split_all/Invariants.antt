use Rattle.std.proofs.Common.{◌≡◌, ℕ, ◌+◌, ◌-◌, ◌<◌, ◌≤◌, length, slice_index_or, vec_capacity, false}
use Rattle.shared_memory.specs.Views.{new_view}
use Rattle.thread_runs.specs.Placed.{IsPlaced, root_view}
use Rattle.thread_runs.proofs.opening.split_all.Given as goal

-- the ports below this seat are split off, each in its worker; the files of seat 0 and of those that are left
-- are still there
abbrev pub invariant-loop-seat : goal.invariant-loop-seat
invariant-loop-seat g l =
    (l.root.table ≡ l.shared.table)
    × (l.root.view ≡ root_view l.setup (l.seat - 1))
    × (length l.workers.items + 1 ≡ l.seat)
    × (length l.fn.files.items ≤ vec_capacity l.workers)
    × ((j : ℕ) (d : _) (e : _) → j < length l.workers.items → IsPlaced g.C.Normalized.form.object l.shared.table (new_view (j + 1) l.setup false) (slice_index_or l.fn.files.items (j + 1) e).items (slice_index_or l.workers.items j d))
    × (length l.files.items ≡ length l.fn.files.items)
    × ((k : ℕ) (e : _) → l.seat ≤ k → slice_index_or l.files.items k e ≡ slice_index_or l.fn.files.items k e)
    × ((e : _) → slice_index_or l.files.items 0 e ≡ slice_index_or l.fn.files.items 0 e)
