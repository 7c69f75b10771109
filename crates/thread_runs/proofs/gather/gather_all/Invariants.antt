use Rattle.std.proofs.Common.{◌≡◌, ℕ, ◌+◌, ◌-◌, ◌<◌, ◌≤◌, length, map, slice_index_or, vec_capacity, false, true, []}
use Rattle.fast_slow_engine.specs.PhaseTable.{rests}
use Rattle.shared_memory.specs.Views.{new_view}
use Rattle.thread_runs.specs.Placed.{HasPort, gathers, root_view}
use Rattle.thread_runs.proofs.gather.gather_all.Given as goal

abbrev pub invariant-loop-other : goal.invariant-loop-other
invariant-loop-other g l =
    (l.port.table ≡ l.shared.table)
    × (length l.rooms.items + length l.workers.items + 1 ≡ length l.fn.workers.items)
    × (length l.fn.workers.items ≤ vec_capacity l.rooms)
    × (rests l.port.view.machine.phase ≡ true)
    × (l.port.view ≡ record (root_view l.shared.setup (length l.fn.workers.items - 1)) { machine = l.port.view.machine; receipts = l.first.items; gathered = gathers (length l.fn.workers.items) (map (λ v. v.items) l.rooms.items) })
    × ((j : ℕ) (d : _) → j < length l.workers.items → HasPort l.shared.table (new_view (j + 1) l.shared.setup false) (slice_index_or l.workers.items j d))
    × (l.port.view.machine.seat ≡ 0)
    × (l.port.view.machine.setup ≡ l.shared.setup)
    × ((j : ℕ) (d : _) → j < length l.workers.items → slice_index_or l.workers.items j d ≡ slice_index_or l.fn.workers.items j d)
    × ((i : ℕ) (d : _) → i < length l.rooms.items → slice_index_or (map (λ v. v.items) l.rooms.items) i [] ≡ (slice_index_or l.fn.workers.items (length l.fn.workers.items - 2 - i) d).receipts.items)
    × ((d : _) → l.first.items ≡ (slice_index_or l.fn.workers.items (length l.fn.workers.items - 1) d).receipts.items)

abbrev pub decreases-loop-other : goal.decreases-loop-other
decreases-loop-other g l = goal.left-loop-other g l
