use Rattle.std.proofs.Common.{◌≡◌, ◌≤◌, length, take, vec_capacity}
use Rattle.move_orders.specs.SeatLines.{ops_of}
use Rattle.thread_runs.specs.Work.{RestsIn}
use Rattle.thread_runs.proofs.worker.work.Given as goal

abbrev pub invariant-loop-i : goal.invariant-loop-i
invariant-loop-i g l =
    (l.worker.port.table ≡ l.fn.worker.port.table)
    × (l.worker.commands ≡ l.fn.worker.commands)
    × RestsIn l.worker.port.view l.worker.machine
    × (l.worker.machine.number ≡ l.i)
    × (length l.worker.receipts.items ≡ l.i)
    × (length l.fn.worker.commands.items ≤ vec_capacity l.worker.receipts)
    × (ops_of l.worker.receipts.items ≡ take l.i l.fn.worker.commands.items)
    × (l.worker.port.view ≡ record l.fn.worker.port.view { machine = l.worker.machine; receipts = l.worker.receipts.items })
    × (l.worker.machine.seat ≡ l.fn.worker.port.view.machine.seat)
    × (l.worker.machine.setup ≡ l.fn.worker.port.view.machine.setup)
