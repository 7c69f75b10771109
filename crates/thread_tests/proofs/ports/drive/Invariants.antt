use Rattle.std.proofs.Common.{◌≡◌}
use Rattle.thread_tests.specs.Driven.{Stays}
use Rattle.thread_tests.proofs.ports.drive.Given as goal

abbrev pub invariant-loop : goal.invariant-loop
invariant-loop l = (l.port.table ≡ l.shared.table) × (l.machine ≡ l.port.view.machine) × Stays l.fn.port.view l.port.view
