use Rattle.std.proofs.Common.{◌≡◌}
use Rattle.thread_tests.specs.Driven.{Stays}
use Rattle.thread_tests.proofs.ports.alternate.Given as goal

abbrev pub invariant-loop : goal.invariant-loop
invariant-loop l =
    (l.first.table ≡ l.shared.table)
    × (l.second.table ≡ l.shared.table)
    × (l.one ≡ l.first.view.machine)
    × (l.two ≡ l.second.view.machine)
    × Stays l.fn.first.view l.first.view
    × Stays l.fn.second.view l.second.view
