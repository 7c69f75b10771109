use Rattle.std.proofs.Common.{◌≡◌, All, length}
use Rattle.lin_report.specs.CommandFiles.{IsCommandFile}
use Rattle.lin_report.specs.Object.{queue_object}
use Rattle.thread_tests.proofs.threads.eight_files.Given as goal

abbrev pub invariant-loop : goal.invariant-loop
invariant-loop l = All (λ f. IsCommandFile queue_object f.items) l.files.items × (length l.files.items ≡ l.counter)
