use Rattle.std.proofs.Common.{◌≡◌, ◌*◌, ◌≤◌, length, map, vec_capacity}
use Rattle.generated_files.specs.Generated.{generated_files}
use Rattle.generated_files.specs.Numbers.{number_after}
use Rattle.generated_files.proofs.files.generate.Given as goal

abbrev pub invariant-loop : goal.invariant-loop
invariant-loop l =
    (map (λ file. file.items) l.files.items ≡ generated_files l.client l.seed l.counter l.calls)
    × (length l.files.items ≡ l.counter)
    × (l.numbers.newest ≡ number_after l.seed (3 * (l.counter * l.calls)))
    × (l.seats ≤ vec_capacity l.files)
