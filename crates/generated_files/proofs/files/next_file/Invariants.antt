use Rattle.std.proofs.Common.{◌≡◌, ◌*◌, ◌≤◌, length, vec_capacity}
use Rattle.generated_files.specs.Generated.{file_after}
use Rattle.generated_files.specs.Numbers.{number_after}
use Rattle.generated_files.proofs.files.next_file.Given as goal

abbrev pub invariant-loop : goal.invariant-loop
invariant-loop l =
    (l.file.items ≡ file_after l.client l.fn.numbers.newest l.counter)
    × (length l.file.items ≡ l.counter)
    × (l.numbers.newest ≡ number_after l.fn.numbers.newest (3 * l.counter))
    × (l.calls ≤ vec_capacity l.file)
