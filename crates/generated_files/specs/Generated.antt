-- The command files of a seed.
use Rattle.std.specs.Prelude.{ℕ, ◌+◌, ◌*◌, ◌%◌, ◌≤◌, ◌==◌, if◌then◌else◌, List, map}
use Rattle.std.specs.List.{range_with_len}
use Rattle.lin_report.specs.CommandFiles.{IsCommandFile}
use Rattle.lin_report.specs.declared.calls.Client.{Client}
use Rattle.lin_report.specs.declared.calls.Client.TheVariants as client
use Rattle.lin_report.specs.declared.calls.Op.{Op}
use Rattle.lin_report.specs.declared.calls.TheConstants.{PUT, TAKE, ADD, DEL, HAS, SET, REM, GET}
use Rattle.lin_report.specs.Object.{object_of}
use Rattle.generated_files.specs.Numbers.{draw}

-- a command of three draws: the first picks which one it is, the second its key, or a queue's value, and the third
-- a map's value
abbrev pub set_code : ℕ → ℕ
set_code kind = if kind % 3 == 0 then ADD else if kind % 3 == 1 then DEL else HAS

abbrev pub map_code : ℕ → ℕ
map_code kind = if kind % 3 == 0 then SET else if kind % 3 == 1 then REM else GET

abbrev pub command_of : Client → ℕ → ℕ → ℕ → Op
command_of client.Queue kind second third = if kind % 2 == 0 then record { code = PUT; key = 0; value = second % 1048576 } else record { code = TAKE; key = 0; value = 0 }
command_of client.List kind second third = record { code = set_code kind; key = second % 64; value = 0 }
command_of client.Buckets kind second third = record { code = set_code kind; key = second % 64; value = 0 }
command_of client.Tree kind second third = record { code = map_code kind; key = second % 64; value = if kind % 3 == 0 then third % 1048576 else 0 }

-- command n of those behind a number, counted from 0: each has three draws of its own
abbrev pub command_after : Client → ℕ → ℕ → Op
command_after c x n = command_of c (draw x (3 * n)) (draw x (3 * n + 1)) (draw x (3 * n + 2))

-- the first commands behind a number, so many
abbrev pub file_after : Client → ℕ → ℕ → List Op
file_after c x calls = map (command_after c x) (range_with_len 0 calls)

-- the file of a seat has its share of all commands of the seed, seat by seat
abbrev pub generated_file : Client → ℕ → ℕ → ℕ → List Op
generated_file c seed calls seat = map (command_after c seed) (range_with_len (seat * calls) calls)

abbrev pub generated_files : Client → ℕ → ℕ → ℕ → List (List Op)
generated_files c seed seats calls = map (generated_file c seed calls) (range_with_len 0 seats)

-- each generated file is one that a seat can run
abbrev pub EachRuns : Type 0
EachRuns = (c : Client) (seed calls seat : ℕ) → calls ≤ 65535 → IsCommandFile (object_of c) (generated_file c seed calls seat)
