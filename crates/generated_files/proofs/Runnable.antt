-- Generated commands are commands of their client.
use Rattle.std.proofs.Common.{rules, arith, sym, subst, ℕ, ◌+◌, ◌*◌, ◌%◌, ◌<◌, ◌==◌, Bool, true, false, if◌then◌else◌}
use Rattle.std.proofs.lemmas.List.FromFn.{get_or-map-range_with_len, length-map-range_with_len}
use Rattle.lin_report.specs.Object.{IsCommandOf, object_of, queue_object, list_object, set_object, map_object}
use Rattle.lin_report.specs.declared.calls.Client.{Client}
use Rattle.lin_report.specs.declared.calls.Client.TheVariants as client
use Rattle.lin_report.specs.declared.calls.TheConstants.{PUT, TAKE, ADD, DEL, HAS, SET, REM, GET}
use Rattle.generated_files.specs.Numbers.{draw}
use Rattle.generated_files.specs.Generated.{EachRuns, command_after, command_of}

queue_command : (b : Bool) (value : ℕ) → value < 4294967296 → IsCommandOf queue_object (if b then record { code = PUT; key = 0; value = value } else record { code = TAKE; key = 0; value = 0 })
queue_command true value low = record { command = search rules; value = low }
queue_command false value low = record { command = search rules; value = omega arith }

list_command : (p q : Bool) (key : ℕ) → key < 1048576 → IsCommandOf list_object (record { code = if p then ADD else if q then DEL else HAS; key = key; value = 0 })
list_command true q key low = record { command = search rules; value = omega arith }
list_command false true key low = record { command = search rules; value = omega arith }
list_command false false key low = record { command = search rules; value = omega arith }

buckets_command : (p q : Bool) (key : ℕ) → key < 1048576 → IsCommandOf set_object (record { code = if p then ADD else if q then DEL else HAS; key = key; value = 0 })
buckets_command true q key low = record { command = search rules; value = omega arith }
buckets_command false true key low = record { command = search rules; value = omega arith }
buckets_command false false key low = record { command = search rules; value = omega arith }

tree_command : (p q : Bool) (key value : ℕ) → key < 1048576 → value < 4294967296 → IsCommandOf map_object (record { code = if p then SET else if q then REM else GET; key = key; value = if p then value else 0 })
tree_command true q key value low few = record { command = search rules; value = few }
tree_command false true key value low few = record { command = search rules; value = omega arith }
tree_command false false key value low few = record { command = search rules; value = omega arith }

is_command_of : (c : Client) (kind second third : ℕ) → IsCommandOf (object_of c) (command_of c kind second third)
is_command_of client.Queue kind second third = queue_command (kind % 2 == 0) (second % 1048576) (omega arith)
is_command_of client.List kind second third = list_command (kind % 3 == 0) (kind % 3 == 1) (second % 64) (omega arith)
is_command_of client.Buckets kind second third = buckets_command (kind % 3 == 0) (kind % 3 == 1) (second % 64) (omega arith)
is_command_of client.Tree kind second third = tree_command (kind % 3 == 0) (kind % 3 == 1) (second % 64) (third % 1048576) (omega arith) (omega arith)

pub each_runs : EachRuns
each_runs c seed calls seat few =
    let make = command_after c seed in
    let long = length-map-range_with_len make (seat * calls) calls in
    record {
      few = omega (arith, long, few);
      commands = λ k d inside. subst (IsCommandOf (object_of c)) (sym (get_or-map-range_with_len make (seat * calls) calls k (seat * calls + k) d (omega (arith, long, inside)) (omega arith)))
          (is_command_of c (draw seed (3 * (seat * calls + k))) (draw seed (3 * (seat * calls + k) + 1)) (draw seed (3 * (seat * calls + k) + 2)));
    }
