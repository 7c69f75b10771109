-- The stack as a sequential object: the last value in is the first out.
use Rattle.std.specs.Prelude.{ℕ, Bool, ◌==◌, ◌&&◌, ◌||◌, if◌then◌else◌, List, [], ◌∷◌}
use Rattle.lin_report.specs.declared.calls.Op.{Op}
use Rattle.lin_report.specs.declared.calls.Reply.{Reply}
use Rattle.lin_report.specs.declared.calls.Reply.TheVariants.{Done}
use Rattle.lin_report.specs.declared.calls.TheConstants.{PUT, TAKE}
use Rattle.lin_report.specs.Commands.{takes_nothing}
use Rattle.lin_report.specs.Object.{Object, take_first}

-- whether an operation puts; of the commands of the stack the other takes
abbrev pub is_put : Op → Bool
is_put op = op.code == PUT

-- put with any value, or take
abbrev pub is_stack_command : Op → Bool
is_stack_command op = (is_put op && op.key == 0) || (op.code == TAKE && takes_nothing op)

-- the values, the top's first: a value that is put goes in front, and take tells the first, which leaves
abbrev pub stack_apply : Op → List ℕ → List ℕ × Reply
stack_apply op values = if is_put op then (op.value ∷ values, Done) else take_first values

-- what the stack answers as
abbrev pub stack_object : Object
stack_object = record { Held = List ℕ; empty = []; apply = stack_apply; serves = is_stack_command }
