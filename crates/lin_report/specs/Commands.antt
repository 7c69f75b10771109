-- Which operations the commands are, and which replies each may be given. An operation has 0 in each
-- number that its command doesn't take.
use Rattle.std.specs.Prelude.{ℕ, ◌<◌, Bool, IsTrue, ◌==◌, ◌||◌, ◌&&◌, not, nat_lt}
use Rattle.lin_report.specs.declared.calls.Op.{Op}
use Rattle.lin_report.specs.declared.calls.Reply.{Reply}
use Rattle.lin_report.specs.declared.calls.Reply.TheVariants.{Yes, No, Done, Value, Empty, Absent, Exhausted}
use Rattle.lin_report.specs.declared.calls.TheConstants.{PUT, TAKE, ADD, DEL, HAS, SET, REM, GET, PEEK, MIN}

-- keys are below this
abbrev pub KEY_LIMIT : ℕ
KEY_LIMIT = 1048576

-- values are below this, as the type of a value has it
abbrev pub VALUE_LIMIT : ℕ
VALUE_LIMIT = 4294967296

-- a command that takes no number
abbrev pub takes_nothing : Op → Bool
takes_nothing op = op.key == 0 && op.value == 0

-- a command that takes a key alone
abbrev pub takes_key : Op → Bool
takes_key op = nat_lt op.key KEY_LIMIT && op.value == 0

-- put with any value, or take or peek
abbrev pub is_queue_command : Op → Bool
is_queue_command op = (op.code == PUT && op.key == 0) || ((op.code == TAKE || op.code == PEEK) && takes_nothing op)

-- add, del or has with a key
abbrev pub is_set_command : Op → Bool
is_set_command op = (op.code == ADD || op.code == DEL || op.code == HAS) && takes_key op

-- one of these, or min
abbrev pub is_list_command : Op → Bool
is_list_command op = is_set_command op || (op.code == MIN && takes_nothing op)

-- set with a key and a value, or rem or get with a key
abbrev pub is_map_command : Op → Bool
is_map_command op = (op.code == SET && nat_lt op.key KEY_LIMIT) || ((op.code == REM || op.code == GET) && takes_key op)

-- a command of one structure or another
abbrev pub is_some_command : Op → Bool
is_some_command op = is_queue_command op || is_list_command op || is_map_command op

-- a command that only looks; each other may find no block left
abbrev pub only_observes : Op → Bool
only_observes op = op.code == HAS || op.code == GET || op.code == PEEK || op.code == MIN

-- a command that may be answered Exhausted
abbrev pub may_exhaust : Op → Bool
may_exhaust op = not (only_observes op)

-- a command that is told whether its key was absent, or whether it was present
abbrev pub tells_presence : Op → Bool
tells_presence op = op.code == ADD || op.code == DEL || op.code == HAS || op.code == SET || op.code == REM

-- the replies that a command may be given
abbrev pub may_answer : Op → Reply → Bool
may_answer op Yes = tells_presence op
may_answer op No = tells_presence op
may_answer op Done = op.code == PUT
may_answer op (Value value) = op.code == TAKE || op.code == GET || op.code == PEEK || op.code == MIN
may_answer op Empty = op.code == TAKE || op.code == PEEK || op.code == MIN
may_answer op Absent = op.code == GET
may_answer op Exhausted = may_exhaust op

-- the value that a reply tells, or 0
abbrev pub told_value : Reply → ℕ
told_value (Value value) = value
told_value _ = 0

-- a reply that the operation may be given, with its value in range
pub record IsReplyTo (op : Op) (reply : Reply) : Type 0 where
  pub named : IsTrue (may_answer op reply)
  pub value : told_value reply < VALUE_LIMIT
