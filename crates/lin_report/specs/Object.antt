-- The sequential objects: what each operation answers and leaves, one at a time. They know a list of
-- values, a set of keys and a map, and nothing of nodes, marks or references.
use Rattle.std.specs.Prelude.{ℕ, ◌<◌, Bool, IsTrue, true, false, ◌==◌, not, nat_lt, if◌then◌else◌, List, [], ◌∷◌, ◌++◌, Option, Some, None, slice_get}
use Rattle.std.specs.Ordering.{nat_cmp}
use Rattle.std.specs.FinSet as set
use Rattle.std.specs.FinMap as map
use Rattle.lin_report.specs.declared.calls.Client.{Client}
use Rattle.lin_report.specs.declared.calls.Client.TheVariants as client
use Rattle.lin_report.specs.declared.calls.Op.{Op}
use Rattle.lin_report.specs.declared.calls.Reply.{Reply}
use Rattle.lin_report.specs.declared.calls.Reply.TheVariants.{Yes, No, Done, Value, Empty, Absent}
use Rattle.lin_report.specs.declared.calls.TheConstants.{PUT, TAKE, ADD, DEL, HAS, SET, REM}
use Rattle.lin_report.specs.Commands.{is_queue_command, is_set_command, is_list_command, is_map_command, VALUE_LIMIT}

-- an object: what it may hold, what it holds at first, and for each operation that it serves what it
-- holds afterwards and what it replies
pub record Object : Type 1 where
  pub Held : Type 0
  pub empty : Held
  pub apply : Op → Held → Held × Reply
  pub serves : Op → Bool

-- an operation that the object serves, with its value in range
pub record IsCommandOf (object : Object) (op : Op) : Type 0 where
  pub command : IsTrue (object.serves op)
  pub value : op.value < VALUE_LIMIT

-- what is held after operations
abbrev pub held_after : (object : Object) → object.Held → List Op → object.Held
held_after object held [] = held
held_after object held (op ∷ ops) = held_after object (object.apply op held).0 ops

-- yes where it is so
abbrev pub yes_if : Bool → Reply
yes_if true = Yes
yes_if false = No

-- the first value leaves; an empty queue stays
abbrev pub take_first : List ℕ → List ℕ × Reply
take_first [] = ([], Empty)
take_first (value ∷ values) = (values, Value value)

-- the number, if there is one
abbrev pub value_or_empty : Option ℕ → Reply
value_or_empty None = Empty
value_or_empty (Some value) = Value value

-- the queue, its first value in front: a value that is put goes last; take and peek tell the first, which leaves or stays
abbrev pub queue_apply : Op → List ℕ → List ℕ × Reply
queue_apply op values =
    if op.code == PUT then (values ++ op.value ∷ [], Done)
    else (if op.code == TAKE then take_first values
    else (values, value_or_empty (slice_get values 0)))

-- what the queue's client answers as
abbrev pub queue_object : Object
queue_object = record { Held = List ℕ; empty = []; apply = queue_apply; serves = is_queue_command }

-- the lesser of a number and another, if there is one
abbrev pub lesser : ℕ → Option ℕ → ℕ
lesser key None = key
lesser key (Some other) = if nat_lt other key then other else key

-- the least of some numbers
abbrev pub least : List ℕ → Option ℕ
least [] = None
least (key ∷ keys) = Some (lesser key (least keys))

-- the set: add says whether the key was absent, del and has whether it was present; min tells the least key
abbrev pub set_apply : Op → set.FinSet nat_cmp → set.FinSet nat_cmp × Reply
set_apply op keys =
    if op.code == ADD then (set.insert keys op.key, yes_if (not (set.contains keys op.key)))
    else (if op.code == DEL then (set.remove keys op.key, yes_if (set.contains keys op.key))
    else (if op.code == HAS then (keys, yes_if (set.contains keys op.key))
    else (keys, value_or_empty (least (set.items keys)))))

-- what an array of lists answers as
abbrev pub set_object : Object
set_object = record { Held = set.FinSet nat_cmp; empty = set.empty; apply = set_apply; serves = is_set_command }

-- what a list answers as: its keys are in order, so it serves min too
abbrev pub list_object : Object
list_object = record { Held = set.FinSet nat_cmp; empty = set.empty; apply = set_apply; serves = is_list_command }

-- a key that has a value keeps it
abbrev pub set_absent : ℕ → ℕ → map.FinMap nat_cmp ℕ → map.FinMap nat_cmp ℕ × Reply
set_absent key value pairs = if map.contains_key pairs key then (pairs, No) else (map.insert pairs key value, Yes)

-- the value at a key
abbrev pub value_or_absent : Option ℕ → Reply
value_or_absent None = Absent
value_or_absent (Some value) = Value value

-- the map: set says whether the key was absent, rem whether it was present, get its value
abbrev pub map_apply : Op → map.FinMap nat_cmp ℕ → map.FinMap nat_cmp ℕ × Reply
map_apply op pairs =
    if op.code == SET then set_absent op.key op.value pairs
    else (if op.code == REM then (map.remove pairs op.key, yes_if (map.contains_key pairs op.key))
    else (pairs, value_or_absent (map.get pairs op.key)))

-- what the tree's client answers as
abbrev pub map_object : Object
map_object = record { Held = map.FinMap nat_cmp ℕ; empty = map.empty; apply = map_apply; serves = is_map_command }

-- the object that a client answers as
abbrev pub object_of : Client → Object
object_of client.Queue = queue_object
object_of client.List = list_object
object_of client.Buckets = set_object
object_of client.Tree = map_object

-- whether the operation is a command of the client
abbrev pub is_command : Client → Op → Bool
is_command c = (object_of c).serves
