-- Objects whose calls a report can tell.
use Rattle.std.specs.Prelude.{◌≢◌, List, All, IsTrue}
use Rattle.lin_report.specs.declared.calls.Client.{Client}
use Rattle.lin_report.specs.declared.calls.Op.{Op}
use Rattle.lin_report.specs.declared.calls.Reply.TheVariants.{Exhausted}
use Rattle.lin_report.specs.Commands.{is_some_command, IsReplyTo}
use Rattle.lin_report.specs.Object.{Object, IsCommandOf, held_after, object_of}

-- the object serves commands that a line can name; after commands it gives each a reply that the command may be given,
-- with its value in range; and it never says that no block was left, which a run alone can say
pub record IsTellable (object : Object) : Type 0 where
  pub named : (op : Op) → IsTrue (object.serves op) → IsTrue (is_some_command op)
  pub fits : (ops : List Op) (op : Op) → All (IsCommandOf object) ops → IsCommandOf object op → IsReplyTo op (object.apply op (held_after object object.empty ops)).1
  pub answers : (op : Op) (held : object.Held) → (object.apply op held).1 ≢ Exhausted

-- the objects of the four clients of the program are such
abbrev pub ObjectsAreTellable : Type 0
ObjectsAreTellable = (client : Client) → IsTellable (object_of client)
