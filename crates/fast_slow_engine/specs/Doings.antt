-- What the code of a machine holds, as a phase: what it is doing, with the stores that lie beside it.
use Rattle.std.specs.Prelude.{ℕ, []}
use Rattle.arrayvec.specs.ArrayVec.{ArrayVec}
use Rattle.fast_slow_engine.specs.declared.doing.Room.{Room}
use Rattle.fast_slow_engine.specs.declared.doing.Doing.{Doing}
use Rattle.fast_slow_engine.specs.declared.doing.Doing.TheVariants as doing
use Rattle.fast_slow_engine.specs.declared.doing.Aid.{Aid}
use Rattle.fast_slow_engine.specs.declared.doing.Aiding.{Aiding}
use Rattle.fast_slow_engine.specs.declared.doing.Aiding.TheVariants as aiding
use Rattle.fast_slow_engine.specs.declared.doing.Task.{Task}
use Rattle.fast_slow_engine.specs.declared.doing.Task.TheVariants as task
use Rattle.fast_slow_engine.specs.declared.phases.Phase.{Phase}
use Rattle.fast_slow_engine.specs.declared.phases.Phase.TheVariants as phase
use Rattle.fast_slow_engine.specs.declared.help.Help.{Help}
use Rattle.fast_slow_engine.specs.declared.help.Helping.{Helping}
use Rattle.fast_slow_engine.specs.declared.help.Helping.TheVariants as helping
use Rattle.fast_slow_engine.specs.declared.help.Work.{Work}
use Rattle.fast_slow_engine.specs.declared.help.Work.TheVariants as work

-- the work of a helper
abbrev pub work_of : {S W : Type 0} → Task S W → ArrayVec (ℕ × ℕ) → Work S W
work_of task.Head stores = work.Head
work_of task.Op stores = work.Op
work_of (task.Value op) stores = work.Value op
work_of (task.Generate op search at) stores = work.Generate op search at
work_of (task.Fill made) stores = work.Fill stores made
work_of (task.Advance to) stores = work.Advance to
work_of (task.Read read) stores = work.Read read
work_of (task.Execute run) stores = work.Execute run
work_of (task.Wrap wrap) stores = work.Wrap wrap

abbrev pub helping_of : {S W : Type 0} → Aiding S W → ArrayVec (ℕ × ℕ) → Helping S W
helping_of (aiding.Record known) stores = helping.Record known
helping_of (aiding.Known word does) stores = helping.Known word (work_of does stores)
helping_of (aiding.Remove removal) stores = helping.Remove removal

abbrev pub help_of : {S W : Type 0} → Aid S W → ArrayVec (ℕ × ℕ) → Help S W
help_of aid stores = record { head = aid.head; seats = aid.seats; at = helping_of aid.at stores }

-- work that has no use for stores
abbrev pub bare_work : {S W : Type 0} → Task S W → Work S W
bare_work does = work_of does (record { items = [] })

-- what is done with these stores
abbrev pub doing_of : {S W : Type 0} → Doing S W → ArrayVec (ℕ × ℕ) → Phase S W
doing_of doing.Idle stores = phase.Idle
doing_of doing.Begin stores = phase.Begin
doing_of doing.Look stores = phase.Look
doing_of (doing.Generate search at) stores = phase.Generate search at
doing_of (doing.Apply run at) stores = phase.Apply run stores at
doing_of (doing.Wrap wrap) stores = phase.Wrap wrap
doing_of (doing.Announce at) stores = phase.Announce at
doing_of (doing.Enter owner) stores = phase.Enter owner
doing_of doing.Drive stores = phase.Drive
doing_of (doing.Help drives aid) stores = phase.Help drives (help_of aid stores)
doing_of doing.Collect stores = phase.Collect
doing_of (doing.Value reference) stores = phase.Value reference
doing_of (doing.End reply) stores = phase.End reply

-- the phase of a machine
abbrev pub phase_of : {S W : Type 0} → Room S W → Phase S W
phase_of room = doing_of room.doing room.stores
