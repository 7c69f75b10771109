-- A seat with the file of its commands.
use Rattle.std.specs.Prelude.{ℕ, ◌+◌, ◌-◌, ◌≤◌, Bool, false, if◌then◌else◌, List, length, slice_get, Option, None, is_none}
use Rattle.lin_report.specs.Object.{Object}
use Rattle.lin_report.specs.declared.calls.Op.{Op}
use Rattle.lin_report.specs.CommandFiles.{IsCommandFile}
use Rattle.fast_slow_engine.specs.Mechs.{Mech}
use Rattle.fast_slow_engine.specs.PhaseTable.{lines_left, rests}

-- the machine of a seat, and its commands
pub record Seat (S W : Type 0) : Type 0 where
  pub mech : Mech S W
  pub file : List Op

-- the seat's calls are commands of its file, begun in order
pub record IsSeatOf {S W : Type 0} (object : Object) (seat : Seat S W) : Type 0 where
  pub file : IsCommandFile object seat.file
  pub number : seat.mech.number ≤ length seat.file

-- how many lines the seat has still to write: one for each command that hasn't returned
abbrev pub lines_owed : {S W : Type 0} → Seat S W → ℕ
lines_owed seat = length seat.file - seat.mech.number + lines_left seat.mech.phase

-- the command that the seat begins: the next one of its file, where no call runs
abbrev pub command_of : {S W : Type 0} → Seat S W → Option Op
command_of seat = if rests seat.mech.phase then slice_get seat.file seat.mech.number else None

-- no call runs and no command is left
abbrev pub is_over : {S W : Type 0} → Seat S W → Bool
is_over seat = if rests seat.mech.phase then is_none (slice_get seat.file seat.mech.number) else false
