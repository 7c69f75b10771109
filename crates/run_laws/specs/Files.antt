-- A run over command files makes their commands.
use Rattle.std.specs.Prelude.{◌≡◌, ℕ, ◌-◌, ◌<◌, ◌≤◌, false, List, length, slice_get, Some, All}
use Rattle.lin_report.specs.declared.calls.Op.{Op}
use Rattle.lin_report.specs.Object.{Object}
use Rattle.lin_report.specs.CommandFiles.{IsCommandFile}
use Rattle.lin_report.specs.Report.{file_of}
use Rattle.normal_traits.specs.NormalForm.{NormalForm}
use Rattle.fast_slow_engine.specs.declared.setup.Setup.{Setup}
use Rattle.fast_slow_engine.specs.Mechs.{Mech}
use Rattle.fast_slow_engine.specs.PhaseTable.{rests}
use Rattle.fast_slow_engine.specs.Runs.{Move, AreMoves, run_of, moves_over}
use Rattle.run_laws.specs.Seats.{EachMech}

-- the files can be run: one for each seat
pub record FilesFit (object : Object) (setup : Setup) (files : List (List Op)) : Type 0 where
  pub count : length files ≡ setup.seats
  pub runnable : All (IsCommandFile object) files

-- the call of the machine is the command of the file with its number, counted from 1, and as many calls
-- have begun as its number says; a report names its commands by this
pub record RunsFile {S W : Type 0} (file : List Op) (mech : Mech S W) : Type 0 where
  pub within : mech.number ≤ length file
  pub counted : rests mech.phase ≡ false → 0 < mech.number
  pub command : rests mech.phase ≡ false → slice_get file (mech.number - 1) ≡ Some mech.op

module _ {S W : Type 0} (form : NormalForm S W) where
  -- the moves can follow each other, and each machine after them makes the commands of its file
  pub record IsFileRun (setup : Setup) (files : List (List Op)) (moves : List Move) : Type 0 where
    pub follow : AreMoves form setup moves
    pub runs : EachMech (λ seat mech. RunsFile (file_of files seat) mech) (run_of form setup moves).mechs

  -- every order of the seats runs the files
  abbrev pub FilesRun : Type 0
  FilesRun = (setup : Setup) (files : List (List Op)) (order : List ℕ) → FilesFit form.object setup files → IsFileRun setup files (moves_over form setup files order)
