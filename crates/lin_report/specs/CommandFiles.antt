-- A command file that a seat can run.
use Rattle.std.specs.Prelude.{◌≤◌, List, length, All}
use Rattle.lin_report.specs.declared.calls.Op.{Op}
use Rattle.lin_report.specs.Object.{Object, IsCommandOf}

-- commands of the object, no more than a seat can number: an accepted file is one, the seats of a core are made
-- of such files, and every law of a run over files is of these
pub record IsCommandFile (object : Object) (file : List Op) : Type 0 where
  pub few : length file ≤ 65535
  pub commands : All (IsCommandOf object) file
