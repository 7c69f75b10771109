-- Reports that leave no command out. A report over files has the first commands of each file, and may be of fewer than
-- all; where the files are what moves began, it is of all.
use Rattle.std.specs.Prelude.{◌≡◌, ℕ, ◌+◌, List, slice_get, Some, Contains}
use Rattle.lin_report.specs.declared.calls.Op.{Op}
use Rattle.lin_report.specs.Calls.{Call, Report, calls_of}
use Rattle.lin_report.specs.Report.{file_of}

-- this operation, at this place of a seat's file, has its call in the report, answered or pending: places are counted
-- from 0, and calls from 1
pub record IsCalled (report : Report) (owner place : ℕ) (command : Op) : Type 0 where
  pub call : Call
  pub known : Contains (calls_of report) call
  pub seat : call.seat ≡ owner
  pub number : call.number ≡ place + 1
  pub op : call.op ≡ command

-- each command of the files has its call; with `IsReport` over the same files, the calls of each seat are those of its
-- file, all of them and no other
abbrev pub HasEachCommand : List (List Op) → Report → Type 0
HasEachCommand files report = (owner place : ℕ) (command : Op) → slice_get (file_of files owner) place ≡ Some command → IsCalled report owner place command
