-- What the files of a call are by the grammar. File 0 is the schedule, where there is one, and file k the k-th
-- command file, of which there is one for each seat. The files are given by their numbers: the bytes of each that is there.
use Rattle.std.specs.Prelude.{◌≡◌, ℕ, ◌+◌, ◌-◌, ◌<◌, ◌≤◌, ◌==◌, if◌then◌else◌, List, [], Vec, length, slice_get, slice_index_or, Option, Some, None, IsSomeAnd, Result, Ok, Err}
use Rattle.std.specs.Result.{result_err}
use Rattle.std.specs.declared.alloc.Global.{Global}
use Rattle.lin_report.specs.declared.calls.Op.{Op}
use Rattle.script_reader.specs.declared.causes.Refusal.{Refusal}
use Rattle.script_reader.specs.declared.schedules.ScheduleEntry.{ScheduleEntry}
use Rattle.script_reader.specs.Schedules.{schedule_outcome}
use Rattle.script_reader.specs.Scripts.{script_outcome}
use Rattle.client_reports.specs.declared.no_report.NoReport.{NoReport}
use Rattle.client_reports.specs.declared.no_report.NoReport.TheVariants.{Refused, NoMemory}
use Rattle.lin_report.specs.declared.calls.Client.{Client}

-- why the grammar refuses the bytes of a file, if it does
abbrev pub refusal_in : Client → ℕ → ℕ → List ℕ → Option Refusal
refusal_in client seats file bytes =
    if file == 0 then result_err (schedule_outcome seats bytes)
    else result_err (script_outcome client bytes)

module _ (client : Client) (seats : ℕ) (files : ℕ → Option (List ℕ)) where
  -- each file from the first one on, and before this one, is there and accepted
  abbrev pub AcceptedBefore : ℕ → ℕ → Type 0
  AcceptedBefore first file = (earlier : ℕ) → first ≤ earlier → earlier < file → IsSomeAnd (files earlier) (λ bytes. refusal_in client seats earlier bytes ≡ None)

  -- this file is there and refused, and each one from the first on, and before it, is there and accepted
  pub record IsFirstRefused (first file : ℕ) (refusal : Refusal) : Type 0 where
    pub from : first ≤ file
    pub within : file ≤ seats
    pub refused : IsSomeAnd (files file) (λ bytes. refusal_in client seats file bytes ≡ Some refusal)
    pub before : AcceptedBefore first file

  -- why there is no report of the files from the schedule on: one of them is the first that is refused, or there
  -- was no memory
  abbrev pub IsReason : NoReport → Type 0
  IsReason (Refused file refusal) = IsFirstRefused 0 file refusal
  IsReason NoMemory = Unit {0}

  -- the first command files are there, and have these commands
  abbrev pub SayFirst : List (List Op) → Type 0
  SayFirst commands =
      (k : ℕ) → k < length commands → IsSomeAnd (files (k + 1)) (λ bytes. script_outcome client bytes ≡ Ok (slice_index_or commands k []))

  -- all files are there and accepted: these are the entries of the schedule and the commands of the command files
  pub record Accepts (entries : List ScheduleEntry) (commands : List (List Op)) : Type 0 where
    pub schedule : IsSomeAnd (files 0) (λ bytes. schedule_outcome seats bytes ≡ Ok entries)
    pub count : length commands ≡ seats
    pub each : SayFirst commands

-- the files of a replay by their numbers, where these are their bytes
abbrev pub files_of_bytes : List ℕ → List (List ℕ) → ℕ → Option (List ℕ)
files_of_bytes schedule files file = if file == 0 then Some schedule else slice_get files (file - 1)

-- the bytes of the file with this number were judged as what they are, unless there was no memory
abbrev pub IsJudged : {X : Type 0} → Result (List X) Refusal → ℕ → Result (Vec X Global) NoReport → Type 0
IsJudged outcome file (Ok read) = outcome ≡ Ok read.items
IsJudged outcome file (Err (Refused at refusal)) = (at ≡ file) × (outcome ≡ Err refusal)
IsJudged outcome file (Err NoMemory) = Unit {0}
