-- What was read of the files of a replay or of a run, each by its name, and why reading stopped.
use Rattle.std.specs.Prelude.{◌≡◌, ℕ, zero, suc, ◌+◌, ◌-◌, ◌≤◌, ◌==◌, nat_lt, if◌then◌else◌, Bool, IsTrue, List, [], ◌∷◌, ◌++◌, Vec, length, slice_index_or, Option, is_some, IsSomeAnd, Result, Ok, Err}
use Rattle.std.specs.Option.{unwrap_or}
use Rattle.std.specs.declared.alloc.Global.{Global}
use Rattle.script_reader.specs.declared.causes.Refusal.{Refusal}
use Rattle.nwf_run.specs.declared.stops.Stop.{Stop}
use Rattle.nwf_run.specs.declared.stops.Stop.TheVariants.{Usage, Refused, ReadFault, NoMemory}
use Rattle.client_reports.specs.Judging.{AcceptedBefore, IsFirstRefused}
use Rattle.whole_files.specs.Outside.{Opening, Rose}
use Rattle.nwf_run.specs.CommandLine.{Replay}

-- the number of the first file: that of the schedule, where there is one
abbrev pub first_of : Replay → ℕ
first_of replay = if is_some replay.schedule then 0 else 1

-- the name of a file
abbrev pub name_of : Replay → ℕ → List ℕ
name_of replay file = if file == 0 then unwrap_or replay.schedule [] else slice_index_or replay.files (file - 1) []

-- the files by their numbers, where these bytes are held under names
abbrev pub files_by_name : (List ℕ → Option (List ℕ)) → Replay → ℕ → Option (List ℕ)
files_by_name held replay file = held (name_of replay file)

-- a file is refused; where bytes are told, it is the first that is not accepted, and it is there
pub record Refuses (tells : Bool) (held : List ℕ → Option (List ℕ)) (replay : Replay) (file : ℕ) (refusal : Refusal) : Type 0 where
  pub from : first_of replay ≤ file
  pub within : file ≤ length replay.files
  pub first : IsTrue tells → IsFirstRefused replay.client (length replay.files) (files_by_name held replay) (first_of replay) file refusal

-- a file is reached; where bytes are told, each one before it is there and accepted
pub record Reaches (tells : Bool) (held : List ℕ → Option (List ℕ)) (replay : Replay) (file : ℕ) : Type 0 where
  pub from : first_of replay ≤ file
  pub within : file ≤ length replay.files
  pub before : IsTrue tells → AcceptedBefore replay.client (length replay.files) (files_by_name held replay) (first_of replay) file

-- why reading stopped
abbrev pub StopsReading : Bool → (List ℕ → Option (List ℕ)) → Replay → Stop → Type 0
StopsReading tells held replay (Refused file refusal) = Refuses tells held replay file refusal
StopsReading tells held replay (ReadFault file) = Reaches tells held replay file
StopsReading tells held replay NoMemory = Unit {0}
StopsReading tells held replay Usage = ⊥

-- what was read of the file with this number is what its bytes are, and it is there, where bytes are told
abbrev pub FileReads : {X : Type 0} → Bool → (List ℕ → Result (List X) Refusal) → ℕ → Option (List ℕ) → Result (Vec X Global) Stop → Type 0
FileReads tells outcome file held (Ok read) = IsTrue tells → IsSomeAnd held (λ bytes. outcome bytes ≡ Ok read.items)
FileReads tells outcome file held (Err (Refused at refusal)) = (at ≡ file) × (IsTrue tells → IsSomeAnd held (λ bytes. outcome bytes ≡ Err refusal))
FileReads tells outcome file held (Err (ReadFault at)) = at ≡ file
FileReads tells outcome file held (Err NoMemory) = Unit {0}
FileReads tells outcome file held (Err Usage) = ⊥

-- the openings of the files from the first on, and below this number, all while the count of faults stood at this;
-- the newest first
abbrev pub openings : Replay → ℕ → ℕ → List Opening
openings replay faults zero = []
openings replay faults (suc n) = if nat_lt n (first_of replay) then [] else (name_of replay n, faults) ∷ openings replay faults n

-- the files from the first on, and below this number, were opened in order, each once, and there was no fault before
-- the last of them was
abbrev pub Opens : Replay → ℕ → ℕ → List Opening → List Opening → Type 0
Opens replay below faults before now = now ≡ openings replay faults below ++ before

-- which files were opened when reading ended: the one at which it stopped is the last of them
abbrev pub OpensUntil : {X : Type 0} → Replay → ℕ → List Opening → List Opening → Result X Stop → Type 0
OpensUntil replay faults before now (Ok x) = Opens replay (length replay.files + 1) faults before now
OpensUntil replay faults before now (Err (Refused file refusal)) = Opens replay (file + 1) faults before now
OpensUntil replay faults before now (Err (ReadFault file)) = Opens replay (file + 1) faults before now
OpensUntil replay faults before now (Err NoMemory) = (below : ℕ) × (below ≤ length replay.files + 1) × Opens replay below faults before now
OpensUntil replay faults before now (Err Usage) = ⊥

-- the count of faults rose where reading stopped at a fault, and is as it was where it did not
abbrev pub FaultsAsTold : {X : Type 0} → ℕ → ℕ → Result X Stop → Type 0
FaultsAsTold before now (Ok x) = now ≡ before
FaultsAsTold before now (Err (ReadFault file)) = Rose before now
FaultsAsTold before now (Err Usage) = now ≡ before
FaultsAsTold before now (Err (Refused file refusal)) = now ≡ before
FaultsAsTold before now (Err NoMemory) = now ≡ before
