-- Files read by their names one after the other, and judged.
use Rattle.std.proofs.Common.{◌≡◌, ℕ, zero, suc, ◌+◌, ◌-◌, ◌<◌, ◌≤◌, cond, Bool, IsTrue, List, [], ◌∷◌, ◌++◌, length, get_or, Option, Some, None, Result, Ok, Err, IsSomeAnd, refl, sym, ap, ◌∙◌, subst, arith, add-one}
use Rattle.std.specs.Option.{unwrap_or}
use Rattle.std.proofs.lemmas.Bool.{le-ltb}
use Rattle.lin_report.specs.declared.calls.Op.{Op}
use Rattle.script_reader.specs.declared.causes.Refusal.{Refusal}
use Rattle.script_reader.specs.declared.schedules.ScheduleEntry.{ScheduleEntry}
use Rattle.script_reader.specs.Schedules.{schedule_outcome}
use Rattle.script_reader.specs.Scripts.{script_outcome}
use Rattle.client_reports.specs.declared.no_report.NoReport.{NoReport}
use Rattle.client_reports.specs.declared.no_report.NoReport.TheVariants as no
use Rattle.nwf_run.specs.declared.stops.Stop.{Stop}
use Rattle.nwf_run.specs.declared.stops.Stop.TheVariants.{Usage, Refused, ReadFault, NoMemory}
use Rattle.client_reports.specs.Judging.{AcceptedBefore, IsJudged, SayFirst, refusal_in}
use Rattle.whole_files.specs.Outside.{Opening}
use Rattle.nwf_run.specs.Reading.{FileReads, Opens, OpensUntil, StopsReading, files_by_name, first_of, name_of, openings}
use Rattle.nwf_run.specs.Stops.{stop_for}
use Rattle.nwf_run.specs.CommandLine.{Replay}
use Rattle.client_reports.proofs.JudgedFiles.{back, counted, commands_accepted, after_schedule, refused_after, refused_next, refused_schedule}

-- what was judged of the bytes that were read is judged of the file
pub reads_as : {X : Type 0} (tells : Bool) (outcome : List ℕ → Result (List X) Refusal) (file : ℕ) (held : Option (List ℕ)) (bytes : List ℕ)
    → ((o : Result (List X) Refusal) → outcome bytes ≡ o → IsTrue tells → IsSomeAnd held (λ all. outcome all ≡ o))
    → (no : NoReport) → IsJudged {X = X} (outcome bytes) file (Err no) → FileReads tells outcome file held (Err (stop_for no))
reads_as tells outcome file held bytes told (no.Refused at refusal) h = (h.0, told (Err refusal) h.1)
reads_as tells outcome file held bytes told no.NoMemory h = tt

-- the name of a command file, by its place
pub name_at : (replay : Replay) (k : ℕ) → name_of replay (k + 1) ≡ get_or replay.files k []
name_at replay k = ap (λ b. cond b (unwrap_or replay.schedule []) (get_or replay.files (k + 1 - 1) [])) (counted k) ∙ ap (λ n. get_or replay.files n []) (back k)

-- the openings with that of one file more
openings_step : (replay : Replay) (faults n : ℕ) → first_of replay ≤ n → openings replay faults (suc n) ≡ (name_of replay n, faults) ∷ openings replay faults n
openings_step replay faults n from = ap (λ (b : Bool). cond b [] ((name_of replay n, faults) ∷ openings replay faults n)) (le-ltb n (first_of replay) from)

module _ (replay : Replay) where
  -- the command files alone, and behind a schedule
  abbrev pub alone : Replay
  alone = record replay { schedule = None }

  abbrev pub behind : List ℕ → Replay
  behind schedule = record replay { schedule = Some schedule }

  same_name : (schedule : List ℕ) (file : ℕ) → 1 ≤ file → name_of alone file ≡ name_of (behind schedule) file
  same_name schedule file from =
      let is : file - 1 + 1 ≡ file = omega (arith, from) in
      subst (λ n. name_of alone n ≡ name_of (behind schedule) n) is (name_at alone (file - 1) ∙ sym (name_at (behind schedule) (file - 1)))

module _ (tells : Bool) (held : List ℕ → Option (List ℕ)) (replay : Replay) where
  -- the first command files were accepted, and reading stopped at the next one
  pub stops_next : (commands : List (List Op)) → (IsTrue tells → SayFirst replay.client (length replay.files) (files_by_name held (alone replay)) commands) → length commands < length replay.files
      → (stop : Stop) → FileReads {X = Op} tells (script_outcome replay.client) (length commands + 1) (held (get_or replay.files (length commands) [])) (Err stop) → StopsReading tells held (alone replay) stop
  stops_next commands say within (Refused file refusal) read =
      let at : length commands + 1 ≡ file = sym read.0 in
      let named : held (get_or replay.files (length commands) []) ≡ files_by_name held (alone replay) (length commands + 1) = ap held (sym (name_at (alone replay) (length commands))) in
      subst (λ n. StopsReading tells held (alone replay) (Refused n refusal)) at (record {
        from = omega arith;
        within = omega (arith, within);
        first = λ t. refused_next replay.client (length replay.files) (files_by_name held (alone replay)) commands refusal (say t) (omega (arith, within)) (subst (λ o. IsSomeAnd o (λ bytes. script_outcome replay.client bytes ≡ Err refusal)) named (read.1 t));
      })
  stops_next commands say within (ReadFault file) read =
      subst (λ n. StopsReading tells held (alone replay) (ReadFault n)) (sym read) (record {
        from = omega arith;
        within = omega (arith, within);
        before = λ t. commands_accepted replay.client (length replay.files) (files_by_name held (alone replay)) commands (say t);
      })
  stops_next commands say within NoMemory read = tt
  stops_next commands say within Usage read = read

  module _ (schedule : List ℕ) where
    abbrev files : ℕ → Option (List ℕ)
    files = files_by_name held (behind replay schedule)

    abbrev seats : ℕ
    seats = length replay.files

    -- reading stopped at the schedule
    pub stops_first : (stop : Stop) → FileReads {X = ScheduleEntry} tells (schedule_outcome seats) 0 (held schedule) (Err stop) → StopsReading tells held (behind replay schedule) stop
    stops_first (Refused file refusal) read =
        let at : 0 ≡ file = sym read.0 in
        subst (λ n. StopsReading tells held (behind replay schedule) (Refused n refusal)) at (record { from = omega arith; within = omega arith; first = λ t. refused_schedule replay.client seats files refusal (read.1 t) })
    stops_first (ReadFault file) read =
        subst (λ n. StopsReading tells held (behind replay schedule) (ReadFault n)) (sym read) (record { from = omega arith; within = omega arith; before = λ t earlier from below. absurd (omega (arith, below)) })
    stops_first NoMemory read = tt
    stops_first Usage read = read

    same_file : (file : ℕ) → 1 ≤ file → files_by_name held (alone replay) file ≡ files file
    same_file file from = ap held (same_name replay schedule file from)

    -- what the command files say they say behind the schedule
    pub say_behind : (commands : List (List Op)) → SayFirst replay.client seats (files_by_name held (alone replay)) commands → SayFirst replay.client seats files commands
    say_behind commands say k below = subst (λ (o : Option (List ℕ)). IsSomeAnd o (λ bytes. script_outcome replay.client bytes ≡ Ok (get_or commands k []))) (same_file (k + 1) (omega arith)) (say k below)

    accepted_behind : (file : ℕ) → AcceptedBefore replay.client seats (files_by_name held (alone replay)) 1 file → AcceptedBefore replay.client seats files 1 file
    accepted_behind file each earlier from below = subst (λ (o : Option (List ℕ)). IsSomeAnd o (λ bytes. refusal_in replay.client seats earlier bytes ≡ None)) (same_file earlier from) (each earlier from below)

    -- the schedule was accepted, and reading stopped at a command file
    pub stops_behind : (entries : List ScheduleEntry) → (IsTrue tells → IsSomeAnd (held schedule) (λ bytes. schedule_outcome seats bytes ≡ Ok entries)) → (stop : Stop) → StopsReading tells held (alone replay) stop → StopsReading tells held (behind replay schedule) stop
    stops_behind entries accepted (Refused file refusal) h = record {
      from = omega arith;
      within = h.within;
      first = λ t.
          let r = h.first t in
          refused_after replay.client seats files entries (accepted t) file refusal (record {
            from = r.from;
            within = r.within;
            refused = subst (λ (o : Option (List ℕ)). IsSomeAnd o (λ bytes. refusal_in replay.client seats file bytes ≡ Some refusal)) (same_file file r.from) r.refused;
            before = accepted_behind file r.before;
          });
    }
    stops_behind entries accepted (ReadFault file) h = record {
      from = omega arith;
      within = h.within;
      before = λ t. after_schedule replay.client seats files entries (accepted t) file (accepted_behind file (h.before t));
    }
    stops_behind entries accepted NoMemory h = tt
    stops_behind entries accepted Usage h = h

module _ (replay : Replay) (faults : ℕ) (before : List Opening) where
  -- one file more was opened
  pub opens_more : (count : ℕ) (now new : List Opening) (name : List ℕ) (faults' : ℕ) → first_of replay ≤ count → Opens replay count faults before now → new ≡ (name, faults') ∷ now → name ≡ name_of replay count → faults' ≡ faults
      → Opens replay (count + 1) faults before new
  opens_more count now new name faults' from opens is named calm =
      is ∙ ap (λ (n : List ℕ). (n, faults') ∷ now) named ∙ ap (λ (f : ℕ). (name_of replay count, f) ∷ now) calm ∙ ap (λ (l : List Opening). (name_of replay count, faults) ∷ l) opens
      ∙ sym (ap (λ (l : List Opening). l ++ before) (openings_step replay faults count from))
      ∙ sym (ap (λ n. openings replay faults n ++ before) (add-one count))

  -- reading stopped at the file that was opened last
  pub opens_until : (X : Type 0) {Y : Type 0} (tells : Bool) (outcome : List ℕ → Result (List Y) Refusal) (held : Option (List ℕ)) (count : ℕ) (now : List Opening) → count ≤ length replay.files
      → Opens replay (count + 1) faults before now → (stop : Stop) → FileReads {X = Y} tells outcome count held (Err stop) → OpensUntil {X = X} replay faults before now (Err stop)
  opens_until X tells outcome held count now within opens (Refused file refusal) read = subst (λ n. Opens replay (n + 1) faults before now) (sym read.0) opens
  opens_until X tells outcome held count now within opens (ReadFault file) read = subst (λ n. Opens replay (n + 1) faults before now) (sym read) opens
  opens_until X tells outcome held count now within opens NoMemory read = (count + 1, omega (arith, within), opens)
  opens_until X tells outcome held count now within opens Usage read = read

module _ (replay : Replay) (schedule : List ℕ) (faults : ℕ) (before : List Opening) where
  -- the schedule was opened, and then command files
  openings_behind : (n : ℕ) → openings (alone replay) faults (suc n) ++ (schedule, faults) ∷ before ≡ openings (behind replay schedule) faults (suc n) ++ before
  openings_behind zero = refl
  openings_behind (suc n) =
      ap (λ (l : List Opening). l ++ (schedule, faults) ∷ before) (openings_step (alone replay) faults (suc n) (omega arith))
      ∙ ap (λ (name : List ℕ). (name, faults) ∷ openings (alone replay) faults (suc n) ++ (schedule, faults) ∷ before) (same_name replay schedule (suc n) (omega arith))
      ∙ ap (λ (l : List Opening). (name_of (behind replay schedule) (suc n), faults) ∷ l) (openings_behind n)
      ∙ sym (ap (λ (l : List Opening). l ++ before) (openings_step (behind replay schedule) faults (suc n) (omega arith)))

  pub opens_behind : (n : ℕ) (now : List Opening) → Opens (alone replay) (n + 1) faults ((schedule, faults) ∷ before) now → Opens (behind replay schedule) (n + 1) faults before now
  opens_behind n now opens = subst (λ k. Opens (behind replay schedule) k faults before now) (sym (add-one n)) (subst (λ k. Opens (alone replay) k faults ((schedule, faults) ∷ before) now) (add-one n) opens ∙ openings_behind n)

  pub until_behind : (X Y : Type 0) (now : List Opening) (stop : Stop) → OpensUntil {X = X} (alone replay) faults ((schedule, faults) ∷ before) now (Err stop) → OpensUntil {X = Y} (behind replay schedule) faults before now (Err stop)
  until_behind X Y now (Refused file refusal) opens = opens_behind file now opens
  until_behind X Y now (ReadFault file) opens = opens_behind file now opens
  until_behind X Y now NoMemory (zero, few, opens) = (1, omega arith, opens)
  until_behind X Y now NoMemory (suc n, few, opens) = (suc n, few, opens ∙ openings_behind n)
  until_behind X Y now Usage opens = opens
