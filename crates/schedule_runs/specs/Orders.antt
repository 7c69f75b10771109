-- Runs in the order that a schedule names.
use Rattle.std.specs.Prelude.{◌≡◌, ℕ, List, [], ◌∷◌, ◌++◌, replicate}
use Rattle.lin_report.specs.declared.calls.Op.{Op}
use Rattle.script_reader.specs.declared.schedules.ScheduleEntry.{ScheduleEntry}
use Rattle.normal_traits.specs.NormalForm.{NormalForm}
use Rattle.fast_slow_engine.specs.declared.setup.Setup.{Setup}
use Rattle.fast_slow_engine.specs.Runs.{moves_over, run_of}
use Rattle.event_core.specs.Cores.{CoreView, core_new}
use Rattle.schedule_runs.specs.Spans.{StepsOf, after_steps}

module _ {S W : Type 0} (form : NormalForm S W) where
  -- an entry was made: as many steps of its seat as it is
  abbrev pub EntryMade : ScheduleEntry → CoreView S W → CoreView S W → Type 0
  EntryMade entry old new = (n : ℕ) × StepsOf form entry old n × (new ≡ after_steps form entry.seat old n)

  -- the entries were made, one after the other
  abbrev pub EntriesMade : List ScheduleEntry → CoreView S W → CoreView S W → Type 0
  EntriesMade [] old new = new ≡ old
  EntriesMade (entry ∷ rest) old new = (next : CoreView S W) × EntryMade entry old next × EntriesMade rest next new

  -- the run of these files in an order of the seats, the newest first
  abbrev pub core_in : Setup → List (List Op) → List ℕ → CoreView S W
  core_in setup files order = record { setup = setup; files = files; state = run_of form setup (moves_over form setup files order) }

  -- an order goes on from an older one by these entries: by the seat of each, as often as the entry has steps
  -- in the run so far
  abbrev pub GoesOnBy : Setup → List (List Op) → List ScheduleEntry → List ℕ → List ℕ → Type 0
  GoesOnBy setup files [] older order = order ≡ older
  GoesOnBy setup files (entry ∷ rest) older order =
      (n : ℕ) × StepsOf form entry (core_in setup files older) n × GoesOnBy setup files rest (replicate n entry.seat ++ older) order

  -- the order is the one that the entries name for these files
  abbrev pub IsOrderOf : Setup → List (List Op) → List ScheduleEntry → List ℕ → Type 0
  IsOrderOf setup files entries order = GoesOnBy setup files entries [] order

  -- a new core that has made the entries is the run of its files in the order that they name
  abbrev pub RunsInOrder : Type 0
  RunsInOrder =
      (setup : Setup) (files : List (List Op)) (entries : List ScheduleEntry) (new : CoreView S W) → EntriesMade entries (core_new form setup files) new
      → (order : List ℕ) × IsOrderOf setup files entries order × (new ≡ core_in setup files order)

  -- entries name one order
  abbrev pub NamesOneOrder : Type 0
  NamesOneOrder =
      (setup : Setup) (files : List (List Op)) (entries : List ScheduleEntry)
      → (order : List ℕ) × IsOrderOf setup files entries order × ((other : List ℕ) → IsOrderOf setup files entries other → other ≡ order)
