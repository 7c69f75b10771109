-- What is due to a call without threads: the words and the bytes that are held decide it alone.
use Rattle.std.specs.Prelude.{◌≡◌, ◌⊎◌, ℕ, List, Option, Some, None, true}
use Rattle.std.specs.Io.KnownBytes.{Appends}
use Rattle.script_reader.specs.declared.causes.Refusal.{Refusal}
use Rattle.whole_files.specs.Outside.{Rose, AppendsPrefix}
use Rattle.nwf_run.specs.Reading.{Refuses}
use Rattle.nwf_run.specs.Replaying.{AreRunsFor, text_for}
use Rattle.client_reports.specs.Runs.{FilesRun}
use Rattle.command_line.specs.Lines.{USAGE_LINE}
use Rattle.nwf_run.specs.Stops.{refused_message}
use Rattle.client_reports.specs.Sweeps.{SomeExhausts}
use Rattle.nwf_run.specs.CommandLine.{Asked, Replay, files_asked}

-- a status and a text are due to what is asked, where these bytes are held under names: the text of its runs, or the
-- message that the words are not served, or that a file is the first that is refused
pub data IsDue (held : List ℕ → Option (List ℕ)) (asked : Option Asked) (due : ℕ) (text : List ℕ) : Type 0 where
  unserved : asked ≡ None → due ≡ 2 → text ≡ USAGE_LINE → IsDue held asked due text
  reports : (a : Asked) (runs : List FilesRun) → asked ≡ Some a → AreRunsFor true held a runs → ¬ SomeExhausts runs → due ≡ 0 → text ≡ text_for a runs → IsDue held asked due text
  exhausts : (a : Asked) (runs : List FilesRun) → asked ≡ Some a → AreRunsFor true held a runs → SomeExhausts runs → due ≡ 7 → text ≡ text_for a runs → IsDue held asked due text
  refuses : (r : Replay) (file : ℕ) (refusal : Refusal) → files_asked asked ≡ Some r → Refuses true held r file refusal → due ≡ 3 → text ≡ refused_message file refusal → IsDue held asked due text

-- a call that ended with a status gave what is due, but for a fault or want of memory: the status is the one that is due,
-- and all of the text was written where the sink had no fault, and else, of a report, its first bytes
pub record GivesDue (due : ℕ) (text : List ℕ) (status : ℕ) (written written' : Option (List ℕ)) (faults faults' : ℕ) : Type 0 where
  pub status_is : (status ≡ due) ⊎ (status ≡ 4) ⊎ (status ≡ 5) ⊎ (status ≡ 6)
  pub whole : status ≡ due → ¬ Rose faults faults' → Appends written written' text
  pub cut : status ≡ 5 → AppendsPrefix written written' text
