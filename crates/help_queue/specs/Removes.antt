-- Removing a completed call from the head of the queue word: what is asked for, what becomes of it, and when
-- the seat is gone.
use Rattle.std.specs.Prelude.{◌≡◌, ℕ, ◌<◌, ◌≤◌, ◌^◌, ◌==◌, ◌&&◌, if◌then◌else◌, Bool, true, false, ◌⊎◌, ◌≢◌}
use Rattle.step_memory.specs.declared.steps.Request.{Request}
use Rattle.step_memory.specs.declared.steps.Request.TheVariants.{Load}
use Rattle.step_memory.specs.declared.steps.Seen.{Seen}
use Rattle.word_fields.specs.declared.records.RecordPhase.TheVariants.{Completed}
use Rattle.word_fields.specs.Records.{record_phase, record_number}
use Rattle.node_arena.specs.declared.places.TheConstants.{QUEUE}
use Rattle.node_arena.specs.MemoryMap.{record_place}
use Rattle.op_record.specs.Outcomes.{is_completed}
use Rattle.help_queue.specs.declared.remove.Removing.{Removing}
use Rattle.help_queue.specs.declared.remove.Removing.TheVariants.{Running, Gone}
use Rattle.help_queue.specs.declared.remove.RemoveStage.{RemoveStage}
use Rattle.help_queue.specs.declared.remove.RemoveStage.TheVariants.{Look, Check, Gathers}
use Rattle.help_queue.specs.Gathers.{IsGathering, leads, gather_begun, gather_over, gather_fed, gather_request, removed_word}

-- the removal of a call: its seat and number, how many seats there are, and where it stands
pub record Removal : Type 0 where
  pub seat : ℕ
  pub number : ℕ
  pub seats : ℕ
  pub stage : RemoveStage

-- a removal that made no step
abbrev pub remove_new : ℕ → ℕ → ℕ → Removal
remove_new seat number seats = record { seat = seat; number = number; seats = seats; stage = Look }

abbrev pub remove_request_in : RemoveStage → ℕ → Request
remove_request_in Look seat = Load QUEUE
remove_request_in (Check word) seat = Load (record_place seat)
remove_request_in (Gathers g) seat = gather_request g (removed_word g)

-- the next request: a load of the queue word, one of the record word, then the gather over the queue word,
-- then the exchange that removes its head
abbrev pub remove_request : Removal → Request
remove_request removal = remove_request_in removal.stage removal.seat

-- whether a record word is completed, for the call of this number
abbrev pub completes : ℕ → ℕ → Bool
completes word number = is_completed (record_phase word) && (record_number word == number)

abbrev pub remove_fed_in : RemoveStage → Removal → Seen → RemoveStage
remove_fed_in Look removal seen = if leads seen.before removal.seat then Check seen.before else Look
remove_fed_in (Check word) removal seen =
    if completes seen.before removal.number then Gathers (gather_begun removal.seats word) else Check word
remove_fed_in (Gathers g) removal seen = if gather_over g then Look else Gathers (gather_fed g seen.before)

-- what becomes of it: after a lost exchange the queue word is loaded anew
abbrev pub remove_fed : Removal → Seen → Removal
remove_fed removal seen = record removal { stage = remove_fed_in removal.stage removal seen }

abbrev pub removing_in : RemoveStage → Removal → Seen → Removing
removing_in Look removal seen = if leads seen.before removal.seat then Running else Gone
removing_in (Check word) removal seen = if completes seen.before removal.number then Running else Gone
removing_in (Gathers g) removal seen = if gather_over g && seen.won then Gone else Running

-- what it answers
abbrev pub removing : Removal → Seen → Removing
removing removal seen = removing_in removal.stage removal seen

-- the step shows that the seat isn't in the word with this call, or is no longer
abbrev pub SeesGone : RemoveStage → Removal → Seen → Type 0
SeesGone Look removal seen = leads seen.before removal.seat ≡ false
SeesGone (Check word) removal seen = (record_phase seen.before ≢ Completed) ⊎ (record_number seen.before ≢ removal.number)
SeesGone (Gathers g) removal seen = (gather_over g ≡ true) × (seen.won ≡ true)

-- what holds where a removal stands, whatever words it has seen
abbrev pub CanRemove : RemoveStage → ℕ → Type 0
CanRemove Look seats = Unit {0}
CanRemove (Check word) seats = Unit {0}
CanRemove (Gathers g) seats = IsGathering g × (g.among ≡ seats)

pub record IsRemoval (removal : Removal) : Type 0 where
  pub seat : removal.seat < removal.seats
  pub few : removal.seats ≤ 8
  pub number : removal.number < 2 ^ 16
  pub stage : CanRemove removal.stage removal.seats
