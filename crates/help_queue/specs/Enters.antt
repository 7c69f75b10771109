-- Entering the queue word: what an owner asks for, what becomes of it, and what it answers.
use Rattle.std.specs.Prelude.{◌≡◌, ℕ, ◌<◌, ◌≤◌, ◌==◌, ◌&&◌, if◌then◌else◌, Bool, true, false, unwrap_or}
use Rattle.lin_report.specs.declared.calls.Reply.TheVariants.{Done}
use Rattle.lin_report.specs.declared.calls.Outcome.{Outcome}
use Rattle.lin_report.specs.declared.calls.Outcome.TheVariants.{Plain}
use Rattle.step_memory.specs.declared.steps.Request.{Request}
use Rattle.step_memory.specs.declared.steps.Request.TheVariants.{Load}
use Rattle.step_memory.specs.declared.steps.Seen.{Seen}
use Rattle.word_fields.specs.Records.{record_phase, record_of}
use Rattle.node_arena.specs.declared.places.TheConstants.{QUEUE}
use Rattle.op_record.specs.Outcomes.{is_completed, outcome_of}
use Rattle.help_queue.specs.declared.enter.Entering.{Entering}
use Rattle.help_queue.specs.declared.enter.Entering.TheVariants.{Running, Entered, Finished}
use Rattle.help_queue.specs.declared.enter.EnterStage.{EnterStage}
use Rattle.help_queue.specs.declared.enter.EnterStage.TheVariants.{Look, Gathers}
use Rattle.help_queue.specs.Gathers.{Gathering, IsGathering, among_seats, holds, gather_begun, gather_over, gather_fed, gather_request, entered_word}

-- an owner that enters: its seat, how many seats there are, and where it stands
pub record Owner : Type 0 where
  pub seat : ℕ
  pub seats : ℕ
  pub stage : EnterStage

-- the outcome of a record word that was found completed; one that gives none is read as done
abbrev pub outcome_or_done : ℕ → Outcome
outcome_or_done word = unwrap_or (outcome_of (record_of word)) (Plain Done)

-- an owner that made no step
abbrev pub enter_new : ℕ → ℕ → Owner
enter_new seat seats = record { seat = seat; seats = seats; stage = Look }

abbrev pub enter_request_in : EnterStage → Request
enter_request_in Look = Load QUEUE
enter_request_in (Gathers g) = gather_request g (entered_word g)

-- the next request: a load of the queue word, then the gather over it, then the exchange that enters
abbrev pub enter_request : Owner → Request
enter_request owner = enter_request_in owner.stage

abbrev pub enter_fed_in : EnterStage → Owner → Seen → EnterStage
enter_fed_in Look owner seen = if holds seen.before owner.seat then Look else Gathers (gather_begun owner.seats seen.before)
enter_fed_in (Gathers g) owner seen = if gather_over g then Look else Gathers (gather_fed g seen.before)

-- what becomes of it: after an exchange the queue word is loaded anew
abbrev pub enter_fed : Owner → Seen → Owner
enter_fed owner seen = record owner { stage = enter_fed_in owner.stage owner seen }

-- whether a record word that a gather loads is the owner's own, and completed
abbrev pub finishes : Gathering → ℕ → ℕ → Bool
finishes g seat word = (g.next == seat) && is_completed (record_phase word)

abbrev pub entering_in : EnterStage → ℕ → Seen → Entering
entering_in Look seat seen = if holds seen.before seat then Entered else Running
entering_in (Gathers g) seat seen =
    if gather_over g then (if seen.won && among_seats seat g.found then Entered else Running)
    else (if finishes g seat seen.before then Finished (outcome_or_done seen.before) else Running)

-- what it answers
abbrev pub entering : Owner → Seen → Entering
entering owner seen = entering_in owner.stage owner.seat seen

-- the step shows a queue word that holds the seat: the one that was loaded, or the one that was written
abbrev pub SeesSeat : EnterStage → ℕ → Seen → Type 0
SeesSeat Look seat seen = holds seen.before seat ≡ true
SeesSeat (Gathers g) seat seen = (gather_over g ≡ true) × (seen.won ≡ true) × (holds (entered_word g) seat ≡ true)

-- the seat isn't in the word that was loaded, and the step loads its own record and finds it completed with this
-- outcome
abbrev pub SeesOutcome : EnterStage → ℕ → Seen → Outcome → Type 0
SeesOutcome Look seat seen outcome = ⊥
SeesOutcome (Gathers g) seat seen outcome =
    (holds g.word seat ≡ false) × (g.next < g.among) × (g.next ≡ seat) × (is_completed (record_phase seen.before) ≡ true) × (outcome ≡ outcome_or_done seen.before)

-- what holds where an owner stands, whatever words it has seen
abbrev pub CanEnter : EnterStage → ℕ → ℕ → Type 0
CanEnter Look seat seats = Unit {0}
CanEnter (Gathers g) seat seats = IsGathering g × (g.among ≡ seats) × (holds g.word seat ≡ false)

pub record IsOwner (owner : Owner) : Type 0 where
  pub seat : owner.seat < owner.seats
  pub few : owner.seats ≤ 8
  pub stage : CanEnter owner.stage owner.seat owner.seats
