-- The laws of the help queue, of the words and the machines of every run. What a machine knows is said of the phase that its
-- seat has in the queue.
use Rattle.std.specs.Prelude.{◌≡◌, ℕ, ◌+◌, ◌<◌, true, false, List, ◌∷◌, ◌++◌, ◌⊎◌, slice_get, Option, Some, None}
use Rattle.lin_report.specs.declared.calls.Outcome.{Outcome}
use Rattle.step_memory.specs.declared.steps.Seen.{Seen}
use Rattle.step_memory.specs.Step.{seen_of}
use Rattle.word_fields.specs.Queues.{queue_version}
use Rattle.word_fields.specs.declared.records.RecordPhase.TheVariants.{Completed}
use Rattle.word_fields.specs.Records.{record_phase, record_number, record_of, packed_record}
use Rattle.op_record.specs.Progress.{IsEarlier}
use Rattle.normal_traits.specs.NormalForm.{NormalForm}
use Rattle.help_queue.specs.Gathers.{Gathering, gather_over, holds, is_open, leads}
use Rattle.help_queue.specs.declared.enter.Entering.{Entering}
use Rattle.help_queue.specs.declared.enter.Entering.TheVariants as entering_to
use Rattle.help_queue.specs.Enters.{entering, outcome_or_done}
use Rattle.help_queue_laws.specs.Ghosts.{Ghosts, gather_of, own_gather}
use Rattle.help_queue_laws.specs.Runs.{queue_in, record_in}
use Rattle.help_queue_laws.specs.Members.{Belongs, IsHelped, MembersIn}
use Rattle.help_queue_laws.specs.Gatherings.{HasGathered, RemovesHead}
use Rattle.help_queue_laws.specs.Entries.{EntersBySecond, LosesTwo}
use Rattle.fast_slow_engine.specs.declared.phases.Phase.{Phase}
use Rattle.fast_slow_engine.specs.declared.phases.Phase.TheVariants.{Enter, Drive, Help, Collect}
use Rattle.fast_slow_engine.specs.declared.help.Helping.{Helping}
use Rattle.fast_slow_engine.specs.declared.help.Helping.TheVariants.{Known}
use Rattle.fast_slow_engine.specs.declared.help.Work.{Work}
use Rattle.fast_slow_engine.specs.declared.help.Work.TheVariants as work
use Rattle.fast_slow_engine.specs.declared.setup.Setup.{Setup}
use Rattle.fast_slow_engine.specs.Mechs.{Mech}
use Rattle.fast_slow_engine.specs.PhaseTable.{mech_request}
use Rattle.fast_slow_engine.specs.Runs.{Move, RunState, AreMoves, run_of}
use Rattle.run_queue.specs.QueueViews.{phase_view}
use Rattle.run_queue.specs.Fits.{IsEngagedWord}
use Rattle.run_queue.specs.Premises.{KeepsQueue}
use Rattle.run_queue.specs.QueueRuns.{EachSeat, EveryRun, queue_after}

-- ---- members

-- who is in the queue word, and where each machine is for that
pub record HasMembers {S W : Type 0} (state : RunState S W) : Type 0 where
  pub queue : MembersIn state.words
  pub seats : EachSeat (λ seat mech. Belongs state.words seat (phase_view mech.phase)) state

-- ---- entries

-- an owner enters by its second exchange: when it makes one, and at any other time
pub record HasEntries {S W : Type 0} (state : RunState S W) (ghosts : Ghosts) : Type 0 where
  pub exchanges : EachSeat (λ seat mech. (g : Gathering) → own_gather (phase_view mech.phase) ≡ Some g → gather_over g ≡ true → EntersBySecond state.words ghosts seat g) state
  pub losses : EachSeat (λ seat mech. LosesTwo ghosts seat (phase_view mech.phase)) state

-- ---- owners

-- the machine has announced its call, which isn't told yet: it enters, drives the call, or helps while it is driven
abbrev pub Publishes : {S W : Type 0} → Phase S W → Type 0
Publishes (Enter owner) = Unit {0}
Publishes Drive = Unit {0}
Publishes (Help drives help) = drives ≡ true
Publishes _ = ⊥

-- an open record is that of the call which its seat makes and has announced
abbrev pub OwnsRecord : {S W : Type 0} → List ℕ → ℕ → Mech S W → Type 0
OwnsRecord words seat mech = is_open (record_phase (record_in words seat)) ≡ true → (record_number (record_in words seat) ≡ mech.number) × Publishes mech.phase

-- a call that is collected is completed, and has left the word
abbrev pub Collects : {S W : Type 0} → List ℕ → ℕ → Mech S W → Phase S W → Type 0
Collects words seat mech Collect = (record_phase (record_in words seat) ≡ Completed) × (record_number (record_in words seat) ≡ mech.number) × (holds (queue_in words) seat ≡ false)
Collects words seat mech _ = Unit {0}

-- the outcome with which entering or collecting ends the call, if it does
abbrev pub finished_with : Entering → Option Outcome
finished_with entering_to.Running = None
finished_with entering_to.Entered = None
finished_with (entering_to.Finished outcome) = Some outcome

-- the same by the phase, and by what its step saw
abbrev pub outcome_in : {S W : Type 0} → Phase S W → Seen → Option Outcome
outcome_in (Enter owner) seen = finished_with (entering owner seen)
outcome_in Collect seen = Some (outcome_or_done seen.before)
outcome_in _ seen = None

-- a published call ends with the outcome of its record, which is completed with its number
pub record EndsCompleted {S W : Type 0} (words : List ℕ) (seat : ℕ) (mech : Mech S W) (outcome : Outcome) : Type 0 where
  pub completed : record_phase (record_in words seat) ≡ Completed
  pub number : record_number (record_in words seat) ≡ mech.number
  pub told : outcome ≡ outcome_or_done (record_in words seat)

-- ---- advances

-- what is shown by a record exchange that wins: a helper had loaded the record as this word
pub record Wins {S W : Type 0} (state : RunState S W) (head word : ℕ) : Type 0 where
  -- the record is still that word, and its seat is the head
  pub stands : record_in state.words head ≡ word
  pub leads' : leads (queue_in state.words) head ≡ true
  -- its seat makes that call, and has published it
  pub owned : (mech : Mech S W) → slice_get state.mechs head ≡ Some mech → (mech.number ≡ record_number word) × Publishes mech.phase
  -- no other call is executed or wrapped up
  pub alone : (seat : ℕ) → seat < 8 → IsEngagedWord (record_in state.words seat) → seat ≡ head

-- where the work is that exchange, and the record has the fields of the word, it shows this
abbrev pub WorkAdvances : {S W : Type 0} → RunState S W → ℕ → ℕ → Work S W → Type 0
WorkAdvances state head word (work.Advance to) = record_in state.words head ≡ packed_record (record_of word) → Wins state head word
WorkAdvances state head word _ = Unit {0}

abbrev pub HelpingAdvances : {S W : Type 0} → RunState S W → ℕ → Helping S W → Type 0
HelpingAdvances state head (Known word does) = WorkAdvances state head word does
HelpingAdvances state head _ = Unit {0}

-- so does the exchange of every machine that helps
abbrev pub Advances : {S W : Type 0} → RunState S W → Phase S W → Type 0
Advances state (Help drives help) = HelpingAdvances state help.head help.at
Advances state _ = Unit {0}

-- ---- records

-- the record stayed, or went on to a later number, round or phase
abbrev pub StaysOrGoesOn : ℕ → ℕ → Type 0
StaysOrGoesOn word now = (word ≡ now) ⊎ IsEarlier (record_of word) (record_of now)

module _ {S W : Type 0} (form : NormalForm S W) where
  -- who is in the word, and which machines are outside
  abbrev pub MembersHold : Type 0
  MembersHold = EveryRun form (λ state ghosts. HasMembers state)

  -- what a helper has loaded of its head
  abbrev pub HelpedHold : Type 0
  HelpedHold = EveryRun form (λ state ghosts. EachSeat (λ seat mech. IsHelped state.words (phase_view mech.phase)) state)

  -- what a gather knows, while its word is still the queue word
  abbrev pub GathersHold : Type 0
  GathersHold = EveryRun form (λ state ghosts. EachSeat (λ seat mech. (g : Gathering) → gather_of (phase_view mech.phase) ≡ Some g → g.word ≡ queue_in state.words → HasGathered state.words ghosts seat g) state)

  -- what a removal knows
  abbrev pub RemovalsHold : Type 0
  RemovalsHold = EveryRun form (λ state ghosts. EachSeat (λ seat mech. RemovesHead state.words (phase_view mech.phase)) state)

  -- what an owner knows that enters
  abbrev pub EntriesHold : Type 0
  EntriesHold = EveryRun form HasEntries

  -- whose an open record is, and what is collected
  abbrev pub OwnersHold : Type 0
  OwnersHold = EveryRun form (λ state ghosts. EachSeat (λ seat mech. OwnsRecord state.words seat mech × Collects state.words seat mech mech.phase) state)

  -- with which outcome a published call ends
  abbrev pub OutcomesHold : Type 0
  OutcomesHold = EveryRun form (λ state ghosts. EachSeat (λ seat mech. (outcome : Outcome) → outcome_in mech.phase (seen_of (mech_request form mech) state.words) ≡ Some outcome → EndsCompleted state.words seat mech outcome) state)

  -- what a won exchange of a record shows
  abbrev pub AdvancesHold : Type 0
  AdvancesHold = EveryRun form (λ state ghosts. EachSeat (λ seat mech. Advances state mech.phase) state)

  -- a move leaves the queue word, or raises its version by one: it never wraps
  abbrev pub VersionsRise : Type 0
  VersionsRise =
      (setup : Setup) (move : Move) (older : List Move) → AreMoves form setup (move ∷ older) → KeepsQueue form setup (move ∷ older)
      → (queue_after form setup (move ∷ older) ≡ queue_after form setup older) ⊎ (queue_version (queue_after form setup (move ∷ older)) ≡ queue_version (queue_after form setup older) + 1)

  -- two queue words of a run with one version are the same
  abbrev pub OneWordEach : Type 0
  OneWordEach =
      (setup : Setup) (newer older : List Move) → AreMoves form setup (newer ++ older) → KeepsQueue form setup (newer ++ older)
      → queue_version (queue_after form setup (newer ++ older)) ≡ queue_version (queue_after form setup older) → queue_after form setup (newer ++ older) ≡ queue_after form setup older

  -- a record stays or goes on, over any moves
  abbrev pub RecordsGoOn : Type 0
  RecordsGoOn =
      (setup : Setup) (newer older : List Move) (seat : ℕ) → seat < 8 → AreMoves form setup (newer ++ older) → KeepsQueue form setup (newer ++ older)
      → StaysOrGoesOn (record_in (run_of form setup older).words seat) (record_in (run_of form setup (newer ++ older)).words seat)
