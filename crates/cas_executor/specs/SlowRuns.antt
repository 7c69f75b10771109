-- The list of a block, executed by any number of helpers: what a helper asks for next, and what it makes of
-- what it saw.
use Rattle.std.specs.Prelude.{◌≡◌, ◌≢◌, ℕ, ◌+◌, ◌^◌, ◌<◌, ◌≤◌, ◌==◌, if◌then◌else◌, Bool, true, false, ◌⊎◌, List, length, slice_get, Option, Some, None}
use Rattle.step_memory.specs.declared.steps.Request.{Request}
use Rattle.step_memory.specs.declared.steps.Request.TheVariants.{Load, Exchange}
use Rattle.step_memory.specs.declared.steps.Seen.{Seen}
use Rattle.word_fields.specs.Versioned.{marked_word}
use Rattle.node_arena.specs.declared.places.TheConstants.{STATE_FIELD}
use Rattle.node_arena.specs.MemoryMap.{block_place}
use Rattle.normal_traits.specs.declared.lists.Entry.{Entry}
use Rattle.cas_executor.specs.declared.fast_run.Execution.{Execution}
use Rattle.cas_executor.specs.declared.fast_run.Execution.TheVariants.{Running, Stopped}
use Rattle.cas_executor.specs.declared.slow_run.EntryState.{EntryState}
use Rattle.cas_executor.specs.declared.slow_run.EntryState.TheVariants.{Pending, Succeeded, Failed}
use Rattle.cas_executor.specs.declared.slow_run.SlowStep.{SlowStep}
use Rattle.cas_executor.specs.declared.slow_run.SlowStep.TheVariants.{LoadState, Install, LoadTarget, Succeed, Fail, LoadDecision, Clear}

-- ---- states

-- the word of a state
abbrev pub state_word : EntryState → ℕ
state_word Pending = 0
state_word Succeeded = 1
state_word Failed = 2

-- the state of a word; one above 2 is that of an entry that failed
abbrev pub entry_state : ℕ → EntryState
entry_state word = if word == 0 then Pending else (if word == 1 then Succeeded else Failed)

-- the place of the state of entry j of a block
abbrev pub state_place : ℕ → ℕ → ℕ
state_place block j = block_place block (STATE_FIELD + j)

-- ---- a run

-- a block with its list, the place in the list of the entry that the run is at, and its next step there
pub record SlowWalk : Type 0 where
  pub block : ℕ
  pub entries : List Entry
  pub next : ℕ
  pub step : SlowStep

-- the run is at an entry of its list, and the block is one of an arena
pub record IsWalking (walk : SlowWalk) : Type 0 where
  pub small : walk.block < 2 ^ 17
  pub at_entry : walk.next < length walk.entries
  pub short : length walk.entries ≤ 2

-- the run, at another step of its entry
abbrev pub at_step : SlowStep → SlowWalk → SlowWalk
at_step step walk = record walk { step = step }

-- the run, at the first step of the next entry
abbrev pub past_entry : SlowWalk → SlowWalk
past_entry walk = record walk { next = walk.next + 1; step = LoadState }

-- ---- requests

-- what a step on entry j of a block asks for
abbrev pub step_request : ℕ → ℕ → Entry → SlowStep → Request
step_request block j entry LoadState = Load (state_place block j)
step_request block j entry Install = Exchange entry.target entry.from (marked_word entry.to)
step_request block j entry LoadTarget = Load entry.target
step_request block j entry Succeed = Exchange (state_place block j) (state_word Pending) (state_word Succeeded)
step_request block j entry Fail = Exchange (state_place block j) (state_word Pending) (state_word Failed)
step_request block j entry LoadDecision = Load (state_place block j)
step_request block j entry Clear = Exchange entry.target (marked_word entry.to) entry.to

abbrev pub request_at : SlowWalk → Option Entry → Request
request_at walk None = Load 0
request_at walk (Some entry) = step_request walk.block walk.next entry walk.step

-- the next request
abbrev pub slow_request : SlowWalk → Request
slow_request walk = request_at walk (slice_get walk.entries walk.next)

-- whether a step is the listed exchange of its entry
abbrev pub installs : SlowStep → Bool
installs Install = true
installs _ = false

-- ---- what has come of a step

-- what comes of the first look at the state of entry j: the run goes on but for a failed one
abbrev pub looked : EntryState → ℕ → Execution
looked Failed j = Stopped j
looked _ j = Running

-- and of the look after the decision: it goes on only for one that succeeded
abbrev pub decided : EntryState → ℕ → Execution
decided Succeeded j = Running
decided _ j = Stopped j

abbrev pub execution_at : SlowStep → SlowWalk → Seen → Execution
execution_at LoadState walk seen = looked (entry_state seen.before) walk.next
execution_at Install walk seen = Running
execution_at LoadTarget walk seen = Running
execution_at Succeed walk seen = Running
execution_at Fail walk seen = Running
execution_at LoadDecision walk seen = decided (entry_state seen.before) walk.next
execution_at Clear walk seen = if walk.next + 1 == length walk.entries then Stopped (length walk.entries) else Running

-- whether the next step ends the run, and where
abbrev pub slow_execution : SlowWalk → Seen → Execution
slow_execution walk seen = execution_at walk.step walk seen

-- the step after the first look at a state
abbrev pub step_after_look : EntryState → SlowStep
step_after_look Pending = Install
step_after_look Succeeded = Clear
step_after_look Failed = LoadState

-- the step after the look at what was decided
abbrev pub step_after_decision : EntryState → SlowStep
step_after_decision Succeeded = Clear
step_after_decision _ = LoadDecision

-- the entry succeeded where its target shows `to` with its bit set
abbrev pub step_after_target : Option Entry → ℕ → SlowStep
step_after_target None word = Fail
step_after_target (Some entry) word = if word == marked_word entry.to then Succeed else Fail

abbrev pub fed_at : SlowStep → SlowWalk → Seen → SlowWalk
fed_at LoadState walk seen = at_step (step_after_look (entry_state seen.before)) walk
fed_at Install walk seen = at_step LoadTarget walk
fed_at LoadTarget walk seen = at_step (step_after_target (slice_get walk.entries walk.next) seen.before) walk
fed_at Succeed walk seen = at_step LoadDecision walk
fed_at Fail walk seen = at_step LoadDecision walk
fed_at LoadDecision walk seen = at_step (step_after_decision (entry_state seen.before)) walk
fed_at Clear walk seen = past_entry walk

-- what the run becomes
abbrev pub slow_fed : SlowWalk → Seen → SlowWalk
slow_fed walk seen = fed_at walk.step walk seen

-- the run stops at its entry, by what it saw: its state is failed, or the look after the decision doesn't show
-- that it succeeded
abbrev pub StopsHere : SlowStep → ℕ → Type 0
StopsHere LoadState word = entry_state word ≡ Failed
StopsHere LoadDecision word = entry_state word ≢ Succeeded
StopsHere _ word = ⊥

-- the run has cleared the last entry
abbrev pub StopsBehind : SlowWalk → Type 0
StopsBehind walk = (walk.step ≡ Clear) × (walk.next + 1 ≡ length walk.entries)

-- where the run stops: at an entry that failed, or at the length where none did
abbrev pub StopsAt : SlowWalk → Seen → ℕ → Type 0
StopsAt walk seen stop = (StopsHere walk.step seen.before × (stop ≡ walk.next)) ⊎ (StopsBehind walk × (stop ≡ length walk.entries))
