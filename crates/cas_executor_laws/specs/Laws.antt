-- What holds of every world, after any acts.
use Rattle.std.specs.Prelude.{◌≡◌, ◌≢◌, ℕ, ◌<◌, ◌≤◌, ◌↔◌, true, false, ◌⊎◌, List, ◌∷◌, ◌++◌, length, slice_get, slice_index, Some}
use Rattle.word_fields.specs.Versioned.{versioned_bit, marked_word}
use Rattle.normal_traits.specs.declared.lists.Entry.{Entry}
use Rattle.cas_executor.specs.declared.fast_run.Execution.{Execution}
use Rattle.cas_executor.specs.declared.fast_run.Execution.TheVariants.{Running, Stopped}
use Rattle.cas_executor.specs.declared.slow_run.EntryState.{EntryState}
use Rattle.cas_executor.specs.declared.slow_run.EntryState.TheVariants.{Pending, Succeeded, Failed}
use Rattle.cas_executor.specs.declared.slow_run.SlowStep.{SlowStep}
use Rattle.cas_executor.specs.declared.slow_run.SlowStep.TheVariants.{Install, Succeed, Fail}
use Rattle.cas_executor.specs.SlowRuns.{SlowWalk, entry_state, state_place}
use Rattle.cas_executor_laws.specs.ExecRuns.{ExecSetup, ExecState, Helping, Act, CanOpen, AreActs, IsEntry, took, wins, world_of}
use Rattle.cas_executor_laws.specs.ExecRuns.Act.{Steps}

-- the acts can follow each other in a world that opens so
abbrev pub AreOf : ExecSetup → List Act → Type 0
AreOf setup acts = CanOpen setup × AreActs setup acts

-- the word at an entry's target
abbrev pub target_word : ExecSetup → List Act → Entry → ℕ
target_word setup acts entry = slice_index (world_of setup acts).words entry.target

-- what has been decided of entry j
abbrev pub state_in : ExecSetup → List Act → ℕ → EntryState
state_in setup acts j = entry_state (slice_index (world_of setup acts).words (state_place setup.block j))

-- whatever happens next, the entry's listed exchange has never won
abbrev pub NeverTakes : ExecSetup → List Act → ℕ → Type 0
NeverTakes setup acts j = (newer : List Act) → AreActs setup (newer ++ acts) → wins setup (newer ++ acts) j ≡ 0

-- whatever happens next, the entry's target isn't `from`
abbrev pub NeverFrom : ExecSetup → List Act → Entry → Type 0
NeverFrom setup acts entry = (newer : List Act) → AreActs setup (newer ++ acts) → target_word setup (newer ++ acts) entry ≢ entry.from

-- a helper that hasn't stopped is at a step of entry j
pub record IsHelperAt (state : ExecState) (at j : ℕ) (step : SlowStep) : Type 0 where
  pub helper : Helping
  pub here : slice_get state.helpers at ≡ Some helper
  pub running : helper.execution ≡ Running
  pub place : helper.walk.next ≡ j
  pub step_is : helper.walk.step ≡ step

-- the entry that a helper is at, or the place where it has stopped
abbrev pub reached : Execution → SlowWalk → ℕ
reached Running walk = walk.next
reached (Stopped stop) walk = stop

-- ---- exchanges

-- the listed exchange of each entry wins at most once
abbrev pub WinsOnce : Type 0
WinsOnce = (setup : ExecSetup) (acts : List Act) (j : ℕ) → AreOf setup acts → wins setup acts j ≤ 1

-- the bit of an entry: its target shows it, it took effect, all entries before it have succeeded, and it
-- hasn't failed
pub record IsBitOf (setup : ExecSetup) (acts : List Act) (j : ℕ) (entry : Entry) : Type 0 where
  pub shown : target_word setup acts entry ≡ marked_word entry.to
  pub taken : took setup acts j ≡ true
  pub earlier : (i : ℕ) → i < j → state_in setup acts i ≡ Succeeded
  pub unfailed : state_in setup acts j ≢ Failed

-- a set bit at a target is that of the entry there
abbrev pub BitsBelong : Type 0
BitsBelong =
    (setup : ExecSetup) (acts : List Act) (j : ℕ) (entry : Entry) → AreOf setup acts → IsEntry setup.entries j entry
    → versioned_bit (target_word setup acts entry) ≡ 1 → IsBitOf setup acts j entry

-- ---- entries

-- a pending entry has taken effect exactly where its target is `to` with its bit set
abbrev pub PendingShows : Type 0
PendingShows =
    (setup : ExecSetup) (acts : List Act) (j : ℕ) (entry : Entry) → AreOf setup acts → IsEntry setup.entries j entry
    → state_in setup acts j ≡ Pending → took setup acts j ≡ true ↔ target_word setup acts entry ≡ marked_word entry.to

-- an entry that succeeded has taken effect
abbrev pub SucceededTook : Type 0
SucceededTook =
    (setup : ExecSetup) (acts : List Act) (j : ℕ) → AreOf setup acts → j < length setup.entries
    → state_in setup acts j ≡ Succeeded → took setup acts j ≡ true

-- an entry that failed hasn't, and never will
abbrev pub FailedNever : Type 0
FailedNever =
    (setup : ExecSetup) (acts : List Act) (j : ℕ) → AreOf setup acts → j < length setup.entries
    → state_in setup acts j ≡ Failed → NeverTakes setup acts j

-- an entry behind one that hasn't succeeded is pending, and hasn't taken effect
abbrev pub BehindWaits : Type 0
BehindWaits =
    (setup : ExecSetup) (acts : List Act) (i j : ℕ) → AreOf setup acts → i < j → j < length setup.entries
    → state_in setup acts i ≢ Succeeded → (state_in setup acts j ≡ Pending) × (took setup acts j ≡ false)

-- ---- helpers

-- after a helper's listed exchange of an entry, won or lost, its target is never `from` again
abbrev pub NeverFromAgain : Type 0
NeverFromAgain =
    (setup : ExecSetup) (acts : List Act) (at j : ℕ) (entry : Entry) → AreOf setup (Steps at ∷ acts) → IsEntry setup.entries j entry
    → IsHelperAt (world_of setup acts) at j Install → NeverFrom setup (Steps at ∷ acts) entry

-- where a helper is to decide that an entry succeeded, it has taken effect
abbrev pub SuccessIsSeen : Type 0
SuccessIsSeen =
    (setup : ExecSetup) (acts : List Act) (at j : ℕ) → AreOf setup acts → j < length setup.entries
    → IsHelperAt (world_of setup acts) at j Succeed → took setup acts j ≡ true

-- where a helper is to decide that an entry failed, it is decided, or never takes effect
abbrev pub FailureIsSeen : Type 0
FailureIsSeen =
    (setup : ExecSetup) (acts : List Act) (at j : ℕ) → AreOf setup acts → j < length setup.entries
    → IsHelperAt (world_of setup acts) at j Fail → (state_in setup acts j ≢ Pending) ⊎ NeverTakes setup acts j

-- all entries before the one that a helper is at, or has stopped at, have succeeded, and their bits are clear
abbrev pub EarlierDone : Type 0
EarlierDone =
    (setup : ExecSetup) (acts : List Act) (at i : ℕ) (helper : Helping) (entry : Entry) → AreOf setup acts
    → slice_get (world_of setup acts).helpers at ≡ Some helper → i < reached helper.execution helper.walk → IsEntry setup.entries i entry
    → (state_in setup acts i ≡ Succeeded) × (versioned_bit (target_word setup acts entry) ≡ 0)

-- ---- stops

-- all entries before a place have succeeded, and the entry there failed, or there is none
pub record IsFirstFailed (setup : ExecSetup) (acts : List Act) (stop : ℕ) : Type 0 where
  pub within : stop ≤ length setup.entries
  pub earlier : (i : ℕ) → i < stop → state_in setup acts i ≡ Succeeded
  pub failed : stop < length setup.entries → state_in setup acts stop ≡ Failed

-- a helper that stopped did so at the first entry that failed, or at the length
abbrev pub StopsAtFirstFailed : Type 0
StopsAtFirstFailed =
    (setup : ExecSetup) (acts : List Act) (at stop : ℕ) (helper : Helping) → AreOf setup acts
    → slice_get (world_of setup acts).helpers at ≡ Some helper → helper.execution ≡ Stopped stop → IsFirstFailed setup acts stop

-- all helpers that stop give the same place, whenever they stop
abbrev pub StopsAgree : Type 0
StopsAgree =
    (setup : ExecSetup) (newer older : List Act) (at at' stop stop' : ℕ) (helper helper' : Helping) → AreOf setup older → AreActs setup (newer ++ older)
    → slice_get (world_of setup older).helpers at ≡ Some helper → helper.execution ≡ Stopped stop
    → slice_get (world_of setup (newer ++ older)).helpers at' ≡ Some helper' → helper'.execution ≡ Stopped stop' → stop ≡ stop'

-- where a helper has stopped, no target has its bit set
abbrev pub StopsClear : Type 0
StopsClear =
    (setup : ExecSetup) (acts : List Act) (at stop j : ℕ) (helper : Helping) (entry : Entry) → AreOf setup acts
    → slice_get (world_of setup acts).helpers at ≡ Some helper → helper.execution ≡ Stopped stop → IsEntry setup.entries j entry
    → versioned_bit (target_word setup acts entry) ≡ 0
