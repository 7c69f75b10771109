-- The world of one offered block: any helpers execute its list, and others change its targets at any moment.
use Rattle.std.specs.Prelude.{◌≡◌, ◌≢◌, ℕ, ◌+◌, ◌-◌, ◌*◌, ◌^◌, ◌<◌, ◌≤◌, ◌==◌, ◌&&◌, nat_lt, if◌then◌else◌, Bool, false, ◌⊎◌, List, [], ◌∷◌, length, replicate, slice_get, slice_index, slice_set, Option, Some, None}
use Rattle.step_memory.specs.declared.steps.Seen.{Seen}
use Rattle.step_memory.specs.Step.{words_after, seen_of}
use Rattle.word_fields.specs.Versioned.{versioned_bit, versioned_version, changed_word}
use Rattle.node_arena.specs.MemoryMap.{block_place}
use Rattle.normal_traits.specs.declared.lists.Entry.{Entry}
use Rattle.cas_executor.specs.declared.fast_run.Execution.{Execution}
use Rattle.cas_executor.specs.declared.fast_run.Execution.TheVariants.{Running}
use Rattle.cas_executor.specs.declared.slow_run.SlowStep.TheVariants.{LoadState}
use Rattle.cas_executor.specs.FastRuns.{IsShort}
use Rattle.cas_executor.specs.SlowRuns.{SlowWalk, installs, slow_request, slow_execution, slow_fed, state_place}

-- ---- worlds

-- with what a world opens: how many helpers there are, the block, its list, and the memory
pub record ExecSetup : Type 0 where
  pub helpers : ℕ
  pub block : ℕ
  pub entries : List Entry
  pub words : List ℕ

-- a helper: its run, and what came of its last step
pub record Helping : Type 0 where
  pub walk : SlowWalk
  pub execution : Execution

-- what there is of a world
pub record ExecState : Type 0 where
  pub entries : List Entry
  pub words : List ℕ
  pub helpers : List Helping

-- a helper that made no step
abbrev pub helper_new : ℕ → List Entry → Helping
helper_new block entries = record { walk = record { block = block; entries = entries; next = 0; step = LoadState }; execution = Running }

abbrev pub opening_world : ExecSetup → ExecState
opening_world setup = record { entries = setup.entries; words = setup.words; helpers = replicate setup.helpers (helper_new setup.block setup.entries) }

-- ---- which worlds open

-- an entry can be listed: its `from` has its bit clear and a version below the last two, its `to` is `from`
-- changed, and its target, none of the block's first twelve fields, holds `from`, or a word with its bit clear
-- and a greater version
pub record CanList (block : ℕ) (words : List ℕ) (entry : Entry) : Type 0 where
  pub value : ℕ
  pub small : value < 2 ^ 24
  pub clear : versioned_bit entry.from ≡ 0
  pub below : versioned_version entry.from < 2 ^ 39 - 2
  pub to : entry.to ≡ changed_word entry.from value
  pub inside : entry.target < length words
  pub outside : (field : ℕ) → field < 12 → entry.target ≢ block_place block field
  pub holds : (slice_index words entry.target ≡ entry.from)
      ⊎ ((versioned_bit (slice_index words entry.target) ≡ 0) × (versioned_version entry.from < versioned_version (slice_index words entry.target)))

-- entry j of a list
abbrev pub IsEntry : List Entry → ℕ → Entry → Type 0
IsEntry entries j entry = slice_get entries j ≡ Some entry

-- entries with one target are one entry
abbrev pub HasOwnTargets : List Entry → Type 0
HasOwnTargets entries = (i j : ℕ) (first second : Entry) → IsEntry entries i first → IsEntry entries j second → first.target ≡ second.target → i ≡ j

pub record CanOpen (setup : ExecSetup) : Type 0 where
  pub some : 0 < setup.helpers
  pub few : setup.helpers ≤ 8
  pub small : setup.block < 2 ^ 17
  pub room : 32 * (setup.block + 2) ≤ length setup.words
  pub short : IsShort setup.entries
  pub listed : (j : ℕ) (entry : Entry) → IsEntry setup.entries j entry → CanList setup.block setup.words entry
  pub apart : HasOwnTargets setup.entries
  pub pending : (j : ℕ) → j < 2 → slice_index setup.words (state_place setup.block j) ≡ 0

-- ---- acts

-- what may happen next: a step of a helper, or a change of a target by someone else, to a value
pub data Act : Type 0 where
  Steps : ℕ → Act
  Changes : ℕ → ℕ → Act

-- a helper after a step that saw this
abbrev pub helper_fed : Helping → Seen → Helping
helper_fed helper seen = record { walk = slow_fed helper.walk seen; execution = slow_execution helper.walk seen }

abbrev pub stepped_by : ℕ → Option Helping → ExecState → ExecState
stepped_by at None state = state
stepped_by at (Some helper) state =
    record {
      entries = state.entries;
      words = words_after (slow_request helper.walk) state.words;
      helpers = slice_set state.helpers at (helper_fed helper (seen_of (slow_request helper.walk) state.words));
    }

-- after an act
abbrev pub acted : Act → ExecState → ExecState
acted (Steps at) state = stepped_by at (slice_get state.helpers at) state
acted (Changes at value) state = record { entries = state.entries; words = slice_set state.words at (changed_word (slice_index state.words at) value); helpers = state.helpers }

-- the world after acts, the newest first
abbrev pub world_of : ExecSetup → List Act → ExecState
world_of setup [] = opening_world setup
world_of setup (act ∷ older) = acted act (world_of setup older)

-- a helper can make a step: it hasn't stopped
pub record CanStep (state : ExecState) (at : ℕ) : Type 0 where
  pub helper : Helping
  pub here : slice_get state.helpers at ≡ Some helper
  pub running : helper.execution ≡ Running

-- someone else can change a word to a value: it is a target, its bit is clear, and its version is below the
-- last two
pub record CanChange (state : ExecState) (at value : ℕ) : Type 0 where
  pub j : ℕ
  pub entry : Entry
  pub listed : IsEntry state.entries j entry
  pub target : entry.target ≡ at
  pub clear : versioned_bit (slice_index state.words at) ≡ 0
  pub below : versioned_version (slice_index state.words at) < 2 ^ 39 - 2
  pub small : value < 2 ^ 24

abbrev pub CanAct : ExecState → Act → Type 0
CanAct state (Steps at) = CanStep state at
CanAct state (Changes at value) = CanChange state at value

-- acts that can follow each other, the newest first
abbrev pub AreActs : ExecSetup → List Act → Type 0
AreActs setup [] = Unit {0}
AreActs setup (act ∷ older) = AreActs setup older × CanAct (world_of setup older) act

-- the state is that of the world after these acts
pub record IsWorldOf (setup : ExecSetup) (acts : List Act) (state : ExecState) : Type 0 where
  pub are : AreActs setup acts
  pub is : world_of setup acts ≡ state

-- what a step of a helper answers: where its run stopped, if it did
abbrev pub execution_by : Option Helping → List ℕ → Execution
execution_by None words = Running
execution_by (Some helper) words = slow_execution helper.walk (seen_of (slow_request helper.walk) words)

abbrev pub execution_of : ℕ → ExecState → Execution
execution_of at state = execution_by (slice_get state.helpers at) state.words

-- ---- what took effect

-- whether a step of a helper is the listed exchange of entry j, and wins
abbrev pub wins_by : ℕ → Option Helping → List ℕ → Bool
wins_by j None words = false
wins_by j (Some helper) words = installs helper.walk.step && helper.walk.next == j && (seen_of (slow_request helper.walk) words).won

abbrev pub wins_in : ℕ → Act → ExecState → Bool
wins_in j (Steps at) state = wins_by j (slice_get state.helpers at) state.words
wins_in j (Changes at value) state = false

-- how often the listed exchange of entry j has won
abbrev pub wins : ExecSetup → List Act → ℕ → ℕ
wins setup [] j = 0
wins setup (act ∷ older) j = if wins_in j act (world_of setup older) then wins setup older j + 1 else wins setup older j

-- whether entry j has taken effect
abbrev pub took : ExecSetup → List Act → ℕ → Bool
took setup acts j = nat_lt 0 (wins setup acts j)
