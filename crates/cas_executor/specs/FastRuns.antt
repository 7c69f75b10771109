-- The list of a fast call, executed by its own seat: the exchanges in order until one is lost.
use Rattle.std.specs.Prelude.{ℕ, ◌+◌, ◌<◌, ◌≤◌, ◌==◌, if◌then◌else◌, List, length, slice_get, Option, Some, None}
use Rattle.step_memory.specs.declared.steps.Request.{Request}
use Rattle.step_memory.specs.declared.steps.Request.TheVariants.{Load, Exchange}
use Rattle.step_memory.specs.declared.steps.Seen.{Seen}
use Rattle.normal_traits.specs.declared.lists.Entry.{Entry}
use Rattle.cas_executor.specs.declared.fast_run.Execution.{Execution}
use Rattle.cas_executor.specs.declared.fast_run.Execution.TheVariants.{Running, Stopped}

-- a list, and the place in it of the next exchange
pub record FastWalk : Type 0 where
  pub entries : List Entry
  pub next : ℕ

-- the list has one or two entries
abbrev pub IsShort : List Entry → Type 0
IsShort entries = (0 < length entries) × (length entries ≤ 2)

-- an exchange is still to be made
abbrev pub IsRunning : FastWalk → Type 0
IsRunning walk = (walk.next < length walk.entries) × (length walk.entries ≤ 2)

-- the exchange of an entry
abbrev pub exchange_of : Option Entry → Request
exchange_of None = Load 0
exchange_of (Some entry) = Exchange entry.target entry.from entry.to

-- the next exchange
abbrev pub fast_request : FastWalk → Request
fast_request walk = exchange_of (slice_get walk.entries walk.next)

-- where the list stopped, if the next exchange ends so: at the first that was lost, or at its length
abbrev pub fast_execution : FastWalk → Seen → Execution
fast_execution walk seen =
    if seen.won
    then (if walk.next + 1 == length walk.entries then Stopped (length walk.entries) else Running)
    else Stopped walk.next

-- a won exchange is followed by the next one
abbrev pub fast_fed : FastWalk → Seen → FastWalk
fast_fed walk seen = record { entries = walk.entries; next = if seen.won then walk.next + 1 else walk.next }
