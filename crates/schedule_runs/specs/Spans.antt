-- How many steps an entry of a schedule is.
use Rattle.std.specs.Prelude.{◌≡◌, ℕ, zero, suc, ◌-◌, ◌<◌, ◌≤◌, Bool, true, false, not, ◌||◌}
use Rattle.script_reader.specs.declared.schedules.ScheduleEntry.{ScheduleEntry}
use Rattle.script_reader.specs.declared.schedules.Span.{Span}
use Rattle.script_reader.specs.declared.schedules.Span.TheVariants.{Steps, ToEnd, ToExchange}
use Rattle.script_reader.specs.Schedules.{STEP_LIMIT}
use Rattle.normal_traits.specs.NormalForm.{NormalForm}
use Rattle.event_core.specs.declared.cores.CoreTurn.{CoreTurn}
use Rattle.event_core.specs.declared.cores.CoreTurn.TheVariants.{Idle, Going, Returned}
use Rattle.event_core.specs.Cores.{CoreView, core_stepped, core_turn, next_listed}

-- whether a step was made and its call goes on
abbrev pub goes_on : CoreTurn → Bool
goes_on Idle = false
goes_on Going = true
goes_on Returned = false

-- of the numbers from 1 to the limit, n is the first at which this holds, or the limit where it holds at none
pub record IsFirst (holds : ℕ → Bool) (n : ℕ) : Type 0 where
  pub some : 1 ≤ n
  pub most : n ≤ STEP_LIMIT
  pub before : (m : ℕ) → 1 ≤ m → m < n → holds m ≡ false
  pub here : n < STEP_LIMIT → holds n ≡ true

module _ {S W : Type 0} (form : NormalForm S W) where
  -- the run after so many steps of a seat
  abbrev pub after_steps : ℕ → CoreView S W → ℕ → CoreView S W
  after_steps seat view zero = view
  after_steps seat view (suc n) = core_stepped form seat (after_steps seat view n)

  -- whether the n-th of them, counted from 1, ends a call or finds the seat idle
  abbrev pub ends_at : ℕ → CoreView S W → ℕ → Bool
  ends_at seat view n = not (goes_on (core_turn form seat (after_steps seat view (n - 1))))

  -- whether it does, or the seat's next request after it is the exchange of an entry of a list
  abbrev pub reaches_at : ℕ → CoreView S W → ℕ → Bool
  reaches_at seat view n = ends_at seat view n || next_listed seat (after_steps seat view n)

  -- how many steps of a seat a span is
  abbrev pub SpanIs : ℕ → CoreView S W → Span → ℕ → Type 0
  SpanIs seat view (Steps count) n = n ≡ count
  SpanIs seat view ToEnd n = IsFirst (ends_at seat view) n
  SpanIs seat view ToExchange n = IsFirst (reaches_at seat view) n

  -- how many steps an entry is in this run
  abbrev pub StepsOf : ScheduleEntry → CoreView S W → ℕ → Type 0
  StepsOf entry view n = SpanIs entry.seat view entry.span n
