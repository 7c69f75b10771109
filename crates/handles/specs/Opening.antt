-- The handles that a structure is opened with.
use Rattle.std.specs.Prelude.{◌≡◌, ℕ, zero, suc, ◌-◌, ◌<◌, ◌||◌, ltb, if◌then◌else◌, Option, Some, None, false, List, [], length, slice_index_or}
use Rattle.fast_slow_engine.specs.declared.setup.Setup.{Setup}
use Rattle.fast_slow_engine.specs.PhaseTable.{mech_new}
use Rattle.shared_memory.specs.declared.view.View.{View}
use Rattle.shared_memory.specs.Views.{Face, Memory, new_view}
use Rattle.thread_runs.specs.Placed.{root_view}
use Rattle.handles.specs.declared.opening.OpenError.{OpenError}
use Rattle.handles.specs.declared.opening.OpenError.TheVariants.{Seats, Capacity, Limit}

-- the first of the three numbers that is out of its bounds: 1 to 8 seats, 1 to 65,536 blocks, 0 to 255 failures
abbrev pub bad_number : ℕ → ℕ → ℕ → Option OpenError
bad_number seats cap limit =
    if ltb seats 1 || ltb 8 seats then Some Seats
    else if ltb cap 1 || ltb 65536 cap then Some Capacity
    else if ltb 255 limit then Some Limit
    else None

-- a setup of these three numbers
pub record HasNumbers (setup : Setup) (count blocks failures : ℕ) : Type 0 where
  pub seats : setup.seats ≡ count
  pub cap : setup.cap ≡ blocks
  pub limit : setup.limit ≡ failures

module _ {C S W : Type 0} where
  -- the view that the handle of a seat has when the structure is opened: that of seat 0 counts the others
  abbrev pub opening_view : Setup → ℕ → View C S W
  opening_view setup zero = root_view setup (setup.seats - 1)
  opening_view setup (suc seat) = new_view (suc seat) setup false

  -- the handle of this seat as the structure is opened
  pub record IsNewHandle (memory : Memory) (seat : ℕ) (handle : Face C S W) : Type 0 where
    pub table : handle.table ≡ memory.table
    pub view : handle.view ≡ opening_view memory.setup seat

  -- a view as it was before its seat made any call
  abbrev pub before_calls : View C S W → View C S W
  before_calls v = record v { machine = mech_new v.machine.seat v.machine.setup; receipts = [] }

  -- a handle of this seat of the structure, which may have made calls
  pub record IsHandleOf (memory : Memory) (seat : ℕ) (handle : Face C S W) : Type 0 where
    pub table : handle.table ≡ memory.table
    pub opened : before_calls handle.view ≡ opening_view memory.setup seat

  -- these are all handles of the structure, that of seat i at place i
  pub record AreAllHandles (memory : Memory) (handles : List (Face C S W)) : Type 0 where
    pub count : length handles ≡ memory.setup.seats
    pub each : (seat : ℕ) (d : Face C S W) → seat < length handles → IsHandleOf memory seat (slice_index_or handles seat d)

  -- what a thread that has a handle leaves of it: it is of the same table and the same seat
  pub record IsSameHandle (before after : Face C S W) : Type 0 where
    pub table : after.table ≡ before.table
    pub opened : before_calls after.view ≡ before_calls before.view
