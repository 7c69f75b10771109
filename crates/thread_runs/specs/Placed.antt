-- A worker that stands in its place, before and after it ran.
use Rattle.std.specs.Prelude.{◌≡◌, ℕ, ◌+◌, ◌-◌, List, [], ◌∷◌, ◌++◌, length, vec_capacity, true}
use Rattle.atomic_table.specs.Seated.{TableId}
use Rattle.lin_report.specs.Object.{Object}
use Rattle.lin_report.specs.declared.calls.Op.{Op}
use Rattle.lin_report.specs.declared.calls.Receipt.{Receipt}
use Rattle.fast_slow_engine.specs.declared.setup.Setup.{Setup}
use Rattle.fast_slow_engine.specs.Mechs.{Mech}
use Rattle.fast_slow_engine.specs.PhaseTable.{rests}
use Rattle.shared_memory.specs.declared.view.View.{View}
use Rattle.shared_memory.specs.declared.view.Gathered.{Gathered}
use Rattle.shared_memory.specs.Views.{first_view}
use Rattle.thread_runs.specs.declared.worker.Worker.{Worker}
use Rattle.thread_runs.specs.Work.{CanWork}

-- the seats n - 1, n - 2, .. with these lines
abbrev pub gathers : ℕ → List (List Receipt) → List Gathered
gathers n [] = []
gathers n (r ∷ rs) = record { seat = n - 1; receipts = r } ∷ gathers (n - 1) rs

module _ {C S W : Type 0} where
  -- the view of seat 0 once so many numbers were split off
  abbrev pub root_view : Setup → ℕ → View C S W
  root_view setup made = record (first_view setup) { made = made }

  pub record IsPlaced (object : Object) (table : TableId) (v : View C S W) (file : List Op) (w : Worker C S W) : Type 0 where
    pub view : w.port.view ≡ v
    pub of_table : w.port.table ≡ table
    pub commands : w.commands.items ≡ file
    pub ready : CanWork object w.port.view w.machine w.commands.items w.receipts.items (vec_capacity w.receipts)

  -- a view that was v0 when its worker began
  pub record Ended (v0 v : View C S W) (mech : Mech S W) (receipts : List Receipt) : Type 0 where
    pub is : v ≡ record v0 { machine = mech; receipts = receipts }
    pub idle : rests mech.phase ≡ true
    pub seat : mech.seat ≡ v0.machine.seat
    pub setup : mech.setup ≡ v0.machine.setup

  -- its port began with the view v, and is idle
  abbrev pub HasPort : TableId → View C S W → Worker C S W → Type 0
  HasPort table v w = (w.port.table ≡ table) × Ended v w.port.view w.machine w.receipts.items

  -- n seats, of which seat 0 has taken in the others: the lines are listed from the last seat down to seat 0
  pub record Gathers (setup : Setup) (n : ℕ) (v : View C S W) (all : List (List Receipt)) : Type 0 where
    pub older : List (List Receipt)
    pub lines : all ≡ older ++ v.receipts ∷ []
    pub count : length older + 1 ≡ n
    pub idle : rests v.machine.phase ≡ true
    pub of_zero : v.machine.seat ≡ 0
    pub of_run : v.machine.setup ≡ setup
    pub is : v ≡ record (root_view setup (n - 1)) { machine = v.machine; receipts = v.receipts; gathered = gathers n older }
