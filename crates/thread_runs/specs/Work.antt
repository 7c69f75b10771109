-- What a worker has to do, and what it has done.
use Rattle.std.specs.Prelude.{◌≡◌, ℕ, ◌+◌, ◌≤◌, true, List, [], ◌∷◌, ◌++◌, length, All}
use Rattle.lin_report.specs.declared.calls.Op.{Op}
use Rattle.lin_report.specs.declared.calls.Receipt.{Receipt}
use Rattle.lin_report.specs.Object.{IsCommandOf, Object}
use Rattle.normal_traits.specs.NormalForm.{NormalForm}
use Rattle.fast_slow_engine.specs.Mechs.{Mech}
use Rattle.fast_slow_engine.specs.PhaseTable.{rests}
use Rattle.move_orders.specs.SeatLines.{ops_of}
use Rattle.shared_memory.specs.declared.view.View.{View}
use Rattle.shared_memory.specs.Views.{RunsOnFrom}

-- r is the last one of these
abbrev pub IsLast : List Receipt → Receipt → Type 0
IsLast rs r = (older : List Receipt) × (rs ≡ older ++ r ∷ [])

module _ {C S W : Type 0} where
  -- the machine is that of the view, and no call of it runs
  pub record RestsIn (v : View C S W) (mech : Mech S W) : Type 0 where
    pub same : mech ≡ v.machine
    pub idle : rests mech.phase ≡ true

  -- within the call of op that began at the view v0
  pub record Under (form : NormalForm S W) (v0 : View C S W) (op : Op) (v : View C S W) (mech : Mech S W) : Type 0 where
    pub follows : RunsOnFrom form v mech
    pub number : mech.number ≡ v0.machine.number + 1
    pub of_op : mech.op ≡ op
    pub of_seat : mech.seat ≡ v0.machine.seat
    pub of_run : mech.setup ≡ v0.machine.setup
    pub same : v ≡ record v0 { machine = v.machine }

  abbrev pub after_call : View C S W → Mech S W → Receipt → View C S W
  after_call v mech r = record v { machine = mech; receipts = v.receipts ++ r ∷ [] }

  -- a call of op was made: the view has its line, and no call runs
  pub record HasMade (op : Op) (v0 v : View C S W) (mech : Mech S W) (r : Receipt) : Type 0 where
    pub rest : RestsIn v mech
    pub number : mech.number ≡ v0.machine.number + 1
    pub of_op : r.op ≡ op
    pub of_seat : mech.seat ≡ v0.machine.seat
    pub of_run : mech.setup ≡ v0.machine.setup
    pub view : v ≡ after_call v0 mech r

  -- the worker was not begun, its file is of commands, and it has room for each line
  pub record CanWork (object : Object) (v : View C S W) (mech : Mech S W) (commands : List Op) (receipts : List Receipt) (room : ℕ) : Type 0 where
    pub rest : RestsIn v mech
    pub first : mech.number ≡ 0
    pub none_yet : v.receipts ≡ []
    pub none_kept : receipts ≡ []
    pub few : length commands ≤ 65535
    pub each : All (IsCommandOf object) commands
    pub for_all : length commands ≤ room

  -- the lines are those of the view, and their operations are these commands
  pub record Worked (v0 v : View C S W) (mech : Mech S W) (commands : List Op) (receipts : List Receipt) : Type 0 where
    pub rest : RestsIn v mech
    pub view : v ≡ record v0 { machine = mech; receipts = receipts }
    pub ops : ops_of receipts ≡ commands
    pub of_seat : mech.seat ≡ v0.machine.seat
    pub of_run : mech.setup ≡ v0.machine.setup
