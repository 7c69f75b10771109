-- What is held between two calls of a handle, and what a call leaves.
use Rattle.std.specs.Prelude.{◌≡◌, ◌≤◌, length}
use Rattle.lin_report.specs.declared.calls.Op.{Op}
use Rattle.lin_report.specs.declared.calls.Receipt.{Receipt}
use Rattle.lin_report.specs.declared.calls.Reply.{Reply}
use Rattle.fast_slow_engine.specs.Mechs.{Mech}
use Rattle.shared_memory.specs.declared.view.View.{View}
use Rattle.thread_runs.specs.Work.{RestsIn, after_call}

module _ {C S W : Type 0} where
  -- the machine of a handle is that of its port, no call of it runs, and each call has its line
  pub record IsHeld (view : View C S W) (mech : Mech S W) : Type 0 where
    pub rest : RestsIn view mech
    pub count : mech.number ≡ length view.receipts
    pub few : mech.number ≤ 65535

  -- one call of this operation was made: the view has one line more, which is of it and tells this reply, and beside
  -- that only the machine is another
  pub record HasCalled (before after : View C S W) (op : Op) (reply : Reply) : Type 0 where
    pub line : Receipt
    pub of_op : line.op ≡ op
    pub told : line.reply ≡ reply
    pub of_seat : after.machine.seat ≡ before.machine.seat
    pub of_run : after.machine.setup ≡ before.machine.setup
    pub is : after ≡ after_call before after.machine line
