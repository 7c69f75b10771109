-- What a call through a handle leaves.
use Rattle.std.specs.Prelude.{◌≡◌, ◌<◌, ◌≤◌, length}
use Rattle.lin_report.specs.declared.calls.Op.{Op}
use Rattle.lin_report.specs.declared.calls.Reply.{Reply}
use Rattle.shared_memory.specs.declared.view.View.{View}
use Rattle.handles.specs.Held.{HasCalled}

module _ {C S W : Type 0} where
  -- the handle has made fewer calls than its seat can number
  abbrev pub CanCall : View C S W → Type 0
  CanCall view = length view.receipts < 65535

  -- it has made as many
  abbrev pub IsSpent : View C S W → Type 0
  IsSpent view = 65535 ≤ length view.receipts

  -- one call of this operation was made, and the answer is what the reply of its line tells
  pub record IsAnswered {A : Type 0} (answer_of : Reply → A) (before after : View C S W) (op : Op) (answer : A) : Type 0 where
    pub reply : Reply
    pub called : HasCalled before after op reply
    pub is : answer ≡ answer_of reply

  -- no call was made, and this is the answer
  pub record IsRefused {A : Type 0} (why : A) (before after : View C S W) (answer : A) : Type 0 where
    pub unchanged : after ≡ before
    pub is : answer ≡ why
