-- Reports whose calls are placed in a history: the changes of an object, the oldest first, and how many of
-- them there were when each tick was drawn.
use Rattle.std.specs.Prelude.{◌≡◌, ℕ, ◌<◌, ◌≤◌, ◌⊎◌, List, length, map, take, slice_get, Some, IfSome, All, AllPairs, Contains}
use Rattle.lin_report.specs.declared.calls.Client.{Client}
use Rattle.lin_report.specs.declared.calls.Op.{Op}
use Rattle.lin_report.specs.declared.calls.Reply.TheVariants.{Exhausted}
use Rattle.lin_report.specs.declared.calls.Receipt.{Receipt}
use Rattle.lin_report.specs.Object.{Object, object_of, held_after}
use Rattle.lin_report.specs.Calls.{Call, Report, answered_call, calls_of}
use Rattle.lin_report.specs.Report.{IsReport}
use Rattle.lin_report.specs.Linearizable.{Answers, IsLinearizable}

-- a change of the object: the operation of the NUMBER-th call of a seat
pub record ObjectChange : Type 0 where
  pub seat : ℕ
  pub number : ℕ
  pub op : Op

-- the change that a call makes
abbrev pub change_of : Call → ObjectChange
change_of c = record { seat = c.seat; number = c.number; op = c.op }

-- the change is one of this call
abbrev pub IsChangeOf : ObjectChange → ℕ → ℕ → Type 0
IsChangeOf change seat number = (change.seat ≡ seat) × (change.number ≡ number)

-- what is held after the first changes, as many as this
abbrev pub held_at : (object : Object) → List ObjectChange → ℕ → object.Held
held_at object history count = held_after object object.empty (map (λ (change : ObjectChange). change.op) (take count history))

-- the change at this place is that of a call of the report, was made while the call ran, and the call is
-- answered as the object answers there
pub record MadeByCall (object : Object) (history : List ObjectChange) (count_at : ℕ → ℕ) (report : Report) (place : ℕ) : Type 0 where
  pub call : Call
  pub known : Contains (calls_of report) call
  pub change : slice_get history place ≡ Some (change_of call)
  pub begun : count_at call.begin ≤ place
  pub ended : IfSome call.answer (λ answer. place < count_at answer.1)
  pub reply : Answers call.answer (object.apply call.op (held_at object history place)).1

-- after some count of changes, which there were at some time while the call ran, it leaves what is held as it
-- is, and is answered as the object answers there
pub record HasObserved (object : Object) (history : List ObjectChange) (count_at : ℕ → ℕ) (r : Receipt) : Type 0 where
  pub count : ℕ
  pub begun : count_at r.begin ≤ count
  pub ended : count ≤ count_at r.end
  pub leaves : (object.apply r.op (held_at object history count)).0 ≡ held_at object history count
  pub told : r.reply ≡ (object.apply r.op (held_at object history count)).1

-- an answered call is exhausted, has its change in the history, or has observed
abbrev pub IsAccounted : Object → List ObjectChange → (ℕ → ℕ) → Receipt → Type 0
IsAccounted object history count_at r =
    (r.reply ≡ Exhausted) ⊎ (Contains history (change_of (answered_call r)) ⊎ HasObserved object history count_at r)

-- a report whose calls are placed in a history: the counts never fall, each change was made by a call of the
-- report, no two by the same one, and each answered call is accounted for
pub record IsPlaced (object : Object) (history : List ObjectChange) (count_at : ℕ → ℕ) (report : Report) : Type 0 where
  pub rising : (t u : ℕ) → t ≤ u → count_at t ≤ count_at u
  pub within : (t : ℕ) → count_at t ≤ length history
  pub made : (place : ℕ) → place < length history → MadeByCall object history count_at report place
  pub once : AllPairs (λ earlier later. ¬ IsChangeOf earlier later.seat later.number) history
  pub accounted : All (IsAccounted object history count_at) report.receipts

-- a report whose calls are placed in a history is linearizable, whatever the client
abbrev pub PlacedIsLinearizable : Type 0
PlacedIsLinearizable =
    (client : Client) (files : List (List Op)) (report : Report) (history : List ObjectChange) (count_at : ℕ → ℕ)
    → IsReport files report → IsPlaced (object_of client) history count_at report → IsLinearizable (object_of client) report
