-- What a report over command files is: calls in order without a gap, and ticks each once.
use Rattle.std.specs.Prelude.{◌≡◌, ℕ, ◌+◌, ◌-◌, ◌<◌, ◌==◌, List, [], ◌++◌, map, length, count_by, slice_get, slice_index_or, Some, All, AllPairs, Contains}
use Rattle.lin_report.specs.declared.calls.Op.{Op}
use Rattle.lin_report.specs.declared.calls.Receipt.{Receipt}
use Rattle.lin_report.specs.declared.calls.PendingCall.{PendingCall}
use Rattle.lin_report.specs.Calls.{Call, Report, calls_of, IsSameCall}

-- the commands of a seat; a seat without a file has none
abbrev pub file_of : List (List Op) → ℕ → List Op
file_of files seat = slice_index_or files seat []

-- the ticks that were drawn: two for an answered call, one for a pending call
abbrev pub ticks_of : Report → List ℕ
ticks_of report =
    map (λ (r : Receipt). r.begin) report.receipts
    ++ map (λ (r : Receipt). r.end) report.receipts
    ++ map (λ (p : PendingCall). p.begin) report.pending

-- call m of a seat is the m-th command of its file, counted from 1
pub record IsCommand (files : List (List Op)) (c : Call) : Type 0 where
  pub counted : 0 < c.number
  pub command : slice_get (file_of files c.seat) (c.number - 1) ≡ Some c.op

-- the call before c of the same seat was answered before c began; so only a seat's last call is pending
pub record FollowsAnswer (report : Report) (c : Call) : Type 0 where
  pub before : Receipt
  pub answered : Contains report.receipts before
  pub seat : before.seat ≡ c.seat
  pub number : before.number + 1 ≡ c.number
  pub ended : before.end < c.begin

-- the calls of each seat are the first commands of its file, in order without a gap and each once, and
-- the ticks are the numbers below their count, each once
pub record IsReport (files : List (List Op)) (report : Report) : Type 0 where
  pub commands : All (IsCommand files) (calls_of report)
  pub once : AllPairs (λ c d. ¬ IsSameCall c d) (calls_of report)
  pub in_turn : All (λ c. 1 < c.number → FollowsAnswer report c) (calls_of report)
  pub forward : All (λ (r : Receipt). r.begin < r.end) report.receipts
  pub ticks : (t : ℕ) → t < length (ticks_of report) → count_by (λ tick. tick == t) (ticks_of report) ≡ 1
