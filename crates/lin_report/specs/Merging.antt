-- Which call has the next line, where the answered and the pending ones each rise by begin.
use Rattle.std.specs.Prelude.{ℕ, ◌<◌, ◌≤◌, List, length, slice_index_or}
use Rattle.lin_report.specs.declared.calls.Receipt.{Receipt}
use Rattle.lin_report.specs.declared.calls.PendingCall.{PendingCall}

-- of the calls from these places on an answered one began first
pub record AnsweredIsNext (receipts : List Receipt) (pending : List PendingCall) (i j : ℕ) : Type 0 where
  pub left : i < length receipts
  pub first : (r : Receipt) (p : PendingCall) → j < length pending → (slice_index_or receipts i r).begin < (slice_index_or pending j p).begin

-- of the calls from these places on a pending one began first
pub record PendingIsNext (receipts : List Receipt) (pending : List PendingCall) (i j : ℕ) : Type 0 where
  pub left : j < length pending
  pub first : (r : Receipt) (p : PendingCall) → i < length receipts → (slice_index_or pending j p).begin ≤ (slice_index_or receipts i r).begin
