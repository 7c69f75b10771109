use Rattle.std.proofs.Common.{◌≡◌, ◌≢◌, ℕ, ◌<◌, ◌≤◌}
use Rattle.overtaking_law.specs.OpenCalls.{open_call_of, overtaken_so_far, after_return}
use Rattle.overtaking_law.proofs.open_calls.overtake.Given as goal

-- the calls below the place are done, the others as they were, and the greatest count so far is that of a
-- call of another seat
abbrev pub invariant-loop-place : goal.invariant-loop-place
invariant-loop-place l = record {
  done : (p : ℕ) → p < l.place → open_call_of l.calls p ≡ after_return l.seat p (open_call_of l.initial.calls p);
  left : (p : ℕ) → l.place ≤ p → open_call_of l.calls p ≡ open_call_of l.initial.calls p;
  bound : (p : ℕ) → p < l.place → p ≢ l.seat → overtaken_so_far (open_call_of l.calls p) ≤ l.most;
  reached : 0 < l.most → (p : ℕ) × (p < l.place) × (p ≢ l.seat) × (overtaken_so_far (open_call_of l.calls p) ≡ l.most);
}
